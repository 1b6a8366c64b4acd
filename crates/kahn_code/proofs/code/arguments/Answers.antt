use Rattle.kahn_code.proofs.Common.{◌∙◌, ◌++◌, sym, ap, map, actuals_of, channel_names, network_of, opening_of, use_of, IsCompiled}
use Rattle.kahn_code.proofs.{Bodies.process_code_made, Lists.one_first}
use Rattle.kahn_code.proofs.code.arguments.Goals as goal

pub loop-number-preserved : goal.loop-number-preserved
loop-number-preserved g c =
    let t = c.args.network.now in
    let names = channel_names t in
    let made = c.instance-made in
    let xs = made.result.arguments.now in
    let acts = ap (λ ps. actuals_of names ps xs) c.deref.ensures.value ∙ ap (λ i. i.actuals) (sym made.ensures.made) in
    let e = c.in_ok-add_arguments.ensures in
    one_first (IsCompiled c.args._process_codes.now (network_of t)) c.loop-number.arguments.items c.push.new.self.items _ c.loop-number.number c.loop-number.invariant c.in_ok-push.ensures.items (
      record {
        handed = e.handed ∙ ap (λ k. k ++ map opening_of (actuals_of names c.deref.result.now xs)) c.new-handed.ensures.items ∙ ap (map opening_of) acts;
        uses = e.uses ∙ ap (λ k. k ++ map (use_of (network_of t)) (actuals_of names c.deref.result.now xs)) c.new-uses.ensures.items ∙ ap (map (use_of (network_of t))) acts;
      },
      process_code_made c.args._process_codes.now t c.loop-number.number made.result.declaration names made.result.process.now xs c.requires made.ensures.number made.ensures.made,
    )
