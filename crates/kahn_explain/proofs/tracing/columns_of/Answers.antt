use Rattle.std.proofs.Common.{Bor}
use Rattle.kahn_explain.proofs.Common.{◌≡◌, ◌∙◌, ◌∷◌, [], ap, append-nil, arith, common_steps, length, map, map-append, subst, sym, network_of, Stream, AreColumns, all_channels}
use Rattle.kahn_explain.proofs.Tables.{are_histories, columns_more}
use Rattle.kahn_explain.proofs.tracing.columns_of.Goals as goal

pub loop-channel-preserved : goal.loop-channel-preserved
loop-channel-preserved c =
    let now : Bor Stream → Stream = λ s. s.now in
    let old = c.loop-channel.columns.items in
    columns_more c.args.network.now c.args.run.now c.loop-channel.channel c.history-stream.result.now (map now old) (map now c.push.new.self.items)
    (ap (map now) c.in_ok-push.ensures.items ∙ map-append now old (c.history-stream.result ∷ [])) c.loop-channel.invariant c.history-stream.ensures

pub loop-stream-init : goal.loop-stream-init
loop-stream-init c =
    let now : Bor Stream → Stream = λ s. s.now in
    let h = c.channels-channel-end.ensures in
    let e : c.loop-channel.channel ≡ length (network_of c.args.network.now).channels = omega (arith, h) in
    record {
      channels = subst (λ n. AreColumns c.args.network.now c.args.run.now (all_channels n) (map now c.loop-channel.columns.items)) e c.loop-channel.invariant;
      prints = sym (append-nil _);
    }

pub loop-stream-preserved : goal.loop-stream-preserved
loop-stream-preserved c = record {
  channels = c.loop-stream.invariant.channels;
  prints = grind (arith, common_steps, c.loop-stream.invariant.prints, c.in_ok-add_print.ensures);
}

pub returns : goal.returns
returns c = are_histories c.args.network.now c.args.run.now _ _ c.loop-stream.invariant.channels (grind (arith, common_steps, c.loop-stream.invariant.prints))
