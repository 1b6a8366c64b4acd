use Rattle.kahn_crew.proofs.Common.{none-some, same_Some, ◌≡◌, ⊎_elim, sym, ◌∙◌, ap, Some, Side}
use Rattle.kahn_crew.proofs.{Wirings.routed_as, Wirings.routed_inside, Wirings.no_target}
use Rattle.kahn_crew.proofs.worker.target.Goals as goal

pub channel-requires-2 : goal.channel-requires-2
channel-requires-2 c =
    routed_inside c.args.network.now c.program-program.ensures.wired c.args.instance c.args.parameter c.in_ok-channel.channel
    (routed_as c.args.instance c.args.parameter c.requires.code c.in_ok-channel.ensures)

pub returns-in_err-side : goal.returns-in_err-side
returns-in_err-side c =
    let nobody : (s : Side) → c.writer.result ≡ Some s → (s.instance ≡ c.args.instance) × (s.parameter ≡ c.args.parameter) → ⊥ = λ s e h. none-some _ (sym c.in_err-side.was ∙ e) in
    c.from_residual-in_err-side.ensures ∙
    sym (no_target c.args.network.now c.program-program.ensures.wired c.args.instance c.args.parameter c.in_ok-channel.channel c.writer.result
    (routed_as c.args.instance c.args.parameter c.requires.code c.in_ok-channel.ensures) c.writer.ensures.only nobody)

pub returns-else-side-instance : goal.returns-else-side-instance
returns-else-side-instance c =
    let other : (s : Side) → c.writer.result ≡ Some s → (s.instance ≡ c.args.instance) × (s.parameter ≡ c.args.parameter) → ⊥ =
    λ s e h.
    let same : s ≡ c.in_ok-side.side = same_Some _ _ (sym e ∙ c.in_ok-side.was) in
    ⊎_elim (λ f. f.1 (sym (ap (λ (u : Side). u.parameter) same) ∙ h.1)) (λ f. f (sym (ap (λ (u : Side). u.instance) same) ∙ h.0)) c.else-side-instance.either
    in
    sym (no_target c.args.network.now c.program-program.ensures.wired c.args.instance c.args.parameter c.in_ok-channel.channel c.writer.result
    (routed_as c.args.instance c.args.parameter c.requires.code c.in_ok-channel.ensures) c.writer.ensures.only other)
