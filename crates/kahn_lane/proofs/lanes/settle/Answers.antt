use Rattle.std.proofs.Common.{arith, rules}
use Rattle.kahn_lane.proofs.Common.{subst, sym, ◌∙◌, IsGrown, LaneName, Some, StandFrom, moved_to, tag_name}
use Rattle.kahn_lane.proofs.Places.{same_name}
use Rattle.kahn_lane.proofs.lanes.settle.Goals as goal

pub gather-tokens-requires-clause-grown : goal.gather-tokens-requires-clause-grown
gather-tokens-requires-clause-grown g c =
    let r = c.requires.grown in
    subst (λ (n : LaneName). IsGrown n c.args.input.now) (same_name _ _ (sym r.1 ∙ c.args.sender.named)) r.2

pub invariant_of-behind-clause-hand : goal.invariant_of-behind-clause-hand
invariant_of-behind-clause-hand g c = search rules

pub invariant_of-behind-clause-counted : goal.invariant_of-behind-clause-counted
invariant_of-behind-clause-counted g c =
    let b = c.in-Ok.behind in
    let e = c.in-Ok.ensures in
    omega (arith, b.counted, b.within, e.dry, e.start, c.gather-tokens.ensures.all, c.taken-taken.ensures)

pub invariant_of-behind-clause-placed : goal.invariant_of-behind-clause-placed
invariant_of-behind-clause-placed g c =
    let tokens = c.gather-tokens in
    subst (λ n. StandFrom n c.taken-taken.result tokens.result.items) (sym c.in-Ok.ensures.name.1)
    (subst (λ k. StandFrom (Some (moved_to c.args.input.now (tag_name c.args.sender.tag))) k tokens.result.items) (sym c.taken-taken.ensures) tokens.ensures.placed)

pub invariant_of-behind-clause-within : goal.invariant_of-behind-clause-within
invariant_of-behind-clause-within g c = omega (arith, c.in-Ok.behind.within, c.in-Ok.ensures.dry)

pub invariant_of-behind-clause-roomy : goal.invariant_of-behind-clause-roomy
invariant_of-behind-clause-roomy g c = omega (arith, c.gather-tokens.ensures.room, c.in-Ok.ensures.room)

pub invariant_of-behind-clause-limited : goal.invariant_of-behind-clause-limited
invariant_of-behind-clause-limited g c = omega (arith, c.gather-tokens.ensures.all, c.taken-taken.ensures, c.args.sender.limited)
