use Rattle.kahn_sequential.proofs.Common.{◌≡◌, List, Some, sym, subst, IsRightSoFar, Flowing, AreEnded, sight_of, End}
use Rattle.kahn_sequential.proofs.Righted.{right_with}
use Rattle.kahn_sequential.proofs.flow.Flow.ends.Goals as goal

pub returns : goal.returns
returns c v e =
    let i = c.self.inside in
    let b = i.bench in
    let is : i.verdict ≡ Some v = subst (λ (f : Flowing). f.run.verdict ≡ Some v) (sym c.self.view_is) e in
    let ended = subst (AreEnded (sight_of b) i.plan.bound i.budget i.ends.items) is c.self.invariant.ended in
    subst (λ (xs : List End). IsRightSoFar c.args.self.now.run v xs) (sym c.deref.ensures.value)
    (subst (λ (f : Flowing). IsRightSoFar f.run v i.ends.items) c.self.view_is
    (right_with b.network b.input b.watch i.plan b.cells i.verdict ended.1))
