-- What is left is a gap, and the comments before it are passed.
use Rattle.kahn_expected.proofs.Common.{Gap, Passed, ℕ, ◌-◌, ◌≤◌}
use Rattle.kahn_expected.proofs.comments.add_gap.Given as goal

abbrev pub invariant-gap : goal.invariant-gap
invariant-gap l =
    (l.at ≤ l.to) × Gap l.text l.at l.to × ((a : ℕ) → Passed l.text a l.initial.comments.items l.from → Passed l.text a l.comments.items l.at)

abbrev pub decreases-gap : goal.decreases-gap
decreases-gap l = l.to - l.at
