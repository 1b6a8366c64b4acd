use Rattle.kahn_crew.proofs.Common.{◌≡◌, ◌≤◌, length, vec_capacity}
use Rattle.kahn_crew.proofs.opening.bare_hints.Given as goal

abbrev pub invariant-loop : goal.invariant-loop
invariant-loop l = (length l.all.items ≡ l.counter) × (l.workers ≤ vec_capacity l.all)
