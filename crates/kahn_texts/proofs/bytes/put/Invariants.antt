-- What is gone from `rest` was appended, by at most as many writes.
use Rattle.kahn_texts.proofs.Common.{◌≡◌, ℕ, ◌+◌, ◌≤◌, List, ◌++◌, length, Appends}
use Rattle.kahn_texts.proofs.bytes.put.Given as goal

abbrev pub invariant-loop-rest : goal.invariant-loop-rest
invariant-loop-rest g l = (done : List ℕ) × (l.initial.rest ≡ done ++ l.rest) × Appends (g.W.Write.contents l.initial.writer) (g.W.Write.contents l.writer) done × (g.C.CallCount.count l.writes ≤ g.C.CallCount.count l.initial.writes + length done)

abbrev pub decreases-loop-rest : goal.decreases-loop-rest
decreases-loop-rest g l = length l.rest
