use Rattle.kahn_streams.proofs.Common.{◌≡◌, drop, prints_in, Scope, statement_of}
use Rattle.kahn_streams.proofs.Printing.{any_prints}
use Rattle.kahn_streams.proofs.prints.+prints.Given as goal

abbrev pub invariant-loop-inner : goal.invariant-loop-inner
invariant-loop-inner l =
    (names : Scope) → any_prints names (drop l.inner-index l.inner-items) ≡ prints_in (statement_of names l.statement)
