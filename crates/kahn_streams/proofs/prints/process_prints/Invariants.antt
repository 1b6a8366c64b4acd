use Rattle.kahn_streams.proofs.Common.{◌≡◌, drop, prints_in, body_of, names_of}
use Rattle.kahn_streams.proofs.Printing.{any_prints}
use Rattle.kahn_streams.proofs.prints.process_prints.Given as goal

abbrev pub invariant-loop-statement : goal.invariant-loop-statement
invariant-loop-statement l =
    any_prints (names_of l.process) (drop l.statement-index l.statement-items) ≡ prints_in (body_of (names_of l.process) l.process.statements.items)
