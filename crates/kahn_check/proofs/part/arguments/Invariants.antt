use Rattle.kahn_check.proofs.Common.{drop, known}
use Rattle.kahn_check.proofs.Told.{AreLeft}
use Rattle.kahn_check.proofs.part.arguments.Given as goal

abbrev pub invariant-loop-number : goal.invariant-loop-number
invariant-loop-number l =
    AreLeft (known l.globals) l.instance l.number (drop l.number l.parameters) (drop l.number l.arguments) l.writers l.readers l.found l.parameters l.arguments l.fn.writers l.fn.readers l.fn.first
