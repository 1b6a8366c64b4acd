use Rattle.kahn_code.proofs.{Bodies.Declares, Lists.AreFirst}
use Rattle.kahn_code.proofs.code.process_codes.Given as goal

abbrev pub invariant-loop-declaration : goal.invariant-loop-declaration
invariant-loop-declaration g l = AreFirst (Declares l.declarations) l.process_codes.items l.declaration-index
