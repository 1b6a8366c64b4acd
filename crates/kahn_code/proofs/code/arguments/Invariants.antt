use Rattle.kahn_code.proofs.Common.{network_of, IsCompiled}
use Rattle.kahn_code.proofs.Lists.{AreFirst}
use Rattle.kahn_code.proofs.code.arguments.Given as goal

abbrev pub invariant-loop-number : goal.invariant-loop-number
invariant-loop-number g l = AreFirst (IsCompiled l._process_codes (network_of l.network)) l.arguments.items l.number
