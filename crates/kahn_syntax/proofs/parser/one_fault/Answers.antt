use Rattle.kahn_syntax.proofs.Parsing.{one_fault}
use Rattle.kahn_syntax.proofs.parser.one_fault.Goals as goal

pub returns : goal.returns
returns c = one_fault
