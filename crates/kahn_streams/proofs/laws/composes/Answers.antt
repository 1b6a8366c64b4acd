use Rattle.kahn_streams.proofs.laws.composes.Goals as goal
use Rattle.kahn_streams.proofs.Composed
use Rattle.kahn_streams.proofs.Loops

pub returns : goal.returns
returns c = record { expressions = Composed.expressions_compose _; operands = Composed.expressions_compose _; statements = Composed.statements_compose _; loops = Loops.loops_unroll }
