use Rattle.std.proofs.Common.{arith}
use Rattle.kahn_expected.proofs.Walking.{one_on}
use Rattle.kahn_expected.proofs.found.awaited_behind.Goals as goal

pub loop-lexeme-preserved : goal.loop-lexeme-preserved
loop-lexeme-preserved c text = one_on text c.args.lexemes.now c.loop-lexeme.lexeme-index _ _ _ _ (omega arith) c.in_ok-pass.ensures.1 (c.loop-lexeme.invariant text)
