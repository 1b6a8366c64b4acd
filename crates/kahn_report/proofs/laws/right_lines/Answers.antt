use Rattle.kahn_texts.proofs.Answer_lines
use Rattle.kahn_report.proofs.laws.right_lines.Goals as goal

pub returns : goal.returns
returns c t I bound watch a right = Answer_lines.right_lines t watch a right.named
