use Rattle.kahn_warnings.proofs.Common.{rules, the_lemmas}
use Rattle.kahn_warnings.proofs.Lists.{row_varies}
use Rattle.kahn_warnings.proofs.sites.+varies.Goals as goal

pub loop-operand-init : goal.loop-operand-init
loop-operand-init t c = search (rules, the_lemmas, row_varies)

pub returns-then-varies : goal.returns-then-varies
returns-then-varies t c = search (rules, the_lemmas, row_varies)
