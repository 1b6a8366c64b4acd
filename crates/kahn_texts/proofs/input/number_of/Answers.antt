use Rattle.kahn_texts.proofs.Words.{number_utf8}
use Rattle.kahn_texts.proofs.input.number_of.Goals as goal

pub returns-in-Err : goal.returns-in-Err
returns-in-Err c = λ number h. c.in-Err.ensures.cases.0 (number_utf8 c.args.word.now number h)
