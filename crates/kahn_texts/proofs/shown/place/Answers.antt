use Rattle.std.proofs.Common.{◌∙◌, rules}
use Rattle.kahn_texts.proofs.Characters.{same_column, same_line}
use Rattle.kahn_texts.proofs.shown.place.Goals as goal

pub returns-clause-line : goal.returns-clause-line
returns-clause-line c = c.place.ensures.line ∙ same_line c.args.text.now c.args.from c.min-from.result (search rules)

pub returns-clause-column : goal.returns-clause-column
returns-clause-column c = c.place.ensures.column ∙ same_column c.args.text.now c.args.from c.min-from.result (search rules)
