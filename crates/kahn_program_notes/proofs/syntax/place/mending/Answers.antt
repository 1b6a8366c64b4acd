use Rattle.std.proofs.Common.{rules}
use Rattle.kahn_program_notes.proofs.syntax.place.mending.Goals as goal

-- The text that was tried is the text with the change.
pub returns-then-branch : goal.returns-then-branch
returns-then-branch c = (c.as_str.result.now, search rules, c.in_ok-goes_on.ensures c.if-branch.true)
