use Rattle.std.proofs.Common.{inr, refl}
use Rattle.kahn_program_notes.proofs.syntax.unexpected.heading_at.Goals as goal

pub returns-in-Some : goal.returns-in-Some
returns-in-Some c = inr (c.in-Some.fix, c.in-Some.is, refl)
