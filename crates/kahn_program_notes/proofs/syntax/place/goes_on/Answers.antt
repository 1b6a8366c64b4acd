use Rattle.std.proofs.Common.{inl}
use Rattle.kahn_program_notes.proofs.syntax.place.goes_on.Goals as goal

pub returns-in-Ok : goal.returns-in-Ok
returns-in-Ok c h = inl (c.in-Ok._program, c.in-Ok.ensures.spells)
