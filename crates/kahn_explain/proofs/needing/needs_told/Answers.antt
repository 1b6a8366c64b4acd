use Rattle.kahn_explain.proofs.needing.needs_told.Goals as goal

pub returns-in-Ok : goal.returns-in-Ok
returns-in-Ok c = (c.in_ok-input.input, c.in_ok-input.ensures.read, c.in-Ok.ensures)
