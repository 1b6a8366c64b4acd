use Rattle.kahn_explain.proofs.tracing.counted.Goals as goal

pub returns-in-Err : goal.returns-in-Err
returns-in-Err c = (c.in_ok-input.input, c.in_ok-input.ensures.read, c.in-Err.ensures.told)

pub returns-in-Ok : goal.returns-in-Ok
returns-in-Ok c = (c.in_ok-input.input, c.in_ok-input.ensures.read, c.in-Ok.ensures.told)
