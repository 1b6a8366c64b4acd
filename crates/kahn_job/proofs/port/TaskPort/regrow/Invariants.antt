use Rattle.kahn_job.proofs.port.TaskPort.regrow.Given as goal

abbrev pub ghost-regrow : goal.ghost-regrow
ghost-regrow a = a._input.now
