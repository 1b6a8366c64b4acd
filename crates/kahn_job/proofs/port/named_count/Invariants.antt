use Rattle.kahn_job.proofs.port.named_count.Given as goal

abbrev pub ghost-named : goal.ghost-named
ghost-named g a = g.number
