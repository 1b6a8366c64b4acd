use Rattle.kahn_code.proofs.queue.Queue.regrow.Given as goal

abbrev pub ghost-named : goal.ghost-named
ghost-named g a = g.input
