use Rattle.kahn_streams.proofs.queued.queued_of.Given as goal

abbrev pub ghost-named : goal.ghost-named
ghost-named g a = g.token
