use Rattle.kahn_streams.proofs.carried.carried_of.Given as goal

abbrev pub ghost-named : goal.ghost-named
ghost-named g a = g.token
