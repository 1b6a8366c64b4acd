use Rattle.kahn_code.proofs.code.compile.Given as goal

abbrev pub ghost-named : goal.ghost-named
ghost-named g a = a._network.now
