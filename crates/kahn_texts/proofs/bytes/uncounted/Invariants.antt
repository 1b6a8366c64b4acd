use Rattle.kahn_texts.proofs.bytes.uncounted.Given as goal

abbrev pub ghost-named : goal.ghost-named
ghost-named a = 0
