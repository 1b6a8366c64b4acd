use Rattle.kahn_texts.proofs.bytes.one_more.Given as goal

abbrev pub ghost-named : goal.ghost-named
ghost-named g a = g.calls
