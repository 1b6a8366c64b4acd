use Rattle.kahn_code.proofs.plain.token_for.Given as goal

abbrev pub ghost-of_word : goal.ghost-of_word
ghost-of_word g a = g.names
