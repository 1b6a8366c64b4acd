use Rattle.kahn_streams.proofs.tokens.token_in.Given as goal

abbrev pub ghost-of_word : goal.ghost-of_word
ghost-of_word g a = g.names
