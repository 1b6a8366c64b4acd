use Rattle.kahn_streams.proofs.token.Token.named_by_two.Given as goal

abbrev pub ghost-of_word : goal.ghost-of_word
ghost-of_word g a = g.names
