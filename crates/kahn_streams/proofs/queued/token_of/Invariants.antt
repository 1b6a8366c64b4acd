use Rattle.kahn_streams.proofs.queued.token_of.Given as goal

abbrev pub ghost-of_word : goal.ghost-of_word
ghost-of_word g a = g.names
