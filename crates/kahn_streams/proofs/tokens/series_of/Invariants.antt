use Rattle.kahn_streams.proofs.tokens.series_of.Given as goal

abbrev pub ghost-named : goal.ghost-named
ghost-named g a = g.tokens
