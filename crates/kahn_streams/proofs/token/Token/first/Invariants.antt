use Rattle.kahn_streams.proofs.token.Token.first.Given as goal

abbrev pub ghost-named_by_two : goal.ghost-named_by_two
ghost-named_by_two a = record { network = a._x.now; input = a._y.now }
