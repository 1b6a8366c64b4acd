use Rattle.kahn_streams.proofs.token.Token.moved.Given as goal

abbrev pub ghost-named_by_two : goal.ghost-named_by_two
ghost-named_by_two a = record { network = a._x.now.network.value; input = a._y.now }
