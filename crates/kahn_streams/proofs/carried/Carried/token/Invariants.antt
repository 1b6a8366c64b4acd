use Rattle.kahn_streams.proofs.carried.Carried.token.Given as goal

abbrev pub ghost-token_of : goal.ghost-token_of
ghost-token_of a =
    let t = a._carried.now in record { network = t.network.value; input = t.input.value }
