use Rattle.kahn_streams.proofs.queued.Queued.token.Given as goal

abbrev pub ghost-token_of : goal.ghost-token_of
ghost-token_of a =
    let t = a._queued.now in record { network = t.network.value; input = t.input.value }
