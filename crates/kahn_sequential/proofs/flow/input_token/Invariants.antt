use Rattle.kahn_sequential.proofs.flow.input_token.Given as goal

abbrev pub ghost-token_for : goal.ghost-token_for
ghost-token_for a = record { network = a._bench.now.network; input = a._bench.now.input }
