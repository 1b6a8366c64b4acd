use Rattle.kahn_code.proofs.queue.lift.Given as goal

abbrev pub ghost-named_token : goal.ghost-named_token
ghost-named_token a = record { network = a._network.now.value; input = a._input.now.value }
