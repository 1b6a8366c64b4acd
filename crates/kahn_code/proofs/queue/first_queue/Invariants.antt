use Rattle.kahn_code.proofs.queue.first_queue.Given as goal

abbrev pub ghost-new : goal.ghost-new
ghost-new g a = record { network = a._network.now; input = a._input.now }
