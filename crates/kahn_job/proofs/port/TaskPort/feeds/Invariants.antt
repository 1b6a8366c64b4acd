use Rattle.kahn_job.proofs.port.TaskPort.feeds.Given as goal

abbrev pub ghost-of : goal.ghost-of
ghost-of a = record { network = a._network.now; input = a._input.now }
