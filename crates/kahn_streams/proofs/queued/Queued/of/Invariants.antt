use Rattle.kahn_streams.proofs.queued.Queued.of.Given as goal

abbrev pub ghost-queued_of : goal.ghost-queued_of
ghost-queued_of a = a._named.now
