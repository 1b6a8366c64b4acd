use Rattle.kahn_pool.proofs.Common.{◌≡◌, vec_capacity, AreEndsOfTasks}
use Rattle.kahn_pool.proofs.held.ends_of.Given as goal

abbrev pub invariant-loop-instance : goal.invariant-loop-instance
invariant-loop-instance l = record {
  ends : AreEndsOfTasks l.part.network.now l.part.input.now l.tasks l.ends.items l.instance;
  room : vec_capacity l.ends ≡ vec_capacity l.fn.ends;
}
