use Rattle.kahn_job.proofs.Common.{◌≡◌, ◌≤◌, replicate, vec_capacity, no_end}
use Rattle.kahn_job.proofs.handing.bare_job.Given as goal

abbrev pub invariant-loop : goal.invariant-loop
invariant-loop g l = (l.ports.items ≡ replicate l.counter no_end) × (l.parameters ≤ vec_capacity l.ports)

abbrev pub ghost-new : goal.ghost-new
ghost-new g a = g.input
