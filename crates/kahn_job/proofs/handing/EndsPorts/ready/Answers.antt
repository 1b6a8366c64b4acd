use Rattle.kahn_job.proofs.Berthed.{same_ends}
use Rattle.kahn_job.proofs.handing.EndsPorts.ready.Goals as goal

pub returns-clause-which : goal.returns-clause-which
returns-clause-which c = let p = c.args.self.now.ports in same_ends p.ghost_name c.args.parameter p.now.items c.index_mut.result.now c.ready.new.self c.index_mut.ensures.value c.ready.ensures.advances.0
