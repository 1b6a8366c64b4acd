use Rattle.kahn_job.proofs.Common.{HasRoom, OnErr, get_or-set_same, no_end, subst, sym}
use Rattle.kahn_job.proofs.Berthed.{same_ends, within_written}
use Rattle.kahn_job.proofs.handing.EndsPorts.room.Goals as goal

pub returns-clause-which : goal.returns-clause-which
returns-clause-which c = let p = c.args.self.now.ports in same_ends p.ghost_name c.args.parameter p.now.items c.index_mut.result.now c.room.new.self c.index_mut.ensures.value c.room.ensures.advances.0

pub returns-clause-full : goal.returns-clause-full
returns-clause-full c =
    let s = c.args.self.now in
    subst (λ e. OnErr c.room.result (HasRoom e → ⊥)) (sym (get_or-set_same s.ports.now.items c.args.parameter c.room.new.self no_end
    (within_written s.network.now s.input.now s.instance s.ports.now.items s.served c.args.parameter c.args._channel c.requires.0))) c.room.ensures.full
