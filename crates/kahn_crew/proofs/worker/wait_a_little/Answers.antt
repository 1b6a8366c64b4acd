use Rattle.kahn_crew.proofs.Common.{refl}
use Rattle.kahn_crew.proofs.Round.{still_same}
use Rattle.kahn_crew.proofs.worker.wait_a_little.Goals as goal

pub look_round-found-requires : goal.look_round-found-requires
look_round-found-requires c = c.loop-look.invariant.1

pub loop-look-preserved : goal.loop-look-preserved
loop-look-preserved c = still_same c.args.run.now c.args.worker.now c.loop-look.worker c.look_round-found.new.worker c.loop-look.invariant.0 (c.look_round-found.ensures.same, c.look_round-found.ensures.looked refl)
