use Rattle.kahn_live.proofs.taking.LiveStage.begin.Goals as goal

pub returns-in-Ok-None-clause-begun : goal.returns-in-Ok-None-clause-begun
returns-in-Ok-None-clause-begun g c = rw c.in-Ok-None.field-0-is at c.in-Ok-None.ensures.met
