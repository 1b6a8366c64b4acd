use Rattle.kahn_sequential.proofs.bench.Sequential.pour.Given as goal

abbrev pub ghost-pour : goal.ghost-pour
ghost-pour g a = g.input
