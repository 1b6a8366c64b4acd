use Rattle.kahn_sequential.proofs.bench.Sequential.new.Given as goal

abbrev pub ghost-named_taps : goal.ghost-named_taps
ghost-named_taps a = a._input.now
