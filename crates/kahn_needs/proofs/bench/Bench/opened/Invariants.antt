use Rattle.kahn_needs.proofs.bench.Bench.opened.Given as goal

abbrev pub ghost-named_cells : goal.ghost-named_cells
ghost-named_cells a = a._input.now
