use Rattle.kahn_code.proofs.cell.Cell.grown.Given as goal

abbrev pub ghost-regrown : goal.ghost-regrown
ghost-regrown g a = a._input.now
