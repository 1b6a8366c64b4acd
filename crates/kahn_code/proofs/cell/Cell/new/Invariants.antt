use Rattle.kahn_code.proofs.cell.Cell.new.Given as goal

abbrev pub ghost-new : goal.ghost-new
ghost-new g a = g.input
