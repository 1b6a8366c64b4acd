use Rattle.kahn_code.proofs.cell.regrown.Given as goal

abbrev pub ghost-regrow : goal.ghost-regrow
ghost-regrow g a = g.input
