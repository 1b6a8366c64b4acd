use Rattle.kahn_code.proofs.cell.Tap.regrow.Given as goal

abbrev pub ghost-named : goal.ghost-named
ghost-named g a = g.input
