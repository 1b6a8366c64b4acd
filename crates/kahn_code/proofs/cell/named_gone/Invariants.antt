use Rattle.kahn_code.proofs.cell.named_gone.Given as goal

abbrev pub ghost-named : goal.ghost-named
ghost-named g a = g.gone
