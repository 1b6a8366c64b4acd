use Rattle.kahn_code.proofs.cell.assembled.Given as goal

abbrev pub ghost-named : goal.ghost-named
ghost-named g a = g.names.network

abbrev pub ghost-named-2 : goal.ghost-named-2
ghost-named-2 g a = g.names.input
