use Rattle.kahn_check.proofs.names.in_order.Given as goal

abbrev pub ghost-named : goal.ghost-named
ghost-named g a = g.list
