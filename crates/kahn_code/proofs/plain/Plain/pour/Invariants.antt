use Rattle.kahn_code.proofs.plain.Plain.pour.Given as goal

abbrev pub ghost-regrow_all : goal.ghost-regrow_all
ghost-regrow_all g a = g.input

abbrev pub ghost-named : goal.ghost-named
ghost-named g a = g.input
