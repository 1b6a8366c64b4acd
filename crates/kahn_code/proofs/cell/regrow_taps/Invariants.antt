use Rattle.kahn_code.proofs.cell.regrow_taps.Given as goal

abbrev pub ghost-regrow_all : goal.ghost-regrow_all
ghost-regrow_all g a = a._queues.now.input
