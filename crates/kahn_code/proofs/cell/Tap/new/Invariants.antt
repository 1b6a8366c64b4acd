use Rattle.kahn_code.proofs.cell.Tap.new.Given as goal

abbrev pub ghost-assembled : goal.ghost-assembled
ghost-assembled g a = record { network = a._code.now.network.value; input = g.input }
