use Rattle.kahn_board.proofs.Common.{belongs, dealt, wired}
use Rattle.kahn_board.proofs.Lasting.{count_stays, stays_quiet}
use Rattle.kahn_board.proofs.turn.quiet_is_final.Goals as goal

pub returns-clause-steps : goal.returns-clause-steps
returns-clause-steps g c key s rule zero_now j v k me may =
    stays_quiet g.T.Reports.told (belongs g.T.Reports.after key) (wired key) (dealt g.T.Reports.told key) s rule zero_now j v me k may

pub returns-clause-stays : goal.returns-clause-stays
returns-clause-stays g c key s rule zero_now j v u i n slots a me few later =
    count_stays g.T.Reports.told (belongs g.T.Reports.after key) (wired key) (dealt g.T.Reports.told key) s rule zero_now j v me i n slots a u few later
