-- The count is opened on the blank's own ledger.
use Rattle.kahn_lane.proofs.segments.Taker.take.Given as goal

abbrev pub ghosts-take_counted : goal.ghosts-take_counted
ghosts-take_counted g a = record { name = a.blank.name; parts = a.blank.parts }
