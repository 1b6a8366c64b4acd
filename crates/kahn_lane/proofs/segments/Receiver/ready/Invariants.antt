-- The count is opened on the blank's own ledger.
use Rattle.kahn_lane.proofs.segments.Receiver.ready.Given as goal

abbrev pub ghosts-refill : goal.ghosts-refill
ghosts-refill g a = record { name = a.blank.name; parts = a.blank.parts }
