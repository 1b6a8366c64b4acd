-- The count is opened on the blank's own ledger.
use Rattle.kahn_sequential.proofs.flow.Flow.resume.Given as goal

abbrev pub ghosts-run_on : goal.ghosts-run_on
ghosts-run_on g a = record { name = a.blank.name; parts = a.blank.parts }
