-- The count is opened on the blank's own ledger.
use Rattle.kahn_crew.proofs.crew.WorkerParallelShared.run.Given as goal

abbrev pub ghosts-turns : goal.ghosts-turns
ghosts-turns g a = record { name = a.blank.name; parts = a.blank.parts }
