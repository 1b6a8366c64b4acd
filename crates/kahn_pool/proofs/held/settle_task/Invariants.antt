-- The count is opened on the blank's own ledger.
use Rattle.kahn_pool.proofs.held.settle_task.Given as goal

abbrev pub ghosts-ask : goal.ghosts-ask
ghosts-ask a = record { name = a.blank.name; parts = a.blank.parts }
