-- The count is opened on the blank's own ledger.
use Rattle.kahn_sequential.proofs.counted.run_kept.Given as goal

abbrev pub ghosts-run_until_wide : goal.ghosts-run_until_wide
ghosts-run_until_wide a = record { name = a.blank.name; parts = a.blank.parts }
