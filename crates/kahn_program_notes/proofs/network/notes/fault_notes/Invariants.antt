-- Each note so far tells one of the faults, and there is one behind the first fault.
use Rattle.kahn_program_notes.proofs.Common.{◌≡◌, [], All, TellsOne}
use Rattle.kahn_program_notes.proofs.network.notes.fault_notes.Given as goal

abbrev pub invariant-loop-fault : goal.invariant-loop-fault
invariant-loop-fault l = All (TellsOne l.text l.faults) l.telling.notes.items × (l.telling.notes.items ≡ [] → l.fault-index ≡ 0)
