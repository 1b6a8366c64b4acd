-- The ends of a right answer wait on channels of the network.
use Rattle.kahn_explanation.proofs.Common.{List, ℕ, Program, IsChecked, network_of, AreStandings, stand, IsRightRun, Answer, standings_of}
use Rattle.kahn_streams.specs.{declared.config.Config.Config, Inputs.Lists, Inputs.inputs_of}

pub answered : (program : List ℕ) (t : Program) (config : Config) (lists : Lists) (a : Answer) → IsChecked program t → IsRightRun t lists config a → AreStandings (network_of t) (standings_of a)
answered program t config lists a checked (allowed, (watch, watched, right)) =
    stand t checked.1 (inputs_of lists) config.bound a.verdict a.ends.items a.events right.run
