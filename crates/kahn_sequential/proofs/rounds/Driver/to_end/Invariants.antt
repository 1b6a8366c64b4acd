use Rattle.kahn_sequential.proofs.Common.{HasAdvanced, IsRecording, weight}
use Rattle.kahn_sequential.proofs.rounds.Driver.to_end.Given as goal

abbrev pub invariant-rounds : goal.invariant-rounds
invariant-rounds g l = record {
  advanced : HasAdvanced l.fn.bench l.bench l.fn.first l.round;
  recorded : IsRecording l.bench l.round.quantum l.recording;
}

abbrev pub decreases-rounds : goal.decreases-rounds
decreases-rounds g l = weight l.round
