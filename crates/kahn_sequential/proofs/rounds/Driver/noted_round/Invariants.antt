use Rattle.kahn_sequential.proofs.Common.{◌≡◌, length, IsInRound, IsRecording, sight_of}
use Rattle.kahn_sequential.proofs.rounds.Driver.noted_round.Given as goal

abbrev pub invariant-loop-instance : goal.invariant-loop-instance
invariant-loop-instance g l = record {
  inside : IsInRound l.fn.bench l.fn.round l.bench l.round l.instance;
  count : l.count ≡ length (sight_of l.bench).network.instances;
  recorded : IsRecording l.bench l.round.quantum l.recording;
}
