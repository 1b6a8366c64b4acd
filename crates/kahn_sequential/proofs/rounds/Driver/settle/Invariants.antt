use Rattle.kahn_sequential.proofs.Common.{HasAdvanced, sight_of, AreNoted, AreSpent}
use Rattle.kahn_sequential.proofs.rounds.Driver.settle.Given as goal

abbrev pub invariant-loop : goal.invariant-loop
invariant-loop g l = record {
  advanced : HasAdvanced l.fn.bench l.bench l.fn.round l.round;
  noted : AreNoted (sight_of l.bench) l.woken l.round.ends.items;
  spent : AreSpent l.bench l.turned;
}
