-- No process reads its own of the channels so far.
use Rattle.kahn_sequential.proofs.Common.{ℕ, ◌<◌, network_of, HasOthers}
use Rattle.kahn_sequential.proofs.counted.quantum_for.Given as goal

abbrev pub invariant-loop-channel : goal.invariant-loop-channel
invariant-loop-channel l = (d : ℕ) → d < l.channel → HasOthers (network_of l.network) d
