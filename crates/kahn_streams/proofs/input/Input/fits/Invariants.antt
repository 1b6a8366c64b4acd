-- The lists so far fit their channels.
use Rattle.kahn_streams.proofs.Common.{ℕ, ◌<◌, network_of, IsListFor, inputs_of}
use Rattle.kahn_streams.proofs.input.Input.fits.Given as goal

abbrev pub invariant-loop-channel : goal.invariant-loop-channel
invariant-loop-channel l = (c : ℕ) → c < l.channel → IsListFor (network_of l.network) c (inputs_of l.self c)
