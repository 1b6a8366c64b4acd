use Rattle.kahn_streams.proofs.Sourced.{reads, writes, outputs, inputs}
use Rattle.kahn_streams.proofs.laws.sources.Goals as goal

pub returns : goal.returns
returns c = record { reads = reads; writes = writes; outputs = outputs; inputs = inputs }
