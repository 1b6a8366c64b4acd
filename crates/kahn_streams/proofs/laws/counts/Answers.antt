use Rattle.kahn_streams.proofs.laws.counts.Goals as goal
use Rattle.kahn_streams.proofs.Finished

pub returns : goal.returns
returns c = record { counted = Finished.counted; unrolled = Finished.unrolled; again = Finished.says_so_again }
