use Rattle.kahn_sequential.proofs.Unique
use Rattle.kahn_sequential.proofs.laws.finished_is_one.Goals as goal

pub returns : goal.returns
returns c N I watch a b (n, r, f) (m, s, g) = Unique.finished_is_one N I watch n m a b r s f g
