use Rattle.kahn_sequential.proofs.Common.{ap, Table, vacant_of}
use Rattle.kahn_sequential.proofs.bench.Sequential.into_taps.Goals as goal

pub returns : goal.returns
returns c = record { vacant = ap vacant_of c.self.view_is; cells = ap (λ (x : Table). x.cells) c.self.view_is; gone = ap (λ (x : Table). x.gone) c.self.view_is }
