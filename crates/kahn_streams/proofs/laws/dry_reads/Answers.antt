use Rattle.kahn_streams.proofs.laws.dry_reads.Goals as goal
use Rattle.kahn_streams.proofs.Dry.{dry_reads}

pub returns : goal.returns
returns c = dry_reads
