use Rattle.std.proofs.Common.{arith}
use Rattle.kahn_explain.proofs.tracing.untaken_line.Goals as goal

pub reader-requires : goal.reader-requires
reader-requires c = (c.fullest-channel.ensures.0 (omega arith)).0
