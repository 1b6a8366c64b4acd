use Rattle.std.proofs.Common.{sym, ◌∙◌}
use Rattle.kahn_sequential.proofs.Benched.{same_actual}
use Rattle.kahn_sequential.proofs.bench.Sequential.channel.Goals as goal

pub channel_read-requires : goal.channel_read-requires
channel_read-requires c = (c.requires.0, same_actual c.self.view_is c.self.invariant c.args.instance c.args.parameter ∙ c.requires.1)

pub returns : goal.returns
returns c = sym (same_actual c.self.view_is c.self.invariant c.args.instance c.args.parameter) ∙ c.channel_read.ensures
