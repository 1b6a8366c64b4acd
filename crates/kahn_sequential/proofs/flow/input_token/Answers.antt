use Rattle.kahn_sequential.proofs.flow.input_token.Goals as goal
use Rattle.kahn_streams.proofs.Given_values.{stands_given}

pub token_for-requires : goal.token_for-requires
token_for-requires c = rw c.of.ensures (stands_given c.args.bench.now.network c.args.bench.now.input c.args.channel c.args.place c.args.value c.requires.role c.requires.here)
