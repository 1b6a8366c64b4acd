use Rattle.kahn_explain.proofs.Common.{◌∙◌, sym, Channel}
use Rattle.kahn_explain.proofs.Kept_columns.{output_column, output_line}
use Rattle.kahn_explain.proofs.tracing.history.Goals as goal

pub streamed-requires : goal.streamed-requires
streamed-requires c = output_line c.args.network.now c.args.run.now c.args.channel c.requires.run c.requires.here (sym c.channel.ensures.role ∙ c.in-Output.is)

pub returns-in-Output : goal.returns-in-Output
returns-in-Output c = output_column c.args.network.now c.args.run.now (Channel c.args.channel) c.streamed.result.now c.streamed.ensures
