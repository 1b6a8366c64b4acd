use Rattle.std.specs.Prelude.{Some}
use Rattle.kahn_explain.proofs.running.done_as_data.Goals as goal

pub returns : goal.returns
returns g c = (
  c.look-came.result,
  c.or_refused-came.result,
  Some c.new-lines.result.items,
  _,
  _,
  c.look-came.ensures,
  c.or_refused-came.ensures,
  c.write_data.ensures,
)
