use Rattle.kahn_explain.proofs.Pieces.{next_piece}
use Rattle.kahn_explain.proofs.rows.put_value.Goals as goal

pub returns : goal.returns
returns g c = next_piece _ _ _ c.put-2.result c.in_ok-put.ensures c.put-2.ensures
