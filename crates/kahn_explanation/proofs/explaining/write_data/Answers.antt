use Rattle.kahn_explanation.proofs.Parts.{data_out}
use Rattle.kahn_explanation.proofs.explaining.write_data.Goals as goal

pub returns-else-is_unsaid : goal.returns-else-is_unsaid
returns-else-is_unsaid g c = data_out _ _ _ _ _ _ c.in-Ok.is (c.is_unsaid.ensures c.if-is_unsaid.false) c.write_both.ensures
