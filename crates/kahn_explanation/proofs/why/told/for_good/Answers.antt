use Rattle.kahn_explanation.proofs.{Lasting.for_ever, Stands.for_good}
use Rattle.kahn_explanation.proofs.why.told.for_good.Goals as goal

pub returns : goal.returns
returns c = record { ends = for_good; told = for_ever }
