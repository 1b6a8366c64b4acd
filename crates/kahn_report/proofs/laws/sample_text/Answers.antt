use Rattle.kahn_report.proofs.laws.sample_text.Goals as goal
use Rattle.kahn_report.proofs.Sample_spelt

pub returns : goal.returns
returns c = Sample_spelt.sample_text
