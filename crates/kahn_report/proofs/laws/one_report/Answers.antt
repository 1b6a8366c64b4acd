use Rattle.kahn_report.proofs.laws.one_report.Goals as goal
use Rattle.kahn_report.proofs.Same_reports

pub returns : goal.returns
returns c = Same_reports.one_report
