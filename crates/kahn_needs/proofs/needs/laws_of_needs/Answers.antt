use Rattle.kahn_needs.proofs.Told
use Rattle.kahn_needs.proofs.needs.laws_of_needs.Goals as goal

pub returns-clause-one_cut : goal.returns-clause-one_cut
returns-clause-one_cut c = Told.one_cut

pub returns-clause-enough : goal.returns-clause-enough
returns-clause-enough c = Told.enough

pub returns-clause-exact : goal.returns-clause-exact
returns-clause-exact c = Told.exact

pub returns-clause-same : goal.returns-clause-same
returns-clause-same c = Told.same

pub returns-clause-runs : goal.returns-clause-runs
returns-clause-runs c = Told.runs

pub returns-clause-done : goal.returns-clause-done
returns-clause-done c = Told.done

pub returns-clause-tight : goal.returns-clause-tight
returns-clause-tight c = Told.tight

pub returns-clause-in_order : goal.returns-clause-in_order
returns-clause-in_order c = Told.in_order
