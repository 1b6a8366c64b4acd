use Rattle.kahn_job.proofs.Common.{sym, subst, AreInputsExtended, inputs_of, Work}
use Rattle.kahn_job.proofs.task.Task.woken.Goals as goal

pub grown-cell-requires : goal.grown-cell-requires
grown-cell-requires c = subst (λ (w : Work). AreInputsExtended (inputs_of w.cell.input) (inputs_of c.args.input.now)) (sym c.idle.view_is) c.requires.0
