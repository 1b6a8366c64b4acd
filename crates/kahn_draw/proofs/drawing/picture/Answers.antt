use Rattle.kahn_draw.proofs.Common.{Err, inr, map, rules, subst, sym, network_of, AreStandings, stands, IsDrawnFor}
use Rattle.kahn_draw.proofs.Drawn.{moving, standing, still, unrun}
use Rattle.kahn_fault.specs.declared.work.WorkFault.TheVariants.{Run}
use Rattle.kahn_draw.proofs.drawing.picture.Goals as goal

pub returns-in-Network : goal.returns-in-Network
returns-in-Network c =
    subst (λ drawn. IsDrawnFor c.args.network.now c.args.program.now c.args.input.now drawn c.shown.result) (sym c.in-Network.is)
    (still c.args.network.now c.args.program.now c.args.input.now _ _ c.pictured-still.ensures c.shown.ensures)

pub pictured-run-requires : goal.pictured-run-requires
pictured-run-requires c =
    inr (subst (λ ends. AreStandings (network_of c.args.network.now) (map stands ends)) (sym c.deref-in-Ok.ensures.value)
    (standing c.args.program.now c.args.network.now c.in_ok-input.input c.in-Run.bound c.in-Ok.answer c.requires c.in-Ok.ensures.right))

pub returns-in_err-input : goal.returns-in_err-input
returns-in_err-input c =
    subst (λ drawn. IsDrawnFor c.args.network.now c.args.program.now c.args.input.now drawn c.from_residual.result) (sym c.in-Run.is) (search rules)

pub returns-in-Ok : goal.returns-in-Ok
returns-in-Ok c =
    subst (λ drawn. IsDrawnFor c.args.network.now c.args.program.now c.args.input.now drawn c.shown-in-Ok.result) (sym c.in-Run.is)
    (moving c.args.network.now c.args.program.now c.args.input.now c.in-Run.bound c.in-Ok.answer _ _ _ _ (c.in_ok-input.input, c.in_ok-input.ensures.read, c.in-Ok.ensures.right)
    c.deref.ensures.value c.deref-in-Ok.ensures.value c.pictured-run.ensures c.shown-in-Ok.ensures)

pub returns-in-Err : goal.returns-in-Err
returns-in-Err c =
    subst (λ drawn. IsDrawnFor c.args.network.now c.args.program.now c.args.input.now drawn (Err (Run c.in-Err.fault))) (sym c.in-Run.is)
    (unrun c.in-Run.bound c.in-Err.fault c.in-Err.ensures.refused)
