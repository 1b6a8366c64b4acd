use Rattle.std.proofs.{Common.refl, lemmas.Result.err_from_is_err_and}
use Rattle.kahn_explanation.proofs.Unfed.{input_out, unfed}
use Rattle.kahn_explanation.proofs.explaining.refuse_input.Goals as goal

pub returns-in_err-network : goal.returns-in_err-network
returns-in_err-network g c =
    let p = err_from_is_err_and c.from_residual.result c.from_residual.ensures.1 in
    rw (p.1, p.2) (unfed c.args.path.now c.args.program.now c.args.text.now c.args.fault _ _ c.in_err-network.ensures)

pub returns-in-Ok-Some : goal.returns-in-Ok-Some
returns-in-Ok-Some g c =
    let note = c.in-Ok-Some.note in
    input_out c.args.path.now c.args.program.now c.args.text.now c.args.fault note _ _ _
    (c.in_ok-network.network, c.in_ok-network.ensures, rw c.in-Ok-Some.field-0-is at c.in-Ok-Some.ensures)
    (rw c.as_str.ensures.value at c.write_both.ensures)

pub returns-in-Ok-None : goal.returns-in-Ok-None
returns-in-Ok-None g c = (refl, (c.in_ok-network.network, c.in_ok-network.ensures, rw c.in-Ok-None.field-0-is at c.in-Ok-None.ensures), refl)
