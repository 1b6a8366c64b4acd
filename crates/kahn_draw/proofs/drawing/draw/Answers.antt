use Rattle.std.proofs.{Common.string_bytes, lemmas.Result.err_from_is_err_and}
use Rattle.kahn_draw.proofs.Drawn.{broke_off, unchecked, undrawn, went_out}
use Rattle.kahn_draw.proofs.drawing.draw.Goals as goal

pub returns-in_err-network : goal.returns-in_err-network
returns-in_err-network g c = let p = err_from_is_err_and c.from_residual.result c.from_residual.ensures.1 in rw (p.1, p.2) (unchecked _ _ _ _ _ c.in_err-network.ensures)

pub returns-in_err-picture : goal.returns-in_err-picture
returns-in_err-picture g c =
    let p = err_from_is_err_and c.from_residual-in_err-picture.result c.from_residual-in_err-picture.ensures.1 in
    rw (p.1, p.2) (undrawn _ _ _ c.in_ok-network.network _ _ c.in_ok-network.ensures c.in_err-picture.ensures)

pub returns-in-Ok : goal.returns-in-Ok
returns-in-Ok g c =
    went_out c.args.program.now c.args.input.now c.args.drawn c.in_ok-network.network c.in_ok-picture.picture.verdict (string_bytes c.in_ok-picture.picture.text) _ _ c.in_ok-network.ensures c.in_ok-picture.ensures
    (rw c.as_bytes.ensures.value at c.in-Ok.ensures)

pub returns : goal.returns
returns g c =
    broke_off c.args.program.now c.args.input.now c.args.drawn c.in_ok-network.network c.in_ok-picture.picture.verdict (string_bytes c.in_ok-picture.picture.text) _ _ c.in_ok-network.ensures c.in_ok-picture.ensures
    (rw c.as_bytes.ensures.value at c.in-Err.ensures)
