use Rattle.std.proofs.Common.{rules}
use Rattle.kahn_texts.proofs.Writing.{fails, loop_fails, loop_few}
use Rattle.kahn_texts.proofs.bytes.put_all.Goals as goal

pub returns-in_err-put-clause-text : goal.returns-in_err-put-clause-text
returns-in_err-put-clause-text g c =
    fails _ _ _ _ c.from_residual.ensures.0
    (loop_fails (λ piece. piece.now) c.args.pieces.now c.loop-piece.piece-index _ _ _ _ (search rules) c.loop-piece.invariant.gone c.in_err-put.ensures.text)

pub returns-in_err-put-clause-few : goal.returns-in_err-put-clause-few
returns-in_err-put-clause-few g c =
    loop_few (λ piece. piece.now) c.args.pieces.now c.loop-piece.piece-index _ _ _ _ (search rules) c.loop-piece.invariant.few c.put.ensures.few
