use Rattle.kahn_texts.proofs.Common.{rules, ◌≡◌, List, get_or, subst, AppendsFront, Value, piece_text}
use Rattle.kahn_texts.proofs.Writing.{fails, loop_fails}
use Rattle.kahn_texts.proofs.several.put_texts.Goals as goal

pub returns-in_err-put_text : goal.returns-in_err-put_text
returns-in_err-put_text g c =
    let piece = c.index-pieces-number.result in
    let at : piece ≡ get_or c.args.pieces.now c.loop-number.number piece = search rules in
    let failed = subst (λ (p : List Value). AppendsFront (g.W.Write.contents c.loop-number.writer) (g.W.Write.contents c.put_text.new.writer) (piece_text p)) at
    c.in_err-put_text.ensures in
    fails _ _ _ _ c.from_residual.ensures.0
    (loop_fails piece_text c.args.pieces.now c.loop-number.number piece _ _ _ (search rules) c.loop-number.invariant failed)
