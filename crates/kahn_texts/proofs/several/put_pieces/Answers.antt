use Rattle.kahn_texts.proofs.Common.{◌++◌, flat_map, sym, ap, subst, ◌∙◌, append_assoc, rules, flat_map-append, Appends-trans, chunks_rest, AppendsFront, piece_text}
use Rattle.kahn_texts.proofs.{Writing.fails, Writing.goes_on_front, Writing.stops}
use Rattle.kahn_texts.proofs.several.put_pieces.Goals as goal

pub loop-together-preserved : goal.loop-together-preserved
loop-together-preserved g c =
    let text_of = piece_text in
    let (done, split, gone) = c.loop-together.invariant.2 in
    let (size, (front, _, _)) = c.in-Some.ensures.steps in
    let chunk = c.in-Some.together.now in
    let rest = chunks_rest c.next.new.self in
    let parts = ap (flat_map text_of) front ∙ flat_map-append text_of chunk rest in
    let text = flat_map text_of chunk in (
      search rules,
      tt,
      (
        done ++ text,
        split ∙ ap (λ l. done ++ l) parts ∙ sym (append_assoc done text (flat_map text_of rest)),
        Appends-trans _ _ _ done text gone c.in_ok-put_texts.ensures,
      ),
    )

pub returns-in_err-put_texts : goal.returns-in_err-put_texts
returns-in_err-put_texts g c =
    let text_of = piece_text in
    let (done, split, gone) = c.loop-together.invariant.2 in
    let (size, (front, _, _)) = c.in-Some.ensures.steps in
    let chunk = c.in-Some.together.now in
    let rest = chunks_rest c.next.new.self in
    let parts = ap (flat_map text_of) front ∙ flat_map-append text_of chunk rest in
    fails _ _ _ _ c.from_residual.ensures.0
    (subst (AppendsFront _ _) (sym split) (goes_on_front _ _ _ done _ gone
    (subst (AppendsFront _ _) (sym parts) (stops _ _ _ _ c.in_err-put_texts.ensures))))
