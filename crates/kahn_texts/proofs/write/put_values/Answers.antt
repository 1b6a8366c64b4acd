use Rattle.kahn_texts.proofs.Common.{◌≡◌, ◌+◌, ◌++◌, length, take, drop, flat_map, sym, ap, subst, ◌∙◌, rules, flat_map-append, length-append, Appends, Appends-trans, AppendsFront, take-append-drop}
use Rattle.kahn_texts.proofs.{Cut.taken_on, Writing.fails, Writing.few_on, Writing.goes_on_front, Writing.stops}
use Rattle.kahn_texts.specs.inner.Layouts.{separated}
use Rattle.kahn_texts.proofs.write.put_values.Goals as goal

pub loop-from-preserved : goal.loop-from-preserved
loop-from-preserved g c =
    let text_of = separated c.args.layout in
    let i = c.loop-from.invariant in
    let xs = c.args.values.now in
    let k = c.loop-from.from in
    let first = c.split_at-first.result.0 in
    let whole : drop k xs ≡ first ++ c.split_at-first.result.1 = sym c.split_at-left.ensures.back ∙ c.split_at-first.ensures.whole in
    let on = ap (λ n. take (k + n) xs) c.len-from.ensures in
    let taken : take (k + c.len-from.result) xs ≡ take k xs ++ first = on ∙ taken_on xs first c.split_at-first.result.1 k i.within whole in
    let text : flat_map text_of (take (k + c.len-from.result) xs) ≡ flat_map text_of (take k xs) ++ flat_map text_of first = ap (flat_map text_of) taken ∙ flat_map-append text_of (take k xs) first in
    let gone = Appends-trans _ _ _ (flat_map text_of (take k xs)) (flat_map text_of first) i.gone (rw c.place_values.ensures at c.in_ok-put.ensures.text) in
    let few = few_on _ _ _ (flat_map text_of (take k xs)) (flat_map text_of first) i.few (rw c.place_values.ensures at c.put.ensures.few) in
    let long = ap length (sym (take-append-drop k xs)) ∙ length-append (take k xs) (drop k xs) in
    let shorter = ap length whole ∙ length-append first c.split_at-first.result.1 in
    record {
      within = search rules;
      room = search rules;
      gone = subst (Appends _ _) (sym text) gone;
      few = rw text few;
    }

pub returns-in_err-put-clause-text : goal.returns-in_err-put-clause-text
returns-in_err-put-clause-text g c =
    let text_of = separated c.args.layout in
    let i = c.loop-from.invariant in
    let xs = c.args.values.now in
    let k = c.loop-from.from in
    let first = c.split_at-first.result.0 in
    let rest = c.split_at-first.result.1 in
    let whole : drop k xs ≡ first ++ rest = sym c.split_at-left.ensures.back ∙ c.split_at-first.ensures.whole in
    let split = ap (flat_map text_of) (sym (take-append-drop k xs) ∙ ap (λ l. take k xs ++ l) whole) ∙ flat_map-append text_of (take k xs) (first ++ rest) in
    let parts = flat_map-append text_of first rest in
    fails _ _ _ _ c.from_residual.ensures.0
    (subst (AppendsFront _ _) (sym split) (goes_on_front _ _ _ (flat_map text_of (take k xs)) _ i.gone
    (subst (AppendsFront _ _) (sym parts) (stops _ _ _ _ (rw c.place_values.ensures at c.in_err-put.ensures.text)))))
