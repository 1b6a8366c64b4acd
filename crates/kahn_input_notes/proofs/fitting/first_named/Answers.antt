use Rattle.kahn_input_notes.proofs.Common.{rules, tests, ◌≡◌, ◌∙◌, ◌+◌, ◌==◌, All, ap, ◌≤◌, sym, length, take, drop, [], ◌∷◌, ◌++◌, arith, refl, subst, true, false, length_push, take_all, YieldsList-from_slice_split, YieldsList-turn, YieldsList-end, text_lines, moved_by, name_span, parts_length, has_line_name}
use Rattle.kahn_input_notes.proofs.Fitted.{all_more, cut_here, from_part, length_more, reaches}
use Rattle.kahn_input_notes.proofs.fitting.first_named.Goals as goal

pub past-further-requires : goal.past-further-requires
past-further-requires c =
    let k = length c.loop-line.yielded in
    let part = c.in-Some.line.now in
    let t = YieldsList-turn (YieldsList-from_slice_split {s = c.into_iter-line-iterator.result} _ (λ b. b == 10) {f = c.split-line-items.result.pred} c.args.text.now (search rules) (search rules) (search rules) (λ x b q k. search (rules, tests)))
    c.loop-line.yielded _ c.loop-line.yielded_by _ _ c.in-Some.line c.in-Some.is c.next.ensures.steps in
    subst (λ l. c.loop-line.from + length part ≤ length l) (sym c.as_bytes-in-loop-line.ensures.value)
    (reaches (λ b. b == 10) c.args.text.now k _ part t c.loop-line.invariant.from)

pub placed_name-requires : goal.placed_name-requires
placed_name-requires c =
    let k = length c.loop-line.yielded in
    let part = c.in-Some.line.now in
    let t = YieldsList-turn (YieldsList-from_slice_split {s = c.into_iter-line-iterator.result} _ (λ b. b == 10) {f = c.split-line-items.result.pred} c.args.text.now (search rules) (search rules) (search rules) (λ x b q k. search (rules, tests)))
    c.loop-line.yielded _ c.loop-line.yielded_by _ _ c.in-Some.line c.in-Some.is c.next.ensures.steps in
    reaches (λ b. b == 10) c.args.text.now k _ part t c.loop-line.invariant.from

pub returns-then-has_line_name : goal.returns-then-has_line_name
returns-then-has_line_name c =
    let parts = text_lines c.args.text.now in
    let k = length c.loop-line.yielded in
    let part = c.in-Some.line.now in
    let t = YieldsList-turn (YieldsList-from_slice_split {s = c.into_iter-line-iterator.result} _ (λ b. b == 10) {f = c.split-line-items.result.pred} c.args.text.now (search rules) (search rules) (search rules) (λ x b q k. search (rules, tests)))
    c.loop-line.yielded _ c.loop-line.yielded_by _ _ c.in-Some.line c.in-Some.is c.next.ensures.steps in
    let here = from_part parts k part t in
    let named : has_line_name c.args.name.now part ≡ true = search rules in
    let span : c.placed_name.result ≡ moved_by (parts_length (take k parts)) (name_span part) = c.placed_name.ensures ∙ ap (λ n. moved_by n (name_span part)) c.loop-line.invariant.from in
    (take k parts, part, drop (k + 1) parts, cut_here parts k (k + 1) part refl here, c.loop-line.invariant.others, named, span)

pub loop-line-preserved : goal.loop-line-preserved
loop-line-preserved c =
    let parts = text_lines c.args.text.now in
    let k = length c.loop-line.yielded in
    let part = c.in-Some.line.now in
    let t = YieldsList-turn (YieldsList-from_slice_split {s = c.into_iter-line-iterator.result} _ (λ b. b == 10) {f = c.split-line-items.result.pred} c.args.text.now (search rules) (search rules) (search rules) (λ x b q k. search (rules, tests)))
    c.loop-line.yielded _ c.loop-line.yielded_by _ _ c.in-Some.line c.in-Some.is c.next.ensures.steps in
    let here = from_part parts k part t in
    let m = length (c.loop-line.yielded ++ c.in-Some.line ∷ []) in
    let e = length_push c.loop-line.yielded c.in-Some.line in
    let longer = length_more parts k m part e here in
    let other : has_line_name c.args.name.now part ≡ false = search rules in
    record {
      next = search rules;
      ends = search rules;
      from = omega (arith, longer, c.loop-line.invariant.from, c.past-further.ensures);
      others = all_more parts k m part e here (λ l. has_line_name c.args.name.now l ≡ false) c.loop-line.invariant.others other;
    }

pub returns : goal.returns
returns c =
    let parts = text_lines c.args.text.now in
    let t = YieldsList-end (YieldsList-from_slice_split {s = c.into_iter-line-iterator.result} _ (λ b. b == 10) {f = c.split-line-items.result.pred} c.args.text.now (search rules) (search rules) (search rules) (λ x b q k. search (rules, tests)))
    c.loop-line.yielded _ c.loop-line.yielded_by _ _ c.in-None.is c.next.ensures.steps in
    let read = take_all (length c.loop-line.yielded) parts (omega (arith, t.1)) in
    subst (All (λ l. has_line_name c.args.name.now l ≡ false)) read c.loop-line.invariant.others
