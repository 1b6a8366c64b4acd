use Rattle.kahn_input_notes.proofs.Common.{rules, tests, ◌<◌, ◌+◌, All, length, take, drop, [], ◌∷◌, ◌++◌, arith, refl, subst, length_push, take_all, YieldsList-from_slice_split, YieldsList-turn, YieldsList-end, slice_split, is_blank, IsFitPart, IsUnfitWord}
use Rattle.kahn_input_notes.proofs.Fitted.{all_more, cut_here, from_part, length_more, reaches}
use Rattle.kahn_input_notes.proofs.fitting.first_unfit.Goals as goal

pub past-further-requires : goal.past-further-requires
past-further-requires c =
    let k = length c.loop-word.yielded in
    let part = c.in-Some.word.now in
    let t = YieldsList-turn (YieldsList-from_slice_split {s = c.into_iter-word-iterator.result} _ is_blank {f = c.split-word-items.result.pred} c.args.bytes.now (search rules) (search rules) (search rules) (λ x b q k. search (rules, tests)))
    c.loop-word.yielded _ c.loop-word.yielded_by _ _ c.in-Some.word c.in-Some.is c.next.ensures.steps in
    reaches is_blank c.args.bytes.now k _ part t c.loop-word.invariant.from

pub returns-then-not-is_fit_part-clause-within : goal.returns-then-not-is_fit_part-clause-within
returns-then-not-is_fit_part-clause-within c =
    let k = length c.loop-word.yielded in
    let part = c.in-Some.word.now in
    let t = YieldsList-turn (YieldsList-from_slice_split {s = c.into_iter-word-iterator.result} _ is_blank {f = c.split-word-items.result.pred} c.args.bytes.now (search rules) (search rules) (search rules) (λ x b q k. search (rules, tests)))
    c.loop-word.yielded _ c.loop-word.yielded_by _ _ c.in-Some.word c.in-Some.is c.next.ensures.steps in
    let below = reaches is_blank c.args.bytes.now k _ part t c.loop-word.invariant.from in
    omega (arith, below, c.past-further.ensures)

pub returns-then-not-is_fit_part-clause-first : goal.returns-then-not-is_fit_part-clause-first
returns-then-not-is_fit_part-clause-first c =
    let parts = slice_split is_blank c.args.bytes.now in
    let k = length c.loop-word.yielded in
    let part = c.in-Some.word.now in
    let t = YieldsList-turn (YieldsList-from_slice_split {s = c.into_iter-word-iterator.result} _ is_blank {f = c.split-word-items.result.pred} c.args.bytes.now (search rules) (search rules) (search rules) (λ x b q k. search (rules, tests)))
    c.loop-word.yielded _ c.loop-word.yielded_by _ _ c.in-Some.word c.in-Some.is c.next.ensures.steps in
    let here = from_part parts k part t in
    let some : 0 < length part = search rules in
    let other : IsUnfitWord c.args.asked part = search rules in
    (take k parts, part, drop (k + 1) parts, cut_here parts k (k + 1) part refl here, c.loop-word.invariant.fit, some, other, c.loop-word.invariant.from, omega (arith, c.past-further.ensures))

pub loop-word-preserved : goal.loop-word-preserved
loop-word-preserved c =
    let parts = slice_split is_blank c.args.bytes.now in
    let k = length c.loop-word.yielded in
    let part = c.in-Some.word.now in
    let t = YieldsList-turn (YieldsList-from_slice_split {s = c.into_iter-word-iterator.result} _ is_blank {f = c.split-word-items.result.pred} c.args.bytes.now (search rules) (search rules) (search rules) (λ x b q k. search (rules, tests)))
    c.loop-word.yielded _ c.loop-word.yielded_by _ _ c.in-Some.word c.in-Some.is c.next.ensures.steps in
    let here = from_part parts k part t in
    let m = length (c.loop-word.yielded ++ c.in-Some.word ∷ []) in
    let e = length_push c.loop-word.yielded c.in-Some.word in
    let longer = length_more parts k m part e here in
    let fit : IsFitPart c.args.asked part = search rules in
    record {
      next = search rules;
      ends = search rules;
      from = omega (arith, longer, c.loop-word.invariant.from, c.past-further.ensures);
      fit = all_more parts k m part e here (IsFitPart c.args.asked) c.loop-word.invariant.fit fit;
    }

pub returns-clause-first : goal.returns-clause-first
returns-clause-first c =
    let parts = slice_split is_blank c.args.bytes.now in
    let t = YieldsList-end (YieldsList-from_slice_split {s = c.into_iter-word-iterator.result} _ is_blank {f = c.split-word-items.result.pred} c.args.bytes.now (search rules) (search rules) (search rules) (λ x b q k. search (rules, tests)))
    c.loop-word.yielded _ c.loop-word.yielded_by _ _ c.in-None.is c.next.ensures.steps in
    subst (All (IsFitPart c.args.asked)) (take_all (length c.loop-word.yielded) parts (omega (arith, t.1))) c.loop-word.invariant.fit
