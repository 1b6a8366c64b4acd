use Rattle.kahn_texts.proofs.Common.{inr, refl, rules, tests, ◌≡◌, ◌<◌, length, [], ◌∷◌, ◌++◌, arith, nat_tests, length_push, YieldsList-from_slice_split, YieldsList-turn, YieldsList-end, slice_split, is_blank}
use Rattle.kahn_texts.proofs.Parts.{from_part, all_skips, only_skips, all_more, only_more, spells_none, spells_all}
use Rattle.kahn_texts.proofs.input.read_values.Goals as goal

pub returns-in_default : goal.returns-in_default
returns-in_default c =
    let t = YieldsList-turn (YieldsList-from_slice_split {s = c.into_iter-word-iterator.result} _ is_blank {f = c.split-word-items.result.pred} c.args.text.now (search rules) (search rules) (search rules) (λ x b q k. search (rules, tests)))
    c.loop-word.yielded _ c.loop-word.yielded_by _ _ c.in-Some.word c.in-Some.is c.next.ensures.steps in
    let here = from_part (slice_split is_blank c.args.text.now) (length c.loop-word.yielded) c.in-Some.word.now t in
    let some : 0 < length c.in-Some.word.now = grind (arith, nat_tests) in
    inr (refl, λ values h. spells_none (slice_split is_blank c.args.text.now) (length c.loop-word.yielded) c.in-Some.word.now here some c.in_default.ensures c.loop-word.invariant.only values h)

pub loop-word-preserved-else-is_err : goal.loop-word-preserved-else-is_err
loop-word-preserved-else-is_err c =
    let t = YieldsList-turn (YieldsList-from_slice_split {s = c.into_iter-word-iterator.result} _ is_blank {f = c.split-word-items.result.pred} c.args.text.now (search rules) (search rules) (search rules) (λ x b q k. search (rules, tests)))
    c.loop-word.yielded _ c.loop-word.yielded_by _ _ c.in-Some.word c.in-Some.is c.next.ensures.steps in
    let here = from_part (slice_split is_blank c.args.text.now) (length c.loop-word.yielded) c.in-Some.word.now t in
    let some : 0 < length c.in-Some.word.now = grind (arith, nat_tests) in
    let e = length_push c.loop-word.yielded c.in-Some.word in
    let pushed : c.push.new.self.items ≡ c.loop-word.values.items ++ (c.in-Some-value_of.value ∷ []) = search rules in
    record {
      next = search rules;
      ends = search rules;
      all = all_more (slice_split is_blank c.args.text.now) (length c.loop-word.yielded) _ c.in-Some.word.now e here c.loop-word.values.items c.push.new.self.items c.in-Some-value_of.value some c.in-Some-value_of.ensures pushed c.loop-word.invariant.all;
      only = only_more (slice_split is_blank c.args.text.now) (length c.loop-word.yielded) _ c.in-Some.word.now e here some c.loop-word.invariant.only;
    }

pub loop-word-preserved : goal.loop-word-preserved
loop-word-preserved c =
    let t = YieldsList-turn (YieldsList-from_slice_split {s = c.into_iter-word-iterator.result} _ is_blank {f = c.split-word-items.result.pred} c.args.text.now (search rules) (search rules) (search rules) (λ x b q k. search (rules, tests)))
    c.loop-word.yielded _ c.loop-word.yielded_by _ _ c.in-Some.word c.in-Some.is c.next.ensures.steps in
    let here = from_part (slice_split is_blank c.args.text.now) (length c.loop-word.yielded) c.in-Some.word.now t in
    let none : length c.in-Some.word.now ≡ 0 = grind (arith, nat_tests) in
    let e = length_push c.loop-word.yielded c.in-Some.word in
    record {
      next = search rules;
      ends = search rules;
      all = all_skips (slice_split is_blank c.args.text.now) (length c.loop-word.yielded) _ c.in-Some.word.now e here c.loop-word.values.items none c.loop-word.invariant.all;
      only = only_skips (slice_split is_blank c.args.text.now) (length c.loop-word.yielded) _ c.in-Some.word.now e here none c.loop-word.invariant.only;
    }

pub returns : goal.returns
returns c =
    let t = YieldsList-end (YieldsList-from_slice_split {s = c.into_iter-word-iterator.result} _ is_blank {f = c.split-word-items.result.pred} c.args.text.now (search rules) (search rules) (search rules) (λ x b q k. search (rules, tests)))
    c.loop-word.yielded _ c.loop-word.yielded_by _ _ c.in-None.is c.next.ensures.steps in
    spells_all (slice_split is_blank c.args.text.now) (length c.loop-word.yielded) c.loop-word.values.items (omega (arith, t.1)) c.loop-word.invariant.all
