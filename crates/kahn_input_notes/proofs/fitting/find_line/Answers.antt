use Rattle.kahn_input_notes.proofs.Common.{rules, tests, ◌+◌, ◌≤◌, ◌<◌, ◌==◌, length, take, drop, [], ◌∷◌, ◌++◌, arith, refl, sym, subst, length_push, take_all, YieldsList-from_slice_split, YieldsList-turn, YieldsList-end, text_lines, CountsAs, CountTo}
use Rattle.kahn_input_notes.proofs.{Fitted.cut_here, Fitted.from_part, Fitted.length_more, Fitted.one_more, Fitted.reaches, Sought.one_on, Sought.reached}
use Rattle.std.proofs.lemmas.Bool.Decides.{nat_tests}
use Rattle.kahn_input_notes.proofs.fitting.find_line.Goals as goal

pub past-further-requires : goal.past-further-requires
past-further-requires c =
    let k = length c.loop-whole.yielded in
    let part = c.in-Some.whole.now in
    let t = YieldsList-turn (YieldsList-from_slice_split {s = c.into_iter-whole-iterator.result} _ (λ b. b == 10) {f = c.split-whole-items.result.pred} c.args.text.now (search rules) (search rules) (search rules) (λ x b q k. search (rules, tests)))
    c.loop-whole.yielded _ c.loop-whole.yielded_by _ _ c.in-Some.whole c.in-Some.is c.next.ensures.steps in
    subst (λ l. c.loop-whole.from + length part ≤ length l) (sym c.as_bytes-in-loop-whole.ensures.value)
    (reaches (λ b. b == 10) c.args.text.now k _ part t c.loop-whole.invariant.from)

pub returns-then-more-left : goal.returns-then-more-left
returns-then-more-left c =
    let parts = text_lines c.args.text.now in
    let k = length c.loop-whole.yielded in
    let part = c.in-Some.whole.now in
    let t = YieldsList-turn (YieldsList-from_slice_split {s = c.into_iter-whole-iterator.result} _ (λ b. b == 10) {f = c.split-whole-items.result.pred} c.args.text.now (search rules) (search rules) (search rules) (λ x b q k. search (rules, tests)))
    c.loop-whole.yielded _ c.loop-whole.yielded_by _ _ c.in-Some.whole c.in-Some.is c.next.ensures.steps in
    let here = from_part parts k part t in
    let below : c.loop-whole.from + length part ≤ length c.args.text.now = reaches (λ b. b == 10) c.args.text.now k _ part t c.loop-whole.invariant.from in
    let less : c.loop-whole.left < c.count_in-more.result = grind (arith, nat_tests) in
    let (n, count, all) = c.loop-whole.invariant.count in
    let (one, none) = reached c.args.entries c.content-line.result.now c.count_in-more.result c.loop-whole.left c.count_in-more.ensures less in
    let is = c.content-line.ensures.line in
    let shorter = c.content-line.ensures.within in (
      take k parts,
      part,
      drop (k + 1) parts,
      cut_here parts k (k + 1) part refl here,
      subst (CountTo c.args.entries (take k parts)) (omega (arith, all, none)) count,
      subst (λ l. CountsAs c.args.entries l 1) is (subst (CountsAs c.args.entries c.content-line.result.now) one c.count_in-more.ensures),
      is,
      c.loop-whole.invariant.from,
      omega (arith, below, shorter),
    )

pub loop-whole-preserved : goal.loop-whole-preserved
loop-whole-preserved c =
    let parts = text_lines c.args.text.now in
    let k = length c.loop-whole.yielded in
    let part = c.in-Some.whole.now in
    let t = YieldsList-turn (YieldsList-from_slice_split {s = c.into_iter-whole-iterator.result} _ (λ b. b == 10) {f = c.split-whole-items.result.pred} c.args.text.now (search rules) (search rules) (search rules) (λ x b q k. search (rules, tests)))
    c.loop-whole.yielded _ c.loop-whole.yielded_by _ _ c.in-Some.whole c.in-Some.is c.next.ensures.steps in
    let here = from_part parts k part t in
    let m = length (c.loop-whole.yielded ++ c.in-Some.whole ∷ []) in
    let e = length_push c.loop-whole.yielded c.in-Some.whole in
    let longer = length_more parts k m part e here in
    let less : c.count_in-more.result ≤ c.loop-whole.left = grind (arith, nat_tests) in
    let (n, count, all) = c.loop-whole.invariant.count in
    let is = subst (λ l. CountsAs c.args.entries l c.count_in-more.result) c.content-line.ensures.line c.count_in-more.ensures in
    record {
      next = search rules;
      ends = search rules;
      from = omega (arith, longer, c.loop-whole.invariant.from, c.past-further.ensures);
      count = (n + c.count_in-more.result, one_on c.args.entries (take k parts) (take m parts) part c.count_in-more.result n (one_more parts k m part e here) is count, omega (arith, all, less));
    }

pub returns : goal.returns
returns c =
    let parts = text_lines c.args.text.now in
    let t = YieldsList-end (YieldsList-from_slice_split {s = c.into_iter-whole-iterator.result} _ (λ b. b == 10) {f = c.split-whole-items.result.pred} c.args.text.now (search rules) (search rules) (search rules) (λ x b q k. search (rules, tests)))
    c.loop-whole.yielded _ c.loop-whole.yielded_by _ _ c.in-None.is c.next.ensures.steps in
    let read = take_all (length c.loop-whole.yielded) parts (omega (arith, t.1)) in
    let (n, count, all) = c.loop-whole.invariant.count in
    (n, subst (λ l. CountTo c.args.entries l n) read count, omega (arith, all))
