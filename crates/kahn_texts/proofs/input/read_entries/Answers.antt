use Rattle.kahn_texts.proofs.Common.{rules, tests, ◌≡◌, ◌==◌, ap, inl, inr, ◌+◌, ◌<◌, ◌≤◌, length, [], ◌∷◌, ◌++◌, arith, refl, length_push, YieldsList-from_slice_split, YieldsList-turn, YieldsList-end, entry_of, text_lines, content, IsEntry, AreBlanks, HasNoHead, HasNoValues, most_input_bytes}
use Rattle.kahn_texts.proofs.{Parts.from_part, Lines.all_blank, Lines.all_entry, Lines.good_more, Lines.first_such, Lines.all_read, Kept.kept_entry}
use Rattle.kahn_texts.proofs.input.read_entries.Goals as goal

pub loop-line-preserved-in-Ok-None : goal.loop-line-preserved-in-Ok-None
loop-line-preserved-in-Ok-None c =
    let lines = text_lines c.args.text.now in
    let k = length c.loop-line.yielded in
    let line = c.in-Some.line.now in
    let t = YieldsList-turn (YieldsList-from_slice_split {s = c.into_iter-line-iterator.result} _ (λ b. b == 10) {f = c.split-line-items.result.pred} c.args.text.now (search rules) (search rules) (search rules) (λ x b q k. search (rules, tests)))
    c.loop-line.yielded _ c.loop-line.yielded_by _ _ c.in-Some.line c.in-Some.is c.next.ensures.steps in
    let here = from_part lines k line t in
    let m = length (c.loop-line.yielded ++ c.in-Some.line ∷ []) in
    let e = length_push c.loop-line.yielded c.in-Some.line in
    let read = c.loop-line.invariant.read in
    let blank : AreBlanks (content line) = rw c.in-Ok-None.field-0-is at c.in-Ok-None.ensures in
    record {
      next = search rules;
      ends = search rules;
      number = omega (arith, c.loop-line.invariant.number, e);
      read = record { done = read.done; first = read.first; all = all_blank lines k m line e here read.done blank read.all };
      good = good_more lines k m line e here c.loop-line.invariant.good (inl blank);
    }

pub loop-line-preserved : goal.loop-line-preserved
loop-line-preserved c =
    let lines = text_lines c.args.text.now in
    let k = length c.loop-line.yielded in
    let line = c.in-Some.line.now in
    let t = YieldsList-turn (YieldsList-from_slice_split {s = c.into_iter-line-iterator.result} _ (λ b. b == 10) {f = c.split-line-items.result.pred} c.args.text.now (search rules) (search rules) (search rules) (λ x b q k. search (rules, tests)))
    c.loop-line.yielded _ c.loop-line.yielded_by _ _ c.in-Some.line c.in-Some.is c.next.ensures.steps in
    let here = from_part lines k line t in
    let m = length (c.loop-line.yielded ++ c.in-Some.line ∷ []) in
    let e = length_push c.loop-line.yielded c.in-Some.line in
    let read = c.loop-line.invariant.read in
    let entry = c.in-Ok-Some.entry in
    let is : IsEntry (content line) (entry_of entry) = rw c.in-Ok-Some.field-0-is at c.in-Ok-Some.ensures in
    let room : length c.loop-line.entries.items ≤ c.args.channels → c.keep.new.entries.items ≡ c.loop-line.entries.items ++ (entry ∷ []) = search rules in
    let full : c.args.channels < length c.loop-line.entries.items → c.keep.new.entries.items ≡ c.loop-line.entries.items = search rules in
    record {
      next = search rules;
      ends = search rules;
      number = omega (arith, c.loop-line.invariant.number, e);
      read = record {
        done = read.done ++ entry_of entry ∷ [];
        first = kept_entry c.args.channels c.loop-line.entries.items c.keep.new.entries.items read.done entry read.first room full;
        all = all_entry lines k m line e here read.done _ (entry_of entry) is refl read.all;
      };
      good = good_more lines k m line e here c.loop-line.invariant.good (inr (entry_of entry, is));
    }

pub returns-in-Err-NoHead : goal.returns-in-Err-NoHead
returns-in-Err-NoHead c =
    let lines = text_lines c.args.text.now in
    let k = length c.loop-line.yielded in
    let line = c.in-Some.line.now in
    let t = YieldsList-turn (YieldsList-from_slice_split {s = c.into_iter-line-iterator.result} _ (λ b. b == 10) {f = c.split-line-items.result.pred} c.args.text.now (search rules) (search rules) (search rules) (λ x b q k. search (rules, tests)))
    c.loop-line.yielded _ c.loop-line.yielded_by _ _ c.in-Some.line c.in-Some.is c.next.ensures.steps in
    let here = from_part lines k line t in
    let bad : HasNoHead (content line) = rw c.in-Err-NoHead.field-0-is at c.in-Err-NoHead.ensures in
    let within : length c.args.text.now ≤ most_input_bytes = search rules in
    (within, first_such lines k (k + 1) line refl here HasNoHead (c.loop-line.number + 1) t.0 (ap (λ n. n + 1) c.loop-line.invariant.number) c.loop-line.invariant.good bad)

pub returns-in-Err-NoValues : goal.returns-in-Err-NoValues
returns-in-Err-NoValues c =
    let lines = text_lines c.args.text.now in
    let k = length c.loop-line.yielded in
    let line = c.in-Some.line.now in
    let t = YieldsList-turn (YieldsList-from_slice_split {s = c.into_iter-line-iterator.result} _ (λ b. b == 10) {f = c.split-line-items.result.pred} c.args.text.now (search rules) (search rules) (search rules) (λ x b q k. search (rules, tests)))
    c.loop-line.yielded _ c.loop-line.yielded_by _ _ c.in-Some.line c.in-Some.is c.next.ensures.steps in
    let here = from_part lines k line t in
    let bad : HasNoValues (content line) = rw c.in-Err-NoValues.field-0-is at c.in-Err-NoValues.ensures in
    let within : length c.args.text.now ≤ most_input_bytes = search rules in
    (within, first_such lines k (k + 1) line refl here HasNoValues (c.loop-line.number + 1) t.0 (ap (λ n. n + 1) c.loop-line.invariant.number) c.loop-line.invariant.good bad)

pub returns : goal.returns
returns c =
    let t = YieldsList-end (YieldsList-from_slice_split {s = c.into_iter-line-iterator.result} _ (λ b. b == 10) {f = c.split-line-items.result.pred} c.args.text.now (search rules) (search rules) (search rules) (λ x b q k. search (rules, tests)))
    c.loop-line.yielded _ c.loop-line.yielded_by _ _ c.in-None.is c.next.ensures.steps in
    let within : length c.args.text.now ≤ most_input_bytes = search rules in
    let read = c.loop-line.invariant.read in
    (read.done, (within, all_read (text_lines c.args.text.now) (length c.loop-line.yielded) read.done (omega (arith, t.1)) read.all), read.first)
