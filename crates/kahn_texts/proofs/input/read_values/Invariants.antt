-- The values so far are those of the parts so far.
use Rattle.kahn_texts.proofs.Common.{List, ◌++◌, length, drop, slice_split, Value, SpellsValues, is_blank}
use Rattle.kahn_texts.proofs.input.read_values.Given as goal

abbrev pub invariant-loop-word : goal.invariant-loop-word
invariant-loop-word l = record {
  next : (goal.iterator-loop-word).can_next l.word-iterator;
  ends : (goal.iterator-loop-word).is_finite l.word-iterator;
  all : (values : List Value) → SpellsValues (drop (length l.yielded) (slice_split is_blank l.text)) values → SpellsValues (slice_split is_blank l.text) (l.values.items ++ values);
  only : (values : List Value) → SpellsValues (slice_split is_blank l.text) values → (rest : List Value) × SpellsValues (drop (length l.yielded) (slice_split is_blank l.text)) rest;
}
