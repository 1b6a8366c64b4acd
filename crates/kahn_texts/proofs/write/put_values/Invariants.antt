-- The values before this place went out, by at most as many writes as they have bytes.
use Rattle.kahn_texts.proofs.Common.{◌≡◌, ◌+◌, ◌-◌, ◌≤◌, length, take, flat_map, Appends}
use Rattle.kahn_texts.specs.inner.Layouts.{separated}
use Rattle.kahn_texts.proofs.write.put_values.Given as goal

abbrev pub invariant-loop-from : goal.invariant-loop-from
invariant-loop-from g l = record {
  within : l.from ≤ length l.values;
  room : length l.room ≡ 672;
  gone : Appends (g.W.Write.contents l.initial.writer) (g.W.Write.contents l.writer) (flat_map (separated l.layout) (take l.from l.values));
  few : g.C.CallCount.count l.writes ≤ g.C.CallCount.count l.initial.writes + length (flat_map (separated l.layout) (take l.from l.values));
}

abbrev pub decreases-loop-from : goal.decreases-loop-from
decreases-loop-from g l = length l.values - l.from
