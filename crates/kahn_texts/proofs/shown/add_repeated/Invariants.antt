-- The piece was added so many times.
use Rattle.std.proofs.Common.{◌≡◌, ◌++◌, string_bytes}
use Rattle.kahn_texts.specs.Shown.{times_over}
use Rattle.kahn_texts.proofs.shown.add_repeated.Given as goal

abbrev pub invariant-loop-time : goal.invariant-loop-time
invariant-loop-time l = string_bytes l.text ≡ string_bytes l.initial.text ++ times_over l._time l.piece
