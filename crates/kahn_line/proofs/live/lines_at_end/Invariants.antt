-- The lines are those of the words so far.
use Rattle.kahn_line.proofs.Common.{◌≡◌, map, take, option_copied, string_bytes, set_line}
use Rattle.kahn_line.proofs.live.lines_at_end.Given as goal

abbrev pub invariant-loop-word : goal.invariant-loop-word
invariant-loop-word l = map string_bytes l.lines.items ≡ map (λ w. set_line (option_copied l.input) w.now) (take l.word-index l.words)
