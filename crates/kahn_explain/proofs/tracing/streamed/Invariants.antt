-- No stream so far is of the line.
use Rattle.kahn_explain.proofs.Common.{◌≡◌, ℕ, ◌<◌, Some, slice_get, Stream}
use Rattle.kahn_explain.proofs.tracing.streamed.Given as goal

abbrev pub invariant-loop-stream : goal.invariant-loop-stream
invariant-loop-stream l = (j : ℕ) (s : Stream) → j < l.stream-index → slice_get l.answer.streams.items j ≡ Some s → s.line ≡ l.line → ⊥
