-- Believed. What else is told of a run beside its answer: how many values each channel had, and how many of them were taken; and of one that
-- keeps all that is sent, what they were (this project's profile).
use Rattle.std.specs.Prelude.{◌≡◌, ℕ, ◌+◌, List, Option, Some, false, length, slice_get}
use Rattle.kahn_sequential.specs.inner.Below.{AreRight, Channel, Config, End, Finished, Inputs, IsAllowed, IsRight, IsWatched, IsWhole, Lists, Schema, Program, Reads, Stream, Verdict, actual_at, exec_at, inputs_of, instance_at, is_output, network_of, role_at, values_of}
use Rattle.kahn_sequential.specs.declared.{counted.Count.Count, counted.Counted.Counted, counted.Recorded.Recorded}

-- ---- how many

-- so many values were sent on channel c, or given by the input, as its history in a right answer has; and so many were taken, as its reader takes
-- of that history by its events
pub record IsCountIn {N : Schema} {I : Inputs} {bound : ℕ} {v : Verdict} {ends : List End} {events : ℕ} (right : AreRight N I bound v ends events) (c : ℕ) (n : Count) : Type 0 where
  pub sent : n.sent ≡ length (right.tapes (Channel c))
  pub taken : (p q : ℕ) (x : End) → actual_at (instance_at N p) q ≡ Reads c → slice_get ends p ≡ Some x →
      n.taken + length ((exec_at N x.events p right.tapes).left q) ≡ length (right.tapes (Channel c))

-- those of each channel
pub record AreCountsIn {N : Schema} {I : Inputs} {bound : ℕ} {v : Verdict} {ends : List End} {events : ℕ} (right : AreRight N I bound v ends events) (counts : List Count) : Type 0 where
  pub count : length counts ≡ length N.channels
  pub each : (c : ℕ) (n : Count) → slice_get counts c ≡ Some n → IsCountIn right c n

-- ---- what they were

-- the stream is the history of channel c in a right answer, and where that has finished the whole history
pub record IsHistoryIn {N : Schema} {I : Inputs} {bound : ℕ} {v : Verdict} {ends : List End} {events : ℕ} (right : AreRight N I bound v ends events) (c : ℕ) (s : Stream) : Type 0 where
  pub line : s.line ≡ Channel c
  pub values : values_of s ≡ right.tapes (Channel c)
  pub whole : v ≡ Finished → IsWhole N I (Channel c) (values_of s)

-- a stream for each channel: those of outputs are in the answer
pub record AreHistoriesIn {N : Schema} {I : Inputs} {bound : ℕ} {v : Verdict} {ends : List End} {events : ℕ} (right : AreRight N I bound v ends events) (streams : List Stream) : Type 0 where
  pub count : length streams ≡ length N.channels
  pub each : (c : ℕ) (s : Stream) → slice_get streams c ≡ Some s → is_output (role_at N c) ≡ false → IsHistoryIn right c s

-- ---- runs

-- a right answer, with the counts of its channels
abbrev pub IsCountedRun : Program → Lists → Config → Counted → Type 0
IsCountedRun t lists config x =
    IsAllowed config × ((watch : Option ℕ) × IsWatched t config.watch watch
    × ((right : IsRight (network_of t) (inputs_of lists) config.bound watch x.answer) × AreCountsIn right.run x.counts.items))

-- and with their histories
abbrev pub IsRecordedRun : Program → Lists → Config → Recorded → Type 0
IsRecordedRun t lists config x =
    IsAllowed config × ((watch : Option ℕ) × IsWatched t config.watch watch
    × ((right : IsRight (network_of t) (inputs_of lists) config.bound watch x.answer) × AreCountsIn right.run x.counts.items × AreHistoriesIn right.run x.channels.items))
