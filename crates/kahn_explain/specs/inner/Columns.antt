-- Inner. What the calls do that put columns together.
use Rattle.std.specs.Prelude.{◌≡◌, List, [], ◌∷◌, All, length, map}
use Rattle.kahn_streams.specs.{declared.tree.Program.Program, declared.value.Line.Line, Network.network_of, declared.value.Line.TheVariants.Channel, declared.value.Line.TheVariants.Print, Inputs.Lists, Inputs.inputs_of, Answers.HasStream, Answers.stream_line, declared.answer.Answer.Answer, declared.answer.Stream.Stream, declared.config.Config.Config}
use Rattle.kahn_sequential.specs.{Recordings.IsRecordedRun, declared.counted.Recorded.Recorded}
use Rattle.kahn_explain.specs.Histories.{AreHistories, IsHistory, all_channels}

-- the answer has a stream of the line
abbrev pub HasLine : Answer → Line → Type 0
HasLine a c = (s : Stream) × HasStream a s × (s.line ≡ c)

-- a history, whatever it was run on
abbrev pub IsAny : Program → Recorded → Stream → Type 0
IsAny t x s = (lists : Lists) (config : Config) → IsRecordedRun t lists config x → IsHistory (network_of t) (inputs_of lists) x.answer.verdict s

-- that of a line
abbrev pub IsHistoryOf : Program → Recorded → Line → Stream → Type 0
IsHistoryOf t x c s = (s.line ≡ c) × IsAny t x s

-- those of these lines
pub record AreColumns (t : Program) (x : Recorded) (cs : List Line) (ss : List Stream) : Type 0 where
  pub lines : map stream_line ss ≡ cs
  pub each : All (IsAny t x) ss

-- those of all channels
abbrev pub AreOfChannels : Program → Recorded → List Stream → Type 0
AreOfChannels t x ss = AreColumns t x (all_channels (length (network_of t).channels)) ss

-- and those of the print streams
abbrev pub AreAllHistories : Program → Recorded → List Stream → Type 0
AreAllHistories t x ss = (lists : Lists) (config : Config) → IsRecordedRun t lists config x → AreHistories (network_of t) (inputs_of lists) x.answer.verdict ss

-- a stream, where its line is one of prints
abbrev pub print_of : Line → Stream → List Stream
print_of (Channel c) s = []
print_of (Print p) s = s ∷ []

abbrev pub print_part : Stream → List Stream
print_part s = print_of s.line s
