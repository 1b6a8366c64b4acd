-- Believed. The histories of all channels of a run: which columns there are, and what their values are.
use Rattle.std.specs.Prelude.{◌≡◌, ◌⊎◌, ℕ, zero, suc, List, [], ◌∷◌, ◌++◌, All, length, map}
use Rattle.kahn_streams.specs.{declared.config.Config.Config, declared.tree.Program.Program, declared.value.Line.Line, Network.Schema, declared.value.Line.TheVariants.Channel, Solution.Inputs, Solution.IsPrefix, Solution.IsWhole, Solution.iterate, Inputs.Lists, Answers.print_lines, Answers.stream_line, Answers.values_of, declared.answer.Stream.Stream, declared.answer.Verdict.Verdict, declared.answer.Verdict.TheVariants.Finished, declared.fault.RunFault.TheVariants.NoMemory}
use Rattle.kahn_sequential.specs.{Recordings.IsCountedRun, Recordings.IsRecordedRun, declared.counted.Counted.Counted, declared.counted.Recorded.Recorded}
use Rattle.kahn_texts.specs.Formats.{StandsFor}
use Rattle.kahn_fault.specs.{Work.IsUnanswered, declared.work.WorkFault.WorkFault, declared.work.WorkFault.TheVariants.Run}

-- the first n channels, in order of declaration
abbrev pub all_channels : ℕ → List Line
all_channels zero = []
all_channels (suc n) = all_channels n ++ (Channel n ∷ [])

-- the lines that have columns: all channels, and then the print streams
abbrev pub trace_lines : Schema → List Line
trace_lines N = all_channels (length N.channels) ++ print_lines N.instances 0

-- the values begin the history of their line, and where the run of the table has finished they are the whole of it
pub record IsHistory (N : Schema) (I : Inputs) (v : Verdict) (s : Stream) : Type 0 where
  pub begins : (n : ℕ) × IsPrefix (values_of s) (iterate N I n s.line)
  pub whole : v ≡ Finished → IsWhole N I s.line (values_of s)

pub record AreHistories (N : Schema) (I : Inputs) (v : Verdict) (ss : List Stream) : Type 0 where
  pub lines : map stream_line ss ≡ trace_lines N
  pub each : All (IsHistory N I v) ss

-- the run of what a text stands for that keeps all that is sent
abbrev pub IsRecordedFor : Program → List ℕ → Config → Recorded → Type 0
IsRecordedFor t text config x = (lists : Lists) × StandsFor t text lists × IsRecordedRun t lists config x

-- a run that keeps all that is sent
abbrev pub IsRecord : Program → Recorded → Type 0
IsRecord t x = (lists : Lists) × (config : Config) × IsRecordedRun t lists config x

-- the run of what a text stands for that counts what each channel had
abbrev pub IsCountedFor : Program → List ℕ → Config → Counted → Type 0
IsCountedFor t text config x = (lists : Lists) × StandsFor t text lists × IsCountedRun t lists config x

-- a run that counts what each channel had
abbrev pub HasCounts : Program → Counted → Type 0
HasCounts t x = (lists : Lists) × (config : Config) × IsCountedRun t lists config x

-- why there is no run: memory was wanted, or there is no answer
abbrev pub IsUntraced : Program → List ℕ → Config → WorkFault → Type 0
IsUntraced t text config f = (f ≡ Run NoMemory) ⊎ IsUnanswered t text config f
