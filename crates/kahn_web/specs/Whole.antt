-- Believed. What the page is told of all channels of a run: how many values each had, what they were, and how many of them were taken.
use Rattle.std.specs.Prelude.{◌≡◌, ℕ, zero, suc, List, [], ◌∷◌, ◌++◌, Option, None, Some, codes, decimal, length, slice_get}
use Rattle.std.specs.List.{concat}
use Rattle.kahn_streams.specs.{declared.tree.Program.Program, declared.config.Config.Config, declared.answer.Stream.Stream, declared.value.Line.TheVariants.Channel, Answers.values_of, Inputs.Lists, Network.network_of, Written.line_feed}
use Rattle.kahn_sequential.specs.{Recordings.IsRecordedRun, declared.counted.Count.Count, declared.counted.Recorded.Recorded}
use Rattle.kahn_texts.specs.{Formats.StandsFor, Formats.channel_name, Formats.report_text, News.more_text}
use Rattle.kahn_fault.specs.Work.{IsChecked}
use Rattle.kahn_web.specs.Alone.{alone}

-- the same with at most so many events in a turn
abbrev pub turning : ℕ → ℕ → Config
turning quantum bound = record (alone bound) { quantum = quantum }

-- the numbers of a channel
abbrev pub flow_text : Program → ℕ → Option Count → List ℕ
flow_text t c None = []
flow_text t c (Some n) = concat (codes "count " ∷ channel_name t c ∷ codes ": " ∷ decimal n.sent ∷ codes " " ∷ decimal n.taken ∷ line_feed ∷ [])

-- what was kept of it, if there is any: what an output had stands in the report
abbrev pub history_text : Program → ℕ → Option Stream → List ℕ
history_text t c None = []
history_text t c (Some s) = more_text t (Channel c) (values_of s)

-- both of the first n channels
abbrev pub channels_text : Program → Recorded → ℕ → List ℕ
channels_text t x zero = []
channels_text t x (suc n) = channels_text t x n ++ (flow_text t n (slice_get x.counts.items n) ++ history_text t n (slice_get x.channels.items n))

-- those of all channels, and the report
abbrev pub whole_text : Program → Recorded → List ℕ
whole_text t x = channels_text t x (length (network_of t).channels) ++ report_text t x.answer

-- those of a run that kept all channels, for what an input text describes
abbrev pub IsWholeText : List ℕ → List ℕ → ℕ → ℕ → List ℕ → Type 0
IsWholeText program input quantum bound text = (t : Program) × (lists : Lists) × (x : Recorded)
    × IsChecked program t × StandsFor t input lists × IsRecordedRun t lists (turning quantum bound) x × (text ≡ whole_text t x)
