-- Inner. What a session and its run keep.
use Rattle.std.specs.Prelude.{◌≡◌, ℕ, ◌+◌, ◌<◌, ◌≤◌, List, Option, length, map}
use Rattle.std.specs.{declared.alloc.Global.Global, declared.vec.Vec.Vec}
use Rattle.kahn_streams.specs.{declared.tree.Program.Program, declared.value.Line.Line, declared.value.Value.Value}
use Rattle.kahn_sequential.specs.{HeldRuns.HeldRun, Flows.Flowing, Flows.IsStale, Flows.flow_lines}
use Rattle.kahn_texts.specs.News.{news_text}
use Rattle.kahn_session.specs.{Forms.values_behind, Live.IsFirstInput, Pace.events_of, Pace.most_bound}

-- its network, and the name of the first input channel
abbrev pub AreKept : HeldRun → Program → Option (List ℕ) → Type 0
AreKept h t first = (h.network ≡ t) × IsFirstInput t first

-- the lines of its streams, and the sum of all bounds
abbrev pub IsPaced : HeldRun → List Line → ℕ → ℕ → Type 0
IsPaced h lines allowed step = (lines ≡ flow_lines h) × (allowed ≡ h.bound) × (h.bound ≤ most_bound) × (h.bound ≤ events_of h + step)

-- the values that are kept of each stream
abbrev pub kept_values : List (Vec Value Global) → List (List Value)
kept_values kept = map (λ v. v.items) kept

-- nothing is new of the streams of the numbers from one on and below another
abbrev pub AreStale : Flowing → ℕ → ℕ → Type 0
AreStale f from to = (j : ℕ) → from ≤ j → j < to → IsStale f j

-- the text of what is new on the streams of these lines
abbrev pub lines_text : Program → Flowing → List Line → List ℕ
lines_text t f lines = news_text t lines (values_behind f.run lines (map length f.out))
