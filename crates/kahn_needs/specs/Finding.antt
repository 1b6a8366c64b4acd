-- Believed. What is told of the needs of a value.
use Rattle.std.specs.Prelude.{◌≡◌, ◌⊎◌, ℕ, ◌<◌, ◌≤◌, ◌+◌, ◌^◌, List, [], ◌∷◌, length, Option, Some, slice_index_or}
use Rattle.kahn_streams.specs.{Inputs.Lists, Network.Schema, Network.Source, Network.Given, Network.Written, Network.Reads, Network.actual_at, Network.instance_at, Script.Dry, Script.Tapes, Solution.Ended, Solution.Ending, Solution.Faulted, Solution.Inputs, Solution.Stands, Solution.ending, Solution.input_list, Solution.source, Steps.empty, declared.tree.Program.Program, declared.value.Line.Line, declared.value.Line.TheVariants.Channel, declared.value.Line.TheVariants.Print, declared.value.Value.Value}
use Rattle.kahn_code.specs.Cells.{AllStand, exec_on, sent_on}
use Rattle.kahn_needs.specs.{Needs.AreNeeds, Needs.Cut, declared.needs.Found.Found}
use Rattle.kahn_needs.specs.declared.needs.Found.TheVariants as found

-- a channel of the network, or the print stream of one of its instances
abbrev pub IsNetworkLine : Schema → Line → Type 0
IsNetworkLine N (Channel c) = c < length N.channels
IsNetworkLine N (Print p) = p < length N.instances

abbrev pub of_input : Source → ℕ → ℕ
of_input Given n = n
of_input s n = 0

-- so many values of each input, and so many events of each instance
abbrev pub cut_told : Schema → List ℕ → List ℕ → Cut
cut_told N values events = record { values = λ d. of_input (source N (Channel d)) (slice_index_or values d 0); events = λ p. slice_index_or events p 0 }

-- ---- where an instance stands

-- what is on each tape of instance p stands on the channel that it reads there
pub record AreTapes (N : Schema) (I : Inputs) (p : ℕ) (T : Tapes) : Type 0 where
  pub stand : (q d : ℕ) → actual_at (instance_at N p) q ≡ Reads d → AllStand N I (Channel d) (T q)
  pub none : (q : ℕ) → ((d : ℕ) → actual_at (instance_at N p) q ≡ Reads d → ⊥) → T q ≡ []

-- on these first values of what it reads instance p does e events, and takes all of them
pub record Reaches (N : Schema) (I : Inputs) (p e : ℕ) (T : Tapes) : Type 0 where
  pub tapes : AreTapes N I p T
  pub does : (exec_on N e p T).events ≡ e
  pub all : (exec_on N e p T).left ≡ empty

-- a number for each instance, its events, and one for each channel: how many values its reader takes with its events, and none where nobody reads
pub record NeedsCounts (N : Schema) (I : Inputs) (values events : List ℕ) : Type 0 where
  pub channels : length values ≡ length N.channels
  pub instances : length events ≡ length N.instances
  pub read : (p q d : ℕ) → actual_at (instance_at N p) q ≡ Reads d → (T : Tapes) × Reaches N I p (slice_index_or events p 0) T × (length (T q) ≡ slice_index_or values d 0)
  pub unread : (d : ℕ) → ((p q : ℕ) → actual_at (instance_at N p) q ≡ Reads d → ⊥) → slice_index_or values d 0 ≡ 0

-- ---- why a value never comes

-- its writer stands somewhere, and hasn't sent it
pub record StandsBefore (N : Schema) (I : Inputs) (d : Line) (j : ℕ) : Type 0 where
  pub writer : ℕ
  pub written : source N d ≡ Written writer
  pub events : ℕ
  pub tapes : Tapes
  pub reaches : Reaches N I writer events tapes
  pub few : length (sent_on N events writer tapes d) ≤ j

-- there the writer of the value at place j of line d waits for that at place i of line f
pub record WaitsFor (N : Schema) (I : Inputs) (d : Line) (j : ℕ) (f : Line) (i : ℕ) : Type 0 where
  pub unsent : StandsBefore N I d j
  pub parameter : ℕ
  pub channel : ℕ
  pub dry : (exec_on N unsent.events unsent.writer unsent.tapes).outcome ≡ Dry parameter
  pub reads : actual_at (instance_at N unsent.writer) parameter ≡ Reads channel
  pub line : f ≡ Channel channel
  pub place : i ≡ length (unsent.tapes parameter)

-- such waits lead from the value at place k of line c to another
pub data LeadsTo (N : Schema) (I : Inputs) (c : Line) (k : ℕ) : Line → ℕ → Type 0 where
  stays : LeadsTo N I c k c k
  onward : {d f : Line} {j i : ℕ} → LeadsTo N I c k d j → WaitsFor N I d j f i → LeadsTo N I c k f i

-- an end that isn't a wait
abbrev pub IsLastEnd : Option Ending → Type 0
IsLastEnd (Some Ended) = Unit {0}
IsLastEnd (Some (Faulted k)) = Unit {0}
IsLastEnd e = ⊥

-- an input has no more values, or a writer is at its end or its fault
abbrev pub IsMissing : Schema → Inputs → Line → ℕ → Type 0
IsMissing N I d j =
    ((source N d ≡ Given) × (length (input_list I d) ≤ j))
    ⊎ ((x : StandsBefore N I d j) × IsLastEnd (ending (exec_on N x.events x.writer x.tapes).outcome))

-- waits lead from the value to one that is missing
abbrev pub LacksOne : Schema → Inputs → Line → ℕ → Type 0
LacksOne N I c k = (d : Line) × (j : ℕ) × LeadsTo N I c k d j × IsMissing N I d j

-- waits lead from the value into a ring
abbrev pub MeetsRing : Schema → Inputs → Line → ℕ → Type 0
MeetsRing N I c k = (m d : Line) × (i j : ℕ) × LeadsTo N I c k m i × LeadsTo N I m i d j × WaitsFor N I d j m i

-- ---- what is found

-- no value stands at place k of line c
abbrev pub IsNowhere : Schema → Inputs → Line → ℕ → Type 0
IsNowhere N I c k = (v : Value) → Stands N I c k v → ⊥

-- at place k of line c is this value, and it needs just that; or no value ever stands there, and why. Where the bound is used up, nothing is said.
abbrev pub AreNeedsFound : Schema → Inputs → Line → ℕ → Found → Type 0
AreNeedsFound N I c k (found.Needs x) = AreNeeds N I c k x.value (cut_told N x.values.items x.events.items) × NeedsCounts N I x.values.items x.events.items
AreNeedsFound N I c k found.Never = IsNowhere N I c k × LacksOne N I c k
AreNeedsFound N I c k found.Ring = IsNowhere N I c k × MeetsRing N I c k
AreNeedsFound N I c k found.Bound = Unit {0}

-- the sum of these numbers
abbrev pub events_total : List ℕ → ℕ
events_total [] = 0
events_total (n ∷ ns) = n + events_total ns

-- a search on a line of a network, for an input, from that place on, for so many events more; and the events that each instance has done
pub record Seeking : Type 0 where
  pub network : Program
  pub input : Lists
  pub line : Line
  pub next : ℕ
  pub left : ℕ
  pub done : List ℕ

abbrev pub IsSeeking : Program → Lists → Line → ℕ → Seeking → Type 0
IsSeeking t lists c k s = (s.network ≡ t) × (s.input ≡ lists) × (s.line ≡ c) × (s.next ≡ k)

-- no more events are left, or an instance has done as many as one may: 2^48 - 1
abbrev pub IsBoundUsed : Seeking → Type 0
IsBoundUsed s = (s.left ≡ 0) ⊎ ((p : ℕ) × (2 ^ 48 ≤ slice_index_or s.done p 0 + 1))

-- what was found is of the events done: all that were done are needed, and only where its bound is used up has the search found nothing
abbrev pub IsFoundBy : Seeking → Found → Type 0
IsFoundBy s (found.Needs x) = x.events.items ≡ s.done
IsFoundBy s found.Bound = IsBoundUsed s
IsFoundBy s f = Unit {0}
