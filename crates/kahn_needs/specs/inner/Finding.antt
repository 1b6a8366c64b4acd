-- Inner. What is known in a search for needs.
use Rattle.std.specs.Prelude.{◌≡◌, ℕ, ◌≤◌, ◌<◌, ◌+◌, ◌^◌, All, List, length, Option, Some, None, slice_get}
use Rattle.kahn_streams.specs.{Inputs.inputs_of, Network.Schema, Network.Reads, Network.Given, Network.Written, Network.actual_at, Network.instance_at, Network.network_of, Solution.Inputs, Solution.input_list, Solution.source, declared.value.Line.Line, declared.value.Line.TheVariants.Channel, declared.value.Line.TheVariants.Print, declared.value.Value.Value}
use Rattle.kahn_code.specs.{Cells.sent_on, Progress.Paused, Progress.CellView, Progress.told_view, Standing.count, declared.progress.Pause.Pause}
use Rattle.kahn_needs.specs.{Needs.Cut, Needs.held_in, Finding.IsMissing, Finding.IsNetworkLine, Finding.LacksOne, Finding.LeadsTo, Finding.MeetsRing, Finding.Seeking, Finding.WaitsFor, Finding.events_total, inner.Bench.IsStopped, inner.Bench.AreSeatsOf, inner.Bench.Stood, inner.Bench.Seats, declared.search.Chain.Chain, declared.search.Demand.Demand, declared.search.Turn.Turn, declared.search.Sought.Sought}
use Rattle.kahn_needs.specs.declared.needs.Found.{Found}
use Rattle.kahn_needs.specs.declared.needs.Found.TheVariants as found
use Rattle.kahn_needs.specs.declared.search.Turn.TheVariants as turn
use Rattle.kahn_needs.specs.declared.search.Sought.TheVariants as sought

-- what is kept of the line
abbrev pub watch_of : Line → Option ℕ
watch_of (Channel c) = Some c
watch_of (Print p) = None

-- with that cut there is a value at place k of line c
abbrev pub HoldsAt : Schema → Inputs → Cut → Line → ℕ → Type 0
HoldsAt N I y c k = (n : ℕ) × (k < length (held_in N I y n c))

-- the same in the network of seats
abbrev pub HoldsIn : Seats → Cut → Line → ℕ → Type 0
HoldsIn b y c k = HoldsAt (network_of b.network) (inputs_of b.input) y c k

-- each cut with a value at place k of line c has one at place j of line d
abbrev pub IsWanted : Seats → Line → ℕ → Line → ℕ → Type 0
IsWanted b c k d j = (y : Cut) → HoldsIn b y c k → HoldsIn b y d j

-- each cut with a value at place k of line c has the events of each cell, and the values that these took
abbrev pub AreForced : Seats → Line → ℕ → Type 0
AreForced b c k =
    (y : Cut) → HoldsIn b y c k → (p : ℕ) (x : CellView) → slice_get b.cells p ≡ Some x →
    (x.events ≤ y.events p)
    × ((q d j : ℕ) → actual_at (instance_at (network_of b.network) p) q ≡ Reads d → j < count x.taken q → HoldsIn b y (Channel d) j)

-- waits lead from the value at place k of line c to the one at place j of line d
abbrev pub IsLed : Seats → Line → ℕ → Line → ℕ → Type 0
IsLed b c k d j = LeadsTo (network_of b.network) (inputs_of b.input) c k d j

-- the writer of the value at place j of line d waits for the one at place i of line e
abbrev pub Waits : Seats → Line → ℕ → Line → ℕ → Type 0
Waits b d j e i = WaitsFor (network_of b.network) (inputs_of b.input) d j e i

-- a value at place j of line d is wanted for the one at place k of line c; an input has none there
pub record IsDemand (b : Seats) (c : Line) (k : ℕ) (d : Line) (j : ℕ) : Type 0 where
  pub listed : IsNetworkLine (network_of b.network) d
  pub wanted : IsWanted b c k d j
  pub given : source (network_of b.network) d ≡ Given → length (input_list (inputs_of b.input) d) ≤ j
  pub led : IsLed b c k d j

-- each of them is wanted
abbrev pub AreDemands : Seats → Line → ℕ → List Demand → Type 0
AreDemands b c k ds = All (λ d. IsDemand b c k d.line d.place) ds

-- in each cut in which a value at place j of line d comes, one at place i of line e came earlier, or at the latest with it
abbrev pub IsSooner : Seats → Line → ℕ → Line → ℕ → Type 0
IsSooner b d j e i = (y : Cut) (h : HoldsIn b y d j) → (g : HoldsIn b y e i) × (g.0 < h.0)

abbrev pub IsNoLater : Seats → Line → ℕ → Line → ℕ → Type 0
IsNoLater b d j e i = (y : Cut) (h : HoldsIn b y d j) → (g : HoldsIn b y e i) × (g.0 ≤ h.0)

-- what is wanted for the value at place k of line c: by waits that lead from a value that is marked
pub record IsWaitChain (b : Seats) (c : Line) (k : ℕ) (x : Chain) : Type 0 where
  pub demanded : IsDemand b c k x.demand.line x.demand.place
  pub marked : IsWanted b c k x.mark.line x.mark.place
  pub later : IsNoLater b x.mark.line x.mark.place x.demand.line x.demand.place
  pub led : IsLed b c k x.mark.line x.mark.place
  pub leads : IsLed b x.mark.line x.mark.place x.demand.line x.demand.place

-- the value for which the last one of a chain waits
abbrev pub IsAwaited : Seats → Line → ℕ → Chain → Demand → Type 0
IsAwaited b c k x d = IsDemand b c k d.line d.place × IsSooner b x.demand.line x.demand.place d.line d.place × Waits b x.demand.line x.demand.place d.line d.place

-- what contracts see of a search
abbrev pub seeking_of : Seats → Line → ℕ → ℕ → Seeking
seeking_of b c k n = record { network = b.network; input = b.input; line = c; next = k; left = n; done = b.done }

-- what was found are needs, with these events
abbrev pub AreOfDone : List ℕ → Found → Type 0
AreOfDone done (found.Needs x) = x.events.items ≡ done
AreOfDone done f = ⊥

-- what is kept between the searches for the values of line c from place k on
pub record IsSearchState (b : Seats) (c : Line) (k : ℕ) : Type 0 where
  pub listed : IsNetworkLine (network_of b.network) c
  pub written : source (network_of b.network) c ≡ Given → ⊥
  pub watch : b.watch ≡ watch_of c
  pub forced : AreForced b c k

-- n values were sent on the line
abbrev pub HasSentSoMany : Seats → Line → ℕ → Type 0
HasSentSoMany b c n =
    (p : ℕ) → source (network_of b.network) c ≡ Written p → (x : CellView) → slice_get b.cells p ≡ Some x → (s : Stood b p x) →
    length (sent_on (network_of b.network) x.events p s.tapes c) ≡ n

-- a value was sent at that place of a line that an instance writes
abbrev pub HasCome : Seats → Line → ℕ → Type 0
HasCome b c k =
    (p : ℕ) × (source (network_of b.network) c ≡ Written p) × (p < length (network_of b.network).instances) × ((n : ℕ) × HasSentSoMany b c n × (k < n))

-- it is v
abbrev pub HasValue : Seats → Line → ℕ → Value → Type 0
HasValue b c k v =
    (p : ℕ) → source (network_of b.network) c ≡ Written p → (x : CellView) → slice_get b.cells p ≡ Some x → (s : Stood b p x) →
    slice_get (sent_on (network_of b.network) x.events p s.tapes c) k ≡ Some v

-- an instance stopped so
abbrev pub IsPausedAt : Seats → ℕ → Pause → Type 0
IsPausedAt b p z =
    (x : CellView) × (slice_get b.cells p ≡ Some x) × Paused (network_of b.network) (inputs_of b.input) b.watch p (told_view x) (IsStopped b p z)

-- no cut has the value at place k of line c
abbrev pub IsInNoCut : Seats → Line → ℕ → Type 0
IsInNoCut b c k = (y : Cut) → HoldsIn b y c k → ⊥

-- an instance has done as many events as one may
abbrev pub HasDoneAll : Seats → Type 0
HasDoneAll b = (p : ℕ) × (2 ^ 48 ≤ count b.done p + 1)

-- what a turn for the value at place j of line d tells, where that at place k of line c is sought
abbrev pub IsTurnTold : Seats → Line → ℕ → Line → ℕ → Turn → Type 0
IsTurnTold b c k d j turn.Sent = HasCome b d j
IsTurnTold b c k d j (turn.Waits e) =
    IsDemand b c k (Channel e) (count b.taken e) × IsSooner b d j (Channel e) (count b.taken e) × Waits b d j (Channel e) (count b.taken e)
IsTurnTold b c k d j turn.Over = IsInNoCut b c k × IsMissing (network_of b.network) (inputs_of b.input) d j
IsTurnTold b c k d j turn.Bound = HasDoneAll b
IsTurnTold b c k d j t = Unit {0}

-- how many events a turn did
abbrev pub acted_by : Turn → ℕ
acted_by turn.Acted = 1
acted_by t = 0

-- the turn was for that value, and its events are counted
pub record HasSearched (b e : Seats) (c : Line) (k : ℕ) (d : Line) (j : ℕ) (t : Turn) : Type 0 where
  pub same : AreSeatsOf b.network b.input b.watch e
  pub forced : AreForced e c k
  pub told : IsTurnTold e c k d j t
  pub counted : events_total e.done ≡ events_total b.done + acted_by t

-- how the search for a value at place k of line c ended
abbrev pub IsEndOfSearch : Seats → Line → ℕ → Sought → Type 0
IsEndOfSearch b c k sought.Come = HasCome b c k
IsEndOfSearch b c k sought.Never = IsInNoCut b c k × LacksOne (network_of b.network) (inputs_of b.input) c k
IsEndOfSearch b c k sought.Ring = IsInNoCut b c k × MeetsRing (network_of b.network) (inputs_of b.input) c k
IsEndOfSearch b c k sought.Bound = HasDoneAll b
IsEndOfSearch b c k sought.Spent = ⊥
IsEndOfSearch b c k s = Unit {0}

-- and that for as many events as were left
abbrev pub HasEndedWith : Seats → Line → ℕ → ℕ → Sought → Type 0
HasEndedWith b c k left sought.Spent = left ≡ 0
HasEndedWith b c k left s = IsEndOfSearch b c k s
