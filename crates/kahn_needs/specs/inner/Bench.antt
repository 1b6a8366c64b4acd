-- Inner. The cells of a network over its plain queues, run by single events.
use Rattle.std.specs.Prelude.{◌≡◌, ℕ, ◌+◌, ◌≤◌, List, length, map, Option, Some, None, slice_get, slice_set}
use Rattle.kahn_streams.specs.Script as script
use Rattle.kahn_streams.specs.Solution as end
use Rattle.kahn_streams.specs.{Meaning.Store, Network.Reads, Network.actual_at, Network.instance_at, Network.network_of, Inputs.Lists, Inputs.inputs_of, Solution.ending, Wiring.IsWellWired, declared.tree.Program.Program}
use Rattle.kahn_code.specs.{Cells.StoodBy, Lines.AreQueued, Lines.Lines, Lines.place_at, Lines.taken_of, Lines.waiting_of, Progress.IsAt, Progress.Paused, Progress.CellView, Progress.told_view, Standing.count, declared.progress.Pause.Pause}
use Rattle.kahn_code.specs.declared.progress.Pause.TheVariants as pause

-- the queues, and how many values were taken from each channel
pub record Tallied : Type 0 where
  pub lines : Lines
  pub taken : List ℕ

-- so many were taken from each channel: from one that nobody reads none
pub record IsTally (s : Lines) (taken : List ℕ) : Type 0 where
  pub queued : AreQueued s
  pub size : length taken ≡ length (network_of s.network).channels
  pub read : (p q d : ℕ) → actual_at (instance_at (network_of s.network) p) q ≡ Reads d → count taken d ≡ taken_of (slice_get s.queues d)
  pub unread : (d : ℕ) → ((p q : ℕ) → actual_at (instance_at (network_of s.network) p) q ≡ Reads d → ⊥) → count taken d ≡ 0

-- the program and the input, the channel of which what is sent is kept, the program of the code, the cells and the queues, and how many values
-- were taken from each channel and how many events each instance did
pub record Seats : Type 0 where
  pub network : Program
  pub input : Lists
  pub watch : Option ℕ
  pub code : Program
  pub cells : List CellView
  pub queues : Lines
  pub taken : List ℕ
  pub done : List ℕ

-- what contracts see of these cells over these queues
abbrev pub seats_of : Program → Lists → Option ℕ → Program → List CellView → Tallied → List ℕ → Seats
seats_of t lists watch code cells ports done =
    record { network = t; input = lists; watch = watch; code = code; cells = cells; queues = ports.lines; taken = ports.taken; done = done }

-- the events of a cell
abbrev pub cell_events : CellView → ℕ
cell_events x = x.events

-- what the cell of instance p of the table says of its process is true
abbrev pub Stood : Seats → ℕ → CellView → Type 0
Stood b p x = StoodBy (network_of b.network) (inputs_of b.input) b.watch p (told_view x)

-- the cell is that of instance p, and stands where the queues stand
pub record HasItsSeat (b : Seats) (p : ℕ) (x : CellView) : Type 0 where
  pub network : x.network ≡ b.network
  pub input : x.input ≡ b.input
  pub instance : x.instance ≡ p
  pub watch : x.watch ≡ b.watch
  pub at : IsAt x (place_at b.queues p)
  pub stood : Stood b p x

-- a cell for each instance, and the queues of the same network and input
pub record HaveSeats (b : Seats) : Type 0 where
  pub wired : IsWellWired b.network
  pub code : b.code ≡ b.network
  pub count : length b.cells ≡ length (network_of b.network).instances
  pub each : (p : ℕ) (x : CellView) → slice_get b.cells p ≡ Some x → HasItsSeat b p x
  pub network : b.queues.network ≡ b.network
  pub input : b.queues.input ≡ b.input
  pub tally : IsTally b.queues b.taken
  pub done : b.done ≡ map cell_events b.cells

-- it is of this network, for this input, and what is sent on that channel is kept
abbrev pub AreSeatsOf : Program → Lists → Option ℕ → Seats → Type 0
AreSeatsOf t lists watch b = (b.network ≡ t) × (b.input ≡ lists) × (b.watch ≡ watch)

-- the cell of instance p before its first event
pub record IsUnmoved (t : Program) (lists : Lists) (watch : Option ℕ) (p : ℕ) (x : CellView) : Type 0 where
  pub network : x.network ≡ t
  pub input : x.input ≡ lists
  pub instance : x.instance ≡ p
  pub watched : x.watch ≡ watch
  pub events : x.events ≡ 0
  pub taken : (q : ℕ) → count x.taken q ≡ 0
  pub sent : (q : ℕ) → count x.sent q ≡ 0
  pub stood : StoodBy (network_of t) (inputs_of lists) watch p (told_view x)

-- those of the first n instances
pub record AreUnmoved (t : Program) (lists : Lists) (watch : Option ℕ) (cells : List CellView) (n : ℕ) : Type 0 where
  pub count : length cells ≡ n
  pub each : (p : ℕ) (x : CellView) → slice_get cells p ≡ Some x → IsUnmoved t lists watch p x

-- none has done or taken anything
abbrev pub HaveNotMoved : List CellView → Type 0
HaveNotMoved cells = (p : ℕ) (x : CellView) → slice_get cells p ≡ Some x → (x.events ≡ 0) × ((q : ℕ) → count x.taken q ≡ 0)

-- how instance p stopped: at its end, or where it waits for a channel whose queue is empty; of other pauses nothing is said
abbrev pub IsStopped : Seats → ℕ → Pause → script.ScriptOutcome Store → Type 0
IsStopped b p pause.Ended o = ending o ≡ Some end.Ended
IsStopped b p (pause.Fault k) o = ending o ≡ Some (end.Faulted k)
IsStopped b p (pause.Dry q) o =
    (c : ℕ) × (actual_at (instance_at (network_of b.network) p) q ≡ Reads c) × (o ≡ script.Dry q) × (waiting_of (slice_get b.queues.queues c) ≡ 0)
IsStopped b p pause.Spent o = Unit {0}
IsStopped b p pause.NoMemory o = Unit {0}

-- instance p did an event at most, and stopped so
pub record HasActed (b d : Seats) (p : ℕ) (z : Pause) : Type 0 where
  pub same : AreSeatsOf b.network b.input b.watch d
  pub old : CellView
  pub was : slice_get b.cells p ≡ Some old
  pub new : CellView
  pub cells : d.cells ≡ slice_set b.cells p new
  pub done : d.done ≡ slice_set b.done p new.events
  pub events : (old.events ≤ new.events) × (new.events ≤ old.events + 1)
  pub spent : z ≡ pause.Spent → new.events ≡ old.events + 1
  pub paused : Paused (network_of d.network) (inputs_of d.input) d.watch p (told_view new) (IsStopped d p z)

-- the events of a cell
abbrev pub events_seen : Option CellView → ℕ
events_seen None = 0
events_seen (Some x) = x.events
