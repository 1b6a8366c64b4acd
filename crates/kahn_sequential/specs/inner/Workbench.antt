-- Inner. The cells of a network over its plain queues, as a run on one thread has them.
use Rattle.std.specs.Prelude.{◌≡◌, ◌⊎◌, ℕ, ◌+◌, ◌<◌, ◌≤◌, ◌^◌, ◌==◌, true, cond, min, vec_capacity, List, [], ◌++◌, length, map, replicate, Option, Some, slice_get, slice_index_or, if◌then◌else◌}
use Rattle.kahn_sequential.specs.inner.Below.{Answer, End, Gone, IsAt, IsCutShort, IsOpening, IsRight, IsWellWired, Kept, Lists, More, Pause, Program, Queues, StoodBy, Stream, Tapped, Token, CellView, inputs_of, instance_at, kept_behind, most_values, network_of, nothing_gone, place_at, stream_line, stream_lines, tokens, told_view, waiting_of}
use Rattle.kahn_sequential.specs.inner.Bench.{AreEnds, HasEndIn, HasRunCell, LacksMemory, RunState, all_events, events_at}
use Rattle.kahn_code.specs.declared.progress.Pause.TheVariants as pause
use Rattle.kahn_sequential.specs.{HeldRuns.seen_at, HeldRuns.seen_of, declared.rounds.Round.Round, inner.Streams.IsOpenStream, inner.Streams.kept_lists, inner.Streams.printed_list}

-- the program and the input, the watched channel, the program of the code, the cells, what they let go of, and the queues
pub record Table : Type 0 where
  pub network : Program
  pub input : Lists
  pub watch : Option ℕ
  pub code : Program
  pub cells : List CellView
  pub gone : List Gone
  pub queues : Queues

abbrev pub told_in : Tapped → CellView
told_in x = x.told

abbrev pub gone_in : Tapped → Gone
gone_in x = x.gone

-- what contracts see of these taps over these queues
abbrev pub table_of : Program → Lists → Option ℕ → Program → List Tapped → Queues → Table
table_of t lists watch code taps queues =
    record { network = t; input = lists; watch = watch; code = code; cells = map told_in taps; gone = map gone_in taps; queues = queues }

-- a bench whose cells went elsewhere
abbrev pub vacant_of : Table → Table
vacant_of b = record b { cells = []; gone = [] }

-- with these cells, which have let go of nothing
abbrev pub seated_with : Table → List CellView → Table
seated_with b cells = record b { cells = cells; gone = replicate (length cells) nothing_gone }

-- none of so many cells has let go of anything
abbrev pub AreWhole : ℕ → List Gone → Type 0
AreWhole n gone = gone ≡ replicate n nothing_gone

-- what rounds see of it
abbrev pub sight_of : Table → RunState
sight_of b = record { network = network_of b.network; input = inputs_of b.input; watch = b.watch; cells = map told_view b.cells }

-- later, on the same network and input with the same channel watched: nothing more was let go of, and no instance has fewer events
pub record HasWorked (old new : Table) : Type 0 where
  pub network : new.network ≡ old.network
  pub input : new.input ≡ old.input
  pub watch : new.watch ≡ old.watch
  pub gone : new.gone ≡ old.gone
  pub events : (p : ℕ) → events_at (sight_of old) p ≤ events_at (sight_of new) p

-- ---- rounds

-- it may go on: so many events are left below 2^48, a quantum is not empty, and there is room for the end of each instance
pub record MayRun (s : RunState) (r : Round) : Type 0 where
  pub known : length s.cells ≡ length s.network.instances
  pub some : 0 < r.quantum
  pub bound : all_events s + r.left < 2 ^ 48
  pub room : length s.network.instances ≤ vec_capacity r.ends
  pub lacks : LacksMemory s r.left r.memory

-- how much there is to do: it falls with each event, and where memory is wanted for the first time
abbrev pub weight : Round → ℕ
weight r = r.left + cond r.memory 0 1

-- how many events a turn may do: none once memory was refused, else a quantum, or what is left where that is less
abbrev pub turn_of : Round → ℕ
turn_of r = cond r.memory 0 (min r.quantum r.left)

-- a turn wants memory, or not
abbrev pub Marked : Pause → Round → Round → Type 0
Marked z old new = ((z ≡ pause.NoMemory) × (new.memory ≡ true)) ⊎ ((z ≡ pause.NoMemory → ⊥) × (new.memory ≡ old.memory))

-- a turn did so many events until this pause: they are taken from what is left
pub record IsMarked (done : ℕ) (z : Pause) (old new : Round) : Type 0 where
  pub left : new.left + done ≡ old.left
  pub marks : Marked z old new
  pub quantum : new.quantum ≡ old.quantum
  pub ends : new.ends ≡ old.ends

-- instance p had its turn, until this pause
pub record HasTakenTurn (b d : Table) (old new : Round) (p : ℕ) (z : Pause) : Type 0 where
  pub ran : HasRunCell (sight_of b) (sight_of d) p (turn_of old) z
  pub done : ℕ
  pub counts : events_at (sight_of b) p + done ≡ events_at (sight_of d) p
  pub marked : IsMarked done z old new
  pub worked : HasWorked b d

-- that is so, after which it stands so
pub record HasVisited (b d : Table) (old new : Round) (p : ℕ) (x : End) : Type 0 where
  pub stopped : Pause
  pub turn : HasTakenTurn b d old new p stopped
  pub rests : HasEndIn (sight_of d) p x
  pub more : x.outcome ≡ More → (stopped ≡ pause.Spent) ⊎ (stopped ≡ pause.NoMemory)

-- instances had turns, and it may go on: what they did is taken from what is left, and the quantum and the room for ends stay
pub record HasAdvanced (b d : Table) (old new : Round) : Type 0 where
  pub worked : HasWorked b d
  pub may : MayRun (sight_of d) new
  pub total : all_events (sight_of d) + new.left ≡ all_events (sight_of b) + old.left
  pub lighter : weight new ≤ weight old
  pub quantum : new.quantum ≡ old.quantum
  pub room : vec_capacity new.ends ≡ vec_capacity old.ends

-- a round from its beginning, in which the first k instances had their turns: it has their ends, if there is as much to do as before
pub record IsInRound (b : Table) (old : Round) (d : Table) (new : Round) (k : ℕ) : Type 0 where
  pub advanced : HasAdvanced b d old new
  pub size : length new.ends.items ≡ k
  pub still : weight new ≡ weight old → AreEnds (sight_of d) new.left new.memory new.ends.items

-- rounds for so many events were left, and it may go on with what is left of those
pub record MayGoOn (b d : Table) (bound : ℕ) (r : Round) : Type 0 where
  pub may : MayRun (sight_of d) r
  pub total : all_events (sight_of d) + r.left ≡ all_events (sight_of b) + bound

-- rounds of a run with so many events in all were left there, and it has let go of nothing
pub record IsWide (b : Table) (bound : ℕ) (r : Round) : Type 0 where
  pub whole : AreWhole (length (network_of b.network).instances) b.gone
  pub may : MayRun (sight_of b) r
  pub total : all_events (sight_of b) + r.left ≡ bound

-- it is of this network, for this input, with this channel watched
abbrev pub IsBenchOf : Table → Program → Lists → Option ℕ → Type 0
IsBenchOf b t lists watch = (b.network ≡ t) × (b.input ≡ lists) × (b.watch ≡ watch)

-- a right answer of this network and input for so many events, which want of memory cut short only before the last one
abbrev pub IsRightAlone : Program → Lists → Option ℕ → ℕ → Answer → Type 0
IsRightAlone t lists watch bound a = IsRight (network_of t) (inputs_of lists) bound watch a × IsCutShort bound a

-- it goes on for this input: so many values more wait on channel c, and nothing else changes
pub record HasTakenIn (c n : ℕ) (input : Lists) (old new : Table) : Type 0 where
  pub rest : new ≡ record old { input = input; cells = new.cells; queues = new.queues }
  pub views : map told_view new.cells ≡ map told_view old.cells
  pub seen : map seen_of new.cells ≡ map seen_of old.cells
  pub waiting : (d : ℕ) → waiting_of (slice_get new.queues.queues d) ≡ waiting_of (slice_get old.queues.queues d) + (if c == d then n else 0)

-- what these cells say of their processes is true
abbrev pub AllStandBy : Program → Option ℕ → List CellView → Type 0
AllStandBy t watch cells = (p : ℕ) (c : CellView) → slice_get cells p ≡ Some c → StoodBy (network_of t) (inputs_of c.input) watch p (told_view c)

-- what its tap says of a process
abbrev pub StandsAsTold : Program → Tapped → Type 0
StandsAsTold t x = StoodBy (network_of t) (inputs_of x.told.input) x.told.watch x.told.instance (told_view x.told)

-- all of these tokens that were kept is let go of
abbrev pub IsSpentBy : Gone → List (List Token) → List Token → Type 0
IsSpentBy g kept printed = ((q : ℕ) → tokens g.kept q ≡ tokens kept q) × (g.printed ≡ printed)

-- all that instance p kept
abbrev pub IsSpent : Table → ℕ → Type 0
IsSpent b p =
    IsSpentBy (slice_index_or b.gone p nothing_gone) (seen_at (map seen_of b.cells) p).kept (seen_at (map seen_of b.cells) p).printed

-- all that a tap kept
abbrev pub IsSpentTap : Tapped → Type 0
IsSpentTap x = IsSpentBy x.gone x.told.kept x.told.printed

-- the tap has the same process, but for the room in its lists; and has let go of all that it kept
abbrev pub IsSameTap : Tapped → Tapped → Type 0
IsSameTap x y = y.told ≡ record x.told { spare = y.told.spare; print_spare = y.told.print_spare }

abbrev pub HasSpent : Tapped → Tapped → Type 0
HasSpent x y = IsSameTap x y × IsSpentTap y

-- all that the cells kept is let go of, and nothing else changes
pub record HasEmptied (old new : Table) : Type 0 where
  pub rest : new ≡ record old { cells = new.cells; gone = new.gone }
  pub views : map told_view new.cells ≡ map told_view old.cells
  pub seen : map seen_of new.cells ≡ map seen_of old.cells
  pub spent : (p : ℕ) → IsSpent new p

-- these tokens are what instance p kept on parameter q since that was last let go of
abbrev pub HasFresh : Table → ℕ → ℕ → List Token → Type 0
HasFresh b p q ts = tokens (seen_at (map seen_of b.cells) p).kept q ≡ tokens (slice_index_or b.gone p nothing_gone).kept q ++ ts

-- these are what it printed since
abbrev pub HasFreshPrints : Table → ℕ → List Token → Type 0
HasFreshPrints b p ts = (seen_at (map seen_of b.cells) p).printed ≡ (slice_index_or b.gone p nothing_gone).printed ++ ts

-- n values more of channel c may be poured, and that is the place of the first; or they may not be
abbrev pub IsNextPlace : Table → ℕ → ℕ → ℕ → Type 0
IsNextPlace b c n place =
    (waiting_of (slice_get b.queues.queues c) + n ≤ most_values) × (length (inputs_of b.input c) + n < 2 ^ 48) × (place ≡ length (inputs_of b.input c))

abbrev pub IsCrowded : Table → ℕ → ℕ → Type 0
IsCrowded b c n = (most_values < waiting_of (slice_get b.queues.queues c) + n) ⊎ (2 ^ 48 ≤ length (inputs_of b.input c) + n)

-- the cell is that of instance p, and stands where the queues stand
pub record IsSeated (b : Table) (p : ℕ) (c : CellView) : Type 0 where
  pub network : c.network ≡ b.network
  pub input : c.input ≡ b.input
  pub instance : c.instance ≡ p
  pub watch : c.watch ≡ b.watch
  pub at : IsAt c (place_at b.queues p)

-- a cell for each instance, and the queues of the same network and input
pub record IsLaid (b : Table) : Type 0 where
  pub wired : IsWellWired b.network
  pub code : b.code ≡ b.network
  pub count : length b.cells ≡ length (network_of b.network).instances
  pub each : (p : ℕ) (c : CellView) → slice_get b.cells p ≡ Some c → IsSeated b p c
  pub network : b.queues.network ≡ b.network
  pub input : b.queues.input ≡ b.input

-- the cells of the first n instances at their openings
pub record AreOpeningCells (t : Program) (lists : Lists) (watch : Option ℕ) (cells : List CellView) (n : ℕ) : Type 0 where
  pub count : length cells ≡ n
  pub each : (p : ℕ) (c : CellView) → slice_get cells p ≡ Some c → IsOpening t lists watch p c

-- the streams of an answer before any cell's token was moved there: an input channel has its whole list
pub record AreOpen (t : Program) (lists : Lists) (watch : Option ℕ) (streams : List Stream) : Type 0 where
  pub lines : map stream_line streams ≡ stream_lines (network_of t) watch
  pub given : (j : ℕ) (x : Stream) → slice_get streams j ≡ Some x → IsOpenStream (network_of t) (inputs_of lists) x

-- there are streams, and room for what each cell kept
pub record AreStreamsReady {A : Type 0} (t : Program) (lists : Lists) (watch : Option ℕ) (streams : List Stream) (kept : List A) (room : ℕ) : Type 0 where
  pub begun : AreOpen t lists watch streams
  pub empty : kept ≡ []
  pub enough : length (network_of t).instances ≤ room

abbrev pub parameter_count : {A : Type 0} → Kept A → ℕ
parameter_count k = length k.kept.items

abbrev pub actual_count : CellView → ℕ
actual_count c = length (instance_at (network_of c.network) c.instance).actuals

-- these lists are there of what the tap kept, after what it let go of
abbrev pub IsLeft : {A : Type 0} → Tapped → Kept A → Type 0
IsLeft x k =
    (kept_behind x.gone.kept (kept_lists k) ≡ x.told.kept) × (x.gone.printed ++ printed_list k ≡ x.told.printed) × (parameter_count k ≡ actual_count x.told)

-- these are the lists that the cells kept
pub record AreKeptOf {A : Type 0} (cells : List CellView) (kept : List (Kept A)) : Type 0 where
  pub sent : map kept_lists kept ≡ map (λ (c : CellView). c.kept) cells
  pub printed : map printed_list kept ≡ map (λ (c : CellView). c.printed) cells
  pub parameters : map parameter_count kept ≡ map actual_count cells
