-- Inner. What a board begins with, what a worker's seat has and knows between two turns and in a turn, what it drew, and what the seats of a crew have together.
use Rattle.std.specs.Prelude.{◌≡◌, ◌≢◌, ◌⊎◌, ℕ, suc, zero, ◌+◌, ◌*◌, ◌/◌, ◌^◌, ◌<◌, ◌≤◌, List, [], length, slice_index, slice_index_or, sum_by, Option, Some, None}
use Rattle.atomic_table.specs.Seated.{TableId}
use Rattle.kahn_board.specs.{Calls.Draws, Calls.Was, Calls.HoldsNothing, Rule.belongs, Rule.wired, Rule.IsDone, Rule.KnowsHalted, Rule.all_parts, Rule.channel_at, Rule.count_at, Wires.Summary, Wires.FlushedAll, Wires.flushed_of, Wires.events_past, Wires.Wires, Wires.wires, Plays.Carries, Plays.Sat, Plays.IsIn, Plays.SeesMore, Plays.after_giving_up, Plays.after_step, Plays.after_counting_down, declared.seat.Draw.Draw, declared.seat.Seat.Seat, declared.board.Terms.Terms, declared.view.SeatView.SeatView, declared.turn.Wiring.Wiring, declared.seat.Draw.TheVariants.Got, declared.seat.Draw.TheVariants.Lost, declared.seat.Draw.TheVariants.Empty}
use Rattle.kahn_streams.specs.declared.tree.Program.{Program}

-- what is kept of the network of a program
pub record IsWiringOf (program : Program) (w : Wiring) : Type 0 where
  pub counts : (w.instances ≡ (wires program).instances) × (w.channels ≡ (wires program).channels)
  pub limits : (w.instances ≤ 256) × (w.channels ≤ 1024)
  pub readers : (length w.readers.items ≡ w.channels) × ((c : ℕ) → c < w.channels → slice_index_or w.readers.items c None ≡ (wires program).reader c)

-- the first words: each of n instances is ready, this many tokens of each channel are published, the bound, the number of instances, and not
-- halted
pub record AreFirstWords (n bound : ℕ) (published words : List ℕ) : Type 0 where
  pub long : length words ≡ 8 * (n + length published) + 24
  pub ready : (p : ℕ) → p < n → slice_index words (8 * p) ≡ 0
  pub twice : (c : ℕ) → c < length published → slice_index words (8 * (n + c)) ≡ 2 * slice_index published c
  pub budget : slice_index words (8 * (n + length published)) ≡ bound
  pub count : slice_index words (8 * (n + length published) + 8) ≡ n
  pub halted : slice_index words (8 * (n + length published) + 16) ≡ 0

-- it has no instance, drew n events and owes nothing, and each event that it reported as done was reported by a cell
abbrev pub RestsWith : ℕ → SeatView → Type 0
RestsWith n v = (HoldsNothing v × (v.drawn ≡ n) × (v.owed ≡ []) × (v.down ≡ 0)) × (v.untold ≡ 0)

-- what is known of the instance p stays: what its channels' numbers are, what its cell reported when it was got; and no less was
-- seen
pub record Knows (w : Wires) (p : ℕ) (old new : SeatView) : Type 0 where
  pub flushed : (c : ℕ) → c < w.channels → w.writer c ≡ Some p → slice_index new.flushed c ≡ slice_index old.flushed c
  pub events_when_got : slice_index new.events_when_got p ≡ slice_index old.events_when_got p
  pub seen : SeesMore old.seen new.seen

-- k tokens of p's channel c are published
pub record HasPublished (w : Wires) (p c k : ℕ) (old new : SeatView) : Type 0 where
  pub here : slice_index new.flushed c ≡ k
  pub others : (d : ℕ) → d ≢ c → d < w.channels → w.writer d ≡ Some p → slice_index new.flushed d ≡ slice_index old.flushed d
  pub events_when_got : slice_index new.events_when_got p ≡ slice_index old.events_when_got p
  pub seen : SeesMore old.seen new.seen

module _ {T : Type 0} where
  -- it has the instance p alone, with x in its slot; it owes nothing, drew n events, and of those reported as done l were reported by no
  -- cell yet
  pub record InTurn (p n l : ℕ) (x : Option T) (m : Sat T) : Type 0 where
    pub mine : IsIn m.0 p
    pub alone : (q : ℕ) → q ≢ p → slice_index m.0.hands q ≡ 0
    pub slot : Carries m.1 p x
    pub owed : m.0.owed ≡ []
    pub down : m.0.down ≡ 0
    pub drawn : m.0.drawn ≡ n
    pub untold : m.0.untold ≡ l

  -- between two instances of a turn, with n events of its draw left
  abbrev pub IsBetween : ℕ → Seat T → Type 0
  IsBetween n s = RestsWith n s.seat.me.0

  -- between two turns
  abbrev pub IsBetweenTurns : Seat T → Type 0
  IsBetweenTurns s = IsBetween 0 s

  -- in a turn of p
  abbrev pub HoldsInTurn : ℕ → ℕ → ℕ → Option T → Seat T → Type 0
  HoldsInTurn p n l x s = InTurn p n l x s.seat.me

  -- the same seat, with the same parts, which didn't halt the run
  abbrev pub IsSeatOf : Seat T → Seat T → Type 0
  IsSeatOf s t =
      (t.seat.table_id ≡ s.seat.table_id) × (t.seat.id ≡ s.seat.id) × (t.seat.me.0.parts ≡ s.seat.me.0.parts) × (t.seat.me.0.raised ≡ s.seat.me.0.raised)

  -- p with its cell was set down ready, when the view was v
  abbrev pub SetsReady : (T → Option Summary) → Seat T → SeatView → Seat T → ℕ → Type 0
  SetsReady told s v t p = (y : T) → Carries s.seat.me.1 p (Some y) → t.seat.me.0 ≡ after_giving_up v p (told y) 0

module _ {T : Type 0} (told : T → Option Summary) (owns : ℕ → T → Type 0) (w : Wires) where
  -- the cell y of p may be left: what it reports as flushed is published, its events are those reported as done, it flushed all that it sent unless the run is halted, it
  -- belongs to p
  pub record Fits (p : ℕ) (y : T) (v : SeatView) : Type 0 where
    pub published : (c l : ℕ) → flushed_of (told y) c ≡ Some l → (c < w.channels) × (w.writer c ≡ Some p) × (l ≡ slice_index v.flushed c)
    pub events : events_past (told y) (slice_index v.events_when_got p) ≡ slice_index v.events_when_got p + v.untold
    pub flushed : KnowsHalted v ⊎ FlushedAll (told y)
    pub belonging : owns p y

module _ {T : Type 0} (told : T → Option Summary) (after : T → T → Type 0) (key : Terms T) where
  -- p with its cell was parked, or is over: the seat owed a count down for it at a moment of the call, and paid it
  abbrev pub SetsStill : Seat T → Seat T → ℕ → Type 0
  SetsStill s t p = (y : T) → Carries s.seat.me.1 p (Some y) → (q : ℕ)
      × Was told after key s (after_giving_up s.seat.me.0 p (told y) 1) (count_at (wired key)) q
      × (t.seat.me.0 ≡ after_counting_down (after_giving_up s.seat.me.0 p (told y) 1))

  -- p was set down ready, because other than k tokens of the channel c were published at some moment of the call
  abbrev pub SetsLate : ℕ → ℕ → Seat T → Seat T → ℕ → Type 0
  SetsLate c k s t p =
      (r : ℕ) × (r / 2 ≢ k) × Was told after key s s.seat.me.0 (channel_at (wired key) c) r × SetsReady told s (after_step s.seat.me.0) t p

  -- a turn of p begins: its cell is at home and may be left, n events are drawn, and none of them is reported as done
  abbrev pub BeginsTurn : ℕ → ℕ → Seat T → Type 0
  BeginsTurn p n s = (y : T) × HoldsInTurn p n 0 (Some y) s × Fits told (belongs after key) (wired key) p y s.seat.me.0

  -- a turn of p ends: its cell, of which `is` holds, is at home and may be left
  abbrev pub EndsTurn : ℕ → (T → Type 0) → Seat T → Type 0
  EndsTurn p is s =
      (n : ℕ) × (l : ℕ) × (y : T) × HoldsInTurn p n l (Some y) s × Fits told (belongs after key) (wired key) p y s.seat.me.0 × is y

  -- this many draws in a row, each of which was lost
  abbrev pub AreLost : ℕ → ℕ → Seat T → Seat T → Type 0
  AreLost quantum zero s t = t ≡ s
  AreLost quantum (suc k) s t = (m : Seat T) × AreLost quantum k s m × Draws told after key m t quantum Lost

  -- fewer than n lost draws, and then this one, the n-th if it is lost too
  abbrev pub DrawsAgain : ℕ → ℕ → Seat T → Seat T → Draw → Type 0
  DrawsAgain n quantum s t draw =
      (k : ℕ) × (m : Seat T) × (k < n) × AreLost quantum k s m × Draws told after key m t quantum draw × (draw ≡ Lost → suc k ≡ n)

-- how many events were drawn
abbrev pub drawn_of : Draw → ℕ
drawn_of (Got n) = n
drawn_of Lost = 0
drawn_of Empty = 0

-- what was drawn is at most the quantum, and with the `told` events of the instance a number of 48 bits
abbrev pub FitsDraw : ℕ → ℕ → Draw → Type 0
FitsDraw quantum told (Got n) = (0 < n) × (n ≤ quantum) × (told + n < 2 ^ 48)
FitsDraw quantum told Lost = Unit {0}
FitsDraw quantum told Empty = Unit {0}

module _ {T : Type 0} where
  -- their parts, the events that they reported as done, and how often they halted the run
  abbrev pub parts_of : List (Seat T) → ℕ
  parts_of seats = sum_by (λ s. s.seat.me.0.parts) seats

  abbrev pub done_of : List (Seat T) → ℕ
  done_of seats = sum_by (λ s. s.seat.me.0.done) seats

  abbrev pub raised_of : List (Seat T) → ℕ
  raised_of seats = sum_by (λ s. s.seat.me.0.raised) seats

  -- the third has all of these that the first and the others have together
  abbrev pub AddUp : Seat T → List (Seat T) → Seat T → Type 0
  AddUp s others t =
      (t.seat.me.0.parts ≡ s.seat.me.0.parts + parts_of others)
      × (t.seat.me.0.done ≡ s.seat.me.0.done + done_of others)
      × (t.seat.me.0.raised ≡ s.seat.me.0.raised + raised_of others)

  -- a seat at that board, between two turns
  abbrev pub SitsAt : TableId → Seat T → Type 0
  SitsAt z s = (s.seat.table_id ≡ z) × IsBetweenTurns s

  -- which has left
  abbrev pub IsDoneAt : TableId → Seat T → Type 0
  IsDoneAt z s = (s.seat.table_id ≡ z) × IsBetweenTurns s × IsDone s.seat.me.0

  -- which is the board's one seat
  abbrev pub IsLoneSeat : TableId → Seat T → Type 0
  IsLoneSeat z s = (s.seat.table_id ≡ z) × IsBetweenTurns s × (s.seat.me.0.parts ≡ all_parts)
