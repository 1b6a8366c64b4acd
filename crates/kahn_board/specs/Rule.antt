-- Believed. Where an instance is, what seats owe to the count, what a board was made with, and the rule of its table: what is true between any two steps of any seats.
-- Words are eight apart, each in a cache line of its own. Among n instances and m channels: word 8 p of the instance p is 0 if it is ready, 1 if it is held or parked, 2
-- if it is over; word 8 (n + c) of the channel c is 2 k, or 2 k + 1 if the reader is parked on it, k being the number published; the budget, the count and halted are at 8
-- (n + m), 8 (n + m + 1) and 8 (n + m + 2). Slot p has the cell of the instance p.
use Rattle.std.specs.Prelude.{◌≡◌, ◌≢◌, ◌⊎◌, ℕ, ◌+◌, ◌*◌, ◌/◌, ◌%◌, ◌^◌, ◌<◌, ◌≤◌, List, [], length, slice_index, replicate, Some, zero, suc, ◌∷◌, cond, ◌==◌}
use Rattle.std.specs.Prelude as std
use mathlib.Core.Option.{Option, none, some}
use lib.ListN.{get_elem?}
use Rattle.atomic_table.specs.Table.{State, Seen}
use Rattle.kahn_board.specs.Wires.{Summary, TellsWait, TellsEnd, TellsEvents, FlushedAll, flushed_of, events_past, Wires, wires}
use Rattle.kahn_board.specs.declared.{board.Terms.Terms, view.SeatView.SeatView}

-- where an instance is
pub data Whereabouts : Type 0 where
  ready : Whereabouts
  -- by the seat of this number
  held : ℕ → Whereabouts
  -- on the channel of this number
  parked : ℕ → Whereabouts
  over : Whereabouts

-- the word of an instance that is there
abbrev pub word_code : Whereabouts → ℕ
word_code ready = 0
word_code (held j) = 1
word_code (parked c) = 1
word_code over = 2

-- 1 if the seat j has it, else 0
abbrev pub held_by : ℕ → Whereabouts → ℕ
held_by j (held k) = cond (k == j) 1 0
held_by j place = 0

abbrev pub parked_on : ℕ → Whereabouts → ℕ
parked_on c (parked d) = cond (d == c) 1 0
parked_on c place = 0

-- 1 if the reader of the channel c is parked on it, else 0
abbrev pub mark_of : (ℕ → Whereabouts) → std.Option ℕ → ℕ → ℕ
mark_of place std.None c = 0
mark_of place (Some p) c = parked_on c (place p)

abbrev pub total : {A : Type 0} → (A → ℕ) → List A → ℕ
total f [] = 0
total f (x ∷ xs) = f x + total f xs

-- 1 at k, else 0
abbrev pub only : ℕ → ℕ → ℕ
only k x = cond (x == k) 1 0

-- the woken reader and its waker, of each count up that is owed, the longest owed first
abbrev pub Owed : Type 0
Owed = List (ℕ × ℕ)

-- p isn't among the readers
abbrev pub Apart : ℕ → Owed → Type 0
Apart p [] = Unit {0}
Apart p (x ∷ xs) = (x.0 ≢ p) × Apart p xs

-- both are in the hands, the reader isn't woken twice, and the waker wasn't woken since
abbrev pub Owes : List ℕ → Owed → Type 0
Owes hands [] = Unit {0}
Owes hands (x ∷ xs) = (slice_index hands x.0 ≡ 1) × (slice_index hands x.1 ≡ 1) × (x.0 ≢ x.1) × Apart x.0 xs × Apart x.1 xs × Owes hands xs

-- 1 if the instance is neither parked nor over
abbrev pub is_up : Whereabouts → ℕ
is_up (parked c) = 0
is_up over = 0
is_up place = 1

abbrev pub below : (ℕ → ℕ) → ℕ → ℕ
below f zero = 0
below f (suc n) = below f n + f n

-- the parts of a board's first seat
abbrev pub all_parts : ℕ
all_parts = 65536

-- the view of a seat that was joined to another
abbrev pub spent : SeatView
spent = record { parts = 0; hands = []; flushed = []; events_when_got = []; drawn = 0; done = 0; untold = 0; owed = []; down = 0; seen = 0; stage = 0; steps = 0; raised = 0 }

-- the view of a seat with these parts that has and knows nothing, among n instances and k channels
abbrev pub blank : ℕ → ℕ → ℕ → SeatView
blank n k parts = record spent { parts = parts; hands = replicate n 0; flushed = replicate k 0; events_when_got = replicate n 0 }

-- the view of the first seat
abbrev pub opening_view : Wires → SeatView
opening_view w = blank w.instances w.channels all_parts

abbrev pub channel_at : Wires → ℕ → ℕ
channel_at w c = 8 * (w.instances + c)

-- how many tokens of the channel c are published
abbrev pub published : Wires → List ℕ → ℕ → ℕ
published w words c = slice_index words (channel_at w c) / 2

abbrev pub budget_at : Wires → ℕ
budget_at w = 8 * (w.instances + w.channels)

abbrev pub count_at : Wires → ℕ
count_at w = 8 * (w.instances + w.channels) + 8

abbrev pub halted_at : Wires → ℕ
halted_at w = 8 * (w.instances + w.channels) + 16

-- how many events may still be drawn
abbrev pub budget : Wires → List ℕ → ℕ
budget w words = slice_index words (budget_at w)

-- how many instances may go on, by what the seats have paid so far
abbrev pub up_count : Wires → List ℕ → ℕ
up_count w words = slice_index words (count_at w)

-- 0 until a seat has halted the run
abbrev pub halt_word : Wires → List ℕ → ℕ
halt_word w words = slice_index words (halted_at w)

-- the table: its words, the cells at home, and the views of all seats
abbrev pub St : Type 0 → Type 0
St T = State (std.Option T) SeatView

-- what `new` was given: the bound, the events of all cells, the numbers published
pub record Deal : Type 0 where
  pub bound : ℕ
  pub events : ℕ
  pub published : ℕ → ℕ

-- a seat saw that the run is quiet, or that it is halted
abbrev pub KnowsQuiet : SeatView → Type 0
KnowsQuiet v = v.seen ≡ 1

abbrev pub KnowsHalted : SeatView → Type 0
KnowsHalted v = v.seen ≡ 2

-- it is unused or done; it is done
abbrev pub IsNotBusy : SeatView → Type 0
IsNotBusy v = v.stage ≤ 1

abbrev pub IsDone : SeatView → Type 0
IsDone v = v.stage ≡ 1

-- a seat halted the run, and knows it
abbrev pub IsHalter : List SeatView → Type 0
IsHalter views = (j : ℕ) × (v : SeatView) × (get_elem? views j ≡ some v) × KnowsHalted v × (0 < v.raised)

-- every instance is parked or over, and nobody owes
abbrev pub Quiet : ℕ → (ℕ → Whereabouts) → List SeatView → Type 0
Quiet n place views = ((p : ℕ) → p < n → is_up (place p) ≡ 0) × (total (λ v. length v.owed) views ≡ 0) × (total (λ v. v.down) views ≡ 0)

-- the channel c is marked if its reader is parked on it; one that no instance writes keeps its number
pub record ChannelIs (w : Wires) (d : Deal) (place : ℕ → Whereabouts) (words : List ℕ) (c : ℕ) : Type 0 where
  pub mark : slice_index words (channel_at w c) % 2 ≡ mark_of place (w.reader c) c
  pub fixed : w.writer c ≡ std.None → published w words c ≡ d.published c

-- the view v of the seat j is right: it has what is in its hands, which no other seat has, and knows how much is published by the writers among them.
-- One that owes a count up holds the woken reader and its waker. What it saw stays true, and one that halted the run knows so. One that has left has
-- no draw, and one without a part is spent
pub record SeatIs (w : Wires) (place : ℕ → Whereabouts) (tally : ℕ → ℕ) (words : List ℕ) (j : ℕ) (v : SeatView) : Type 0 where
  pub hands : (p : ℕ) → p < w.instances → slice_index v.hands p ≡ held_by j (place p)
  pub inside : (p : ℕ) → 0 < slice_index v.hands p → p < w.instances
  pub known : (p c : ℕ) → p < w.instances → slice_index v.hands p ≡ 1 → c < w.channels → w.writer c ≡ Some p → slice_index v.flushed c ≡ published w words c
  pub events_when_got : (p : ℕ) → p < w.instances → slice_index v.hands p ≡ 1 → slice_index v.events_when_got p ≡ tally p
  pub pairs : Owes v.hands v.owed
  -- so the count doesn't wrap
  pub few : v.down ≤ 2 ^ 32 * v.parts
  pub saw_quiet : KnowsQuiet v → up_count w words ≡ 0
  pub saw_halted : KnowsHalted v → halt_word w words ≢ 0
  pub sights : (v.seen ≤ 2) × (0 < v.raised → KnowsHalted v)
  pub idle : IsNotBusy v → v.drawn ≡ 0
  pub spends : v.parts ≡ 0 → v ≡ spent

module _ {T : Type 0} where
  -- the cell y of the instance p is at home
  abbrev pub IsHome : St T → ℕ → T → Type 0
  IsHome s p y = get_elem? s.homes p ≡ some (some (Some y))

  -- a held cell's slot is out with the seat, any other is at home
  abbrev pub HasSlot : Whereabouts → Option (Option (std.Option T)) → Type 0
  HasSlot (held j) h = h ≡ some none
  HasSlot place h = (y : T) × (h ≡ some (some (Some y)))

  -- the instance p is at one place: its word and its slot say so, and if it is held, there is that seat; it is parked on a channel that it
  -- reads
  pub record PlaceIs (w : Wires) (place : ℕ → Whereabouts) (s : St T) (p : ℕ) : Type 0 where
    pub word_is : slice_index s.words (8 * p) ≡ word_code (place p)
    pub cell_is : HasSlot (place p) (get_elem? s.homes p)
    pub seated : (j : ℕ) → place p ≡ held j → j < length s.views
    pub reads : (c : ℕ) → place p ≡ parked c → (c < w.channels) × (w.reader c ≡ Some p)

  -- one seat is done and all others are done or unused
  abbrev pub AllLeft : St T → Type 0
  AllLeft s = ((j : ℕ) (v : SeatView) → get_elem? s.views j ≡ some v → IsNotBusy v) × ((j : ℕ) × (v : SeatView) × (get_elem? s.views j ≡ some v) × IsDone v)

  -- the run is halted, or quiet, or out of budget with no draw undone
  abbrev pub Stopped : Wires → St T → Type 0
  Stopped w s = (halt_word w s.words ≢ 0) ⊎ ((up_count w s.words ≡ 0) ⊎ ((budget w s.words ≡ 0) × (total (λ v. v.drawn) s.views ≡ 0)))

module _ {T : Type 0} (told : T → std.Option Summary) (belongs : ℕ → T → Type 0) (w : Wires) where
  -- the cell y of the instance p, which is at home: if it is parked, it waits there and took what is published; if it is over, it has ended. What it reports
  -- as flushed is published, and is all that it sent, unless halted. It reported its tally of events when it was last given up, and belongs to p
  pub record HomeIs (place : ℕ → Whereabouts) (tally : ℕ → ℕ) (words : List ℕ) (p : ℕ) (y : T) : Type 0 where
    pub waits : (c : ℕ) → place p ≡ parked c → TellsWait (told y) c (published w words c)
    pub ends : place p ≡ over → TellsEnd (told y)
    pub flushes : (c k : ℕ) → flushed_of (told y) c ≡ Some k → (c < w.channels) × (w.writer c ≡ Some p) × (k ≡ published w words c)
    pub flushed_all : halt_word w words ≡ 0 → FlushedAll (told y)
    pub tells : TellsEvents (told y) (tally p)
    pub belonging : belongs p y

  -- all that holds but Quiet, which follows from it
  pub record Ruled (d : Deal) (place : ℕ → Whereabouts) (tally : ℕ → ℕ) (s : St T) : Type 0 where
    pub wide : length s.words ≡ 8 * (w.instances + w.channels) + 24
    pub deep : length s.homes ≡ w.instances
    pub places : (p : ℕ) → p < w.instances → PlaceIs w place s p
    pub channels : (c : ℕ) → c < w.channels → ChannelIs w d place s.words c
    pub cells : (p : ℕ) (y : T) → p < w.instances → IsHome s p y → HomeIs place tally s.words p y
    pub seats : (j : ℕ) (v : SeatView) → get_elem? s.views j ≡ some v → SeatIs w place tally s.words j v
    pub parts : total (λ v. v.parts) s.views ≡ all_parts
    -- no event is drawn twice or lost: budget, undone draws and events reported as done add up to the bound
    pub small : d.bound + d.events < 2 ^ 48
    pub budgeted : budget w s.words + total (λ v. v.drawn) s.views + total (λ v. v.done) s.views ≡ d.bound
    -- what is reported as done is reported by cells, but for what no cell has reported yet
    pub tallied : d.events + total (λ v. v.done) s.views ≡ below tally w.instances + total (λ v. v.untold) s.views
    -- the count is the number of instances neither parked nor over, but for what is owed to it
    pub counted : up_count w s.words + total (λ v. length v.owed) s.views ≡ below (λ p. is_up (place p)) w.instances + total (λ v. v.down) s.views
    -- it is halted only if a seat did so
    pub halter : halt_word w s.words ≢ 0 → IsHalter s.views
    -- once all seats have left there is a reason
    pub left : AllLeft s → Stopped w s

  -- the rule
  pub record Whole (d : Deal) (s : St T) : Type 0 where
    pub place : ℕ → Whereabouts
    pub tally : ℕ → ℕ
    pub ruled : Ruled d place tally s
    pub quiet : up_count w s.words ≡ 0 → Quiet w.instances place s.views

module _ {T : Type 0} where
  -- there was a moment at which the rule held, the seat id had the view v, and the word i the number r
  abbrev pub WordWas : (St T → Type 0) → ℕ → SeatView → ℕ → ℕ → Type 0
  WordWas holds id v i r = (s : St T) × Seen holds id v s × (slice_index s.words i ≡ r)

  -- the wires of the network that it was made for
  abbrev pub wired : Terms T → Wires
  wired key = wires key.network.value

  -- the cell y belongs to the instance p: it is a later state of the one that was given for p
  abbrev pub belongs : (T → T → Type 0) → Terms T → ℕ → T → Type 0
  belongs after key p y = (x : T) → get_elem? key.cells.value.items p ≡ some x → after x y

module _ {T : Type 0} (told : T → std.Option Summary) where
  -- the events that the cells report when the board is made
  abbrev pub events_told : List T → ℕ
  events_told cells = total (λ y. events_past (told y) 0) cells

  -- the numbers published at the start are those of the first words
  abbrev pub dealt : Terms T → Deal
  dealt key = record { bound = key.bound; events = events_told key.cells.value.items; published = published (wired key) key.words.value.items }

  -- the rule of its table
  abbrev pub holds : (T → T → Type 0) → Terms T → St T → Type 0
  holds after key = Whole told (belongs after key) (wired key) (dealt key)
