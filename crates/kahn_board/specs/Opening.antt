-- Believed. What a board is made of, and what it says once it is closed.
use Rattle.std.specs.Prelude.{◌≡◌, ◌⊎◌, ℕ, ◌+◌, ◌^◌, ◌<◌, List, length, slice_index, true, Option, Some, None}
use mathlib.Core.Option.{some}
use lib.ListN.{get_elem?}
use Rattle.kahn_board.specs.{Wires.Summary, Wires.TellsWait, Wires.TellsEnd, Wires.TellsEvents, Wires.FlushedAll, Wires.flushed_of, Wires.wrote_of, Wires.Wires, Rule.events_told, Rule.Deal, Rule.IsDone, Rule.KnowsHalted, Rule.below, declared.turn.Closed.Closed, declared.view.SeatView.SeatView}

module _ {T : Type 0} where
  pub record Opens (told : T → Option Summary) (after : T → T → Type 0) (w : Wires) (bound : ℕ) (published : List ℕ) (cells : List T) : Type 0 where
    -- one cell for each instance, and one number for each channel
    pub cells_are : length cells ≡ w.instances
    pub numbers_are : length published ≡ w.channels
    pub small : (c : ℕ) → c < w.channels → slice_index published c < 2 ^ 48
    -- what a cell reports as flushed is published, on a channel that its instance writes
    pub flushes : (p c k : ℕ) (y : T) → get_elem? cells p ≡ some y → flushed_of (told y) c ≡ Some k → (c < w.channels) × (w.writer c ≡ Some p) × (k ≡ slice_index published c)
    -- and it is all that the cell sent
    pub flushed_all : (p : ℕ) (y : T) → get_elem? cells p ≡ some y → FlushedAll (told y)
    -- each cell counts as a later state of itself
    pub selves : (p : ℕ) (y : T) → get_elem? cells p ≡ some y → after y y
    -- the bound and the events so far
    pub few : bound + events_told told cells < 2 ^ 48

module _ {T : Type 0} (told : T → Option Summary) (belongs : ℕ → T → Type 0) (w : Wires) (d : Deal) (closed : Closed T) where
  abbrev pub IsCell : ℕ → T → Type 0
  IsCell p y = get_elem? closed.cells.items p ≡ some y

  -- k tokens of the channel c are all that its writer's cell sent, or all that was published at the start
  abbrev pub IsAllSent : ℕ → ℕ → Type 0
  IsAllSent c k = (w.writer c ≡ None → k ≡ d.published c)
      × ((q l m : ℕ) (z : T) → q < w.instances → w.writer c ≡ Some q → IsCell q z → wrote_of (told z) c ≡ Some (l, m) → l ≡ k)

  -- the cell y of the instance p has ended, or waits on a channel of which it took all
  abbrev pub IsQuietCell : ℕ → T → Type 0
  IsQuietCell p y = TellsEnd (told y) ⊎ ((c : ℕ) × (k : ℕ) × (c < w.channels) × (w.reader c ≡ Some p) × TellsWait (told y) c k × IsAllSent c k)

  pub record ClosesBoard (v : SeatView) : Type 0 where
    pub each : (length closed.cells.items ≡ w.instances) × ((p : ℕ) → p < w.instances → (y : T) × IsCell p y)
    pub belonging : (p : ℕ) (y : T) → p < w.instances → IsCell p y → belongs p y
    -- nothing is drawn: the budget and the events reported as done add up to the bound
    pub budget_is : closed.budget + v.done ≡ d.bound
    -- the cells' events have grown by those reported as done, but for those that no cell reported
    pub events : (tally : ℕ → ℕ) × ((p : ℕ) (y : T) → p < w.instances → IsCell p y → TellsEvents (told y) (tally p)) × (d.events + v.done ≡ below tally w.instances + v.untold)
    -- it is halted exactly if a seat saw so, and exactly if a seat halted it
    pub halt_seen : (KnowsHalted v → closed.halted ≡ true) × (closed.halted ≡ true → KnowsHalted v)
    pub halt_raised : (0 < v.raised → closed.halted ≡ true) × (closed.halted ≡ true → 0 < v.raised)
    pub by_done : IsDone v → (closed.halted ≡ true) ⊎ ((closed.budget ≡ 0) ⊎ ((p : ℕ) (y : T) → p < w.instances → IsCell p y → IsQuietCell p y))
