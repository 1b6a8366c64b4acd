-- Believed. What a seat knows of its own view and slots, and what each step tells it: of the step, the seat before, the number found and the seat after.
use Rattle.std.specs.Prelude.{◌≡◌, ◌≢◌, ◌⊎◌, ℕ, ◌+◌, ◌-◌, ◌*◌, ◌^◌, ◌<◌, ◌≤◌, ◌==◌, cond, List, [], ◌∷◌, ◌++◌, map, drop, length, slice_index, slice_set, Option, Some}
use mathlib.Core.Option.{none}
use Rattle.atomic_table.specs.{Seated.TableId, Table.Allows, Table.Me, Table.Step, Table.step}
use Rattle.atomic_table.specs.declared.shared.Seat as shared
use Rattle.kahn_board.specs.{Wires.Summary, Wires.TellsEvents, Wires.FlushedAll, Wires.flushed_of, Wires.events_past, Wires.Wires, Rule.KnowsHalted, Rule.KnowsQuiet, Rule.St, Rule.WordWas, Rule.total, Rule.only, declared.view.SeatView.SeatView}

-- each instance that the seat has is in the list, once
abbrev pub ListsHands : List ℕ → List ℕ → Type 0
ListsHands items hands = (p : ℕ) → total (only p) items ≡ slice_index hands p

module _ {T : Type 0} where
  -- it isn't spent; its lists are as long as the table is; the instances are listed in the order of the slots; there is room for all of them
  abbrev pub Facts : Me (Option T) SeatView → TableId → List ℕ → ℕ → Type 0
  Facts m z items room = (0 < m.0.parts) × (length m.0.hands ≡ z.slots) × (8 * (z.slots + length m.0.flushed) + 24 ≡ z.words)
      × (map (λ x. x.0) m.1 ≡ items) × ListsHands items m.0.hands × ((p : ℕ) → slice_index m.0.hands p ≤ 1) × (z.slots ≤ room) × (length m.0.events_when_got ≡ z.slots)

  -- the slot p is out with the seat, with x in it
  abbrev pub Carries : List (ℕ × Option T) → ℕ → Option T → Type 0
  Carries [] p x = ⊥
  Carries (c ∷ cs) p x = (c ≡ (p, x)) ⊎ Carries cs p x

abbrev pub Sat : Type 0 → Type 0
Sat T = Me (Option T) SeatView

abbrev pub Play : Type 0 → Type 1
Play T = Step (Option T) → Sat T → ℕ → Sat T → Type 0

-- the view after a step that told the seat nothing else: it is busy
abbrev pub after_step : SeatView → SeatView
after_step v = record v { stage = 2; steps = v.steps + 1 }

abbrev pub IsIn : SeatView → ℕ → Type 0
IsIn v p = slice_index v.hands p ≡ 1

-- the seat got the instance p: `flushed` is published, its cell reported `events`
abbrev pub after_taking : SeatView → ℕ → List ℕ → ℕ → ℕ → SeatView
after_taking v p flushed events seen =
    record (after_step v) { hands = slice_set v.hands p 1; flushed = flushed; events_when_got = slice_set v.events_when_got p events; seen = seen }

-- the seat gave up the instance p, whose cell reports t, with `more` counts down to pay
abbrev pub after_giving_up : SeatView → ℕ → Option Summary → ℕ → SeatView
after_giving_up v p t more =
    record (after_step v) { hands = slice_set v.hands p 0; untold = v.untold - (events_past t (slice_index v.events_when_got p) - slice_index v.events_when_got p); down = v.down + more }

-- `count` tokens of the channel c are published
abbrev pub with_published : SeatView → ℕ → ℕ → SeatView
with_published v c count = record v { flushed = slice_set v.flushed c count }

-- the same, and q woke p
abbrev pub after_waking : SeatView → ℕ → ℕ → ℕ → ℕ → SeatView
after_waking v c count p q = record (with_published v c count) { owed = v.owed ++ (p, q) ∷ [] }

-- n events of the draw were done, the others may still be done
abbrev pub after_reporting : SeatView → ℕ → SeatView
after_reporting v n = record (after_step v) { drawn = v.drawn - n; done = v.done + n; untold = v.untold + n }

-- n events of the draw weren't done, the others were
abbrev pub after_giving_back : SeatView → ℕ → SeatView
after_giving_back v n = record (after_step v) { drawn = 0; done = v.done + (v.drawn - n); untold = v.untold + (v.drawn - n) }

abbrev pub after_counting_up : SeatView → SeatView
after_counting_up v = record (after_step v) { owed = drop 1 v.owed }

abbrev pub after_counting_down : SeatView → SeatView
after_counting_down v = record (after_step v) { down = v.down - 1 }

-- it halted the run
abbrev pub after_halting : SeatView → SeatView
after_halting v = record (after_step v) { seen = 2; raised = v.raised + 1 }

-- how much it holds, drew and owes
abbrev pub burden : SeatView → ℕ
burden v = total (λ x. x) v.hands + v.drawn + length v.owed + v.down

-- it saw `seen`, and is done if it holds, drew and owes nothing, else busy
abbrev pub after_looking : SeatView → ℕ → SeatView
after_looking v seen = record (after_step v) { seen = seen; stage = cond (burden v == 0) 1 2 }

-- a seat that has seen nothing less than before, or knows that the run is halted
abbrev pub SeesMore : ℕ → ℕ → Type 0
SeesMore old new = (new ≡ old) ⊎ (new ≡ 2)

module _ {T : Type 0} (told : T → Option Summary) (belongs : ℕ → T → Type 0) (w : Wires) where
  -- the seat took the cell y of the instance p: if it had a channel's writer, it knows as much as before; what y reports as flushed is published; it has flushed all that it sent, or the run is halted; it belongs to p;
  -- its events and those drawn are a number of 48 bits
  abbrev pub Got : Sat T → ℕ → Sat T → T → Type 0
  Got m p n y = (L : List ℕ) × (e : ℕ) × (seen : ℕ) × (n ≡ (after_taking m.0 p L e seen, (p, Some y) ∷ m.1)) × (slice_index m.0.hands p ≡ 0) × (length L ≡ length m.0.flushed)
      × ((q c : ℕ) → q < w.instances → c < w.channels → IsIn m.0 q → w.writer c ≡ Some q → slice_index L c ≡ slice_index m.0.flushed c)
      × ((c k : ℕ) → flushed_of (told y) c ≡ Some k → (w.writer c ≡ Some p) × (c < w.channels) × (k ≡ slice_index L c))
      × TellsEvents (told y) e × SeesMore m.0.seen seen × ((seen ≡ 2) ⊎ FlushedAll (told y)) × belongs p y
      × (slice_index (slice_set m.0.events_when_got p e) p + m.0.drawn < 2 ^ 48)

module _ {T : Type 0} where
  -- the word was as found when the view of the seat id was as before
  abbrev pub at_moment : (St T → Type 0) → ℕ → Play T → Play T
  at_moment holds id then st m r n = then st m r n × WordWas holds id m.0 st.word r

  -- whatever it finds, the seat's view has one step more then
  abbrev pub CountsStep : Sat T → (ℕ → Sat T → Type 0) → Type 0
  CountsStep m then = (r : ℕ) (n : Sat T) → then r n → n.0.steps ≡ m.0.steps + 1

  -- the seat may step on the word of a table, which becomes f n if it was n, and learns what the play says; it counts the step
  abbrev pub MayStep : (St T → Type 0) → TableId → shared.Seat (Option T) SeatView → ℕ → ℕ → ℕ → (ℕ → ℕ) → Play T → Type 0
  MayStep holds z s word old new f play = (s.table_id ≡ z) × (word < z.words) × Allows holds z.slots s.id s.me word f (play (step z.slots word old new none) s.me)
      × CountsStep s.me (play (step z.slots word old new none) s.me)

  -- it stepped, and learnt what the play says of r
  abbrev pub HasLearnt : TableId → shared.Seat (Option T) SeatView → shared.Seat (Option T) SeatView → ℕ → ℕ → ℕ → Play T → ℕ → Type 0
  HasLearnt z s t word old new play r = (t.table_id ≡ s.table_id) × (t.id ≡ s.id) × play (step z.slots word old new none) s.me r t.me

  -- the same, and the word was r at a moment of the call
  abbrev pub HasPlayed : (St T → Type 0) → TableId → shared.Seat (Option T) SeatView → shared.Seat (Option T) SeatView → ℕ → ℕ → ℕ → Play T → ℕ → Type 0
  HasPlayed holds z s t word old new play r = HasLearnt z s t word old new (at_moment holds s.id play) r

  -- its view becomes f of the step's number and of what it was
  abbrev pub becomes : (ℕ → SeatView → SeatView) → Play T
  becomes f st m r n = n ≡ (f st.first m.0, m.1)

  abbrev pub sees_halted : Play T
  sees_halted st m r n = (r ≢ 0 → n ≡ (after_looking m.0 2, m.1)) × (r ≡ 0 → ¬ KnowsHalted m.0 × (n ≡ (after_step m.0, m.1)))

  abbrev pub sees_count : Play T
  sees_count st m r n = (r ≡ 0 → n ≡ (after_looking m.0 1, m.1)) × (r ≢ 0 → ¬ KnowsQuiet m.0 × (n ≡ (after_step m.0, m.1)))

  abbrev pub sees_budget : Play T
  sees_budget st m r n = (r ≡ 0 → n ≡ (after_looking m.0 m.0.seen, m.1)) × (r ≢ 0 → n ≡ (after_step m.0, m.1))
