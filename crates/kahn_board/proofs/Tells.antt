-- What the single steps of a seat tell it, where they speak of cells, of the network or of a draw.
use Rattle.std.specs.Prelude.{◌≡◌, ◌≢◌, ℕ, zero, suc, ◌+◌, ◌-◌, ◌/◌, ◌%◌, ◌^◌, ◌<◌, List, [], ◌∷◌, slice_index, Option, Some}
use Rattle.atomic_table.specs.Table.{rest}
use Rattle.kahn_board.specs.{Wires.Summary, Wires.TellsWait, Wires.Wires, Plays.Got, Plays.IsIn, Plays.Play, Plays.Sat, Plays.after_step, Plays.after_giving_up, Plays.with_published, Plays.after_waking, Plays.sees_budget, Plays.sees_count, Plays.sees_halted}

module _ {T : Type 0} (told : T → Option Summary) (w : Wires) where
  -- the seat gave up the instance p with the cell y, whose slot it took last
  abbrev pub GaveUp : Sat T → ℕ → ℕ → Sat T → T → Type 0
  GaveUp m p more n y = n ≡ (after_giving_up m.0 p (told y) more, rest m.1)

  -- the cell that comes first
  abbrev pub TheFirst : Sat T → ℕ → T → Type 0
  TheFirst m p y = m.1 ≡ (p, Some y) ∷ rest m.1

  -- over: a count down is owed
  abbrev pub set_down : ℕ → Play T
  set_down p st m r n = (y : T) × TheFirst m p y × GaveUp m p (r / 2) n y

  abbrev pub parked_or_not : ℕ → Play T
  parked_or_not p st m r n = (r ≡ st.first → (y : T) × TheFirst m p y × GaveUp m p 1 n y) × (r ≢ st.first → (r % 2 ≡ 0) × (n ≡ (after_step m.0, m.1)))

module _ {T : Type 0} (told : T → Option Summary) (belongs : ℕ → T → Type 0) (w : Wires) where
  abbrev pub claimed : ℕ → Play T
  claimed p st m r n = (r ≡ 0 → (y : T) × Got told belongs w m p n y) × (r ≢ 0 → n ≡ (after_step m.0, m.1))

  -- where the number found was odd, the seat took the reader's cell, which waits on the channel c and took all that was published
  abbrev pub publishes : ℕ → Play T
  publishes c st m r n = (r % 2 ≡ 0 → n ≡ (after_step (with_published m.0 c (st.first / 2)), m.1))
      × (r % 2 ≡ 1 → (p : ℕ) × (q : ℕ) × (y : T) × (w.reader c ≡ Some p) × (w.writer c ≡ Some q) × TellsWait (told y) c (r / 2) × Got told belongs w (after_waking m.0 c (st.first / 2) p q, m.1) p n y)

module _ {T : Type 0} where
  -- it drew the difference where the budget was still what it had found
  abbrev pub drew : Play T
  drew st m r n = (r ≡ st.first → (n ≡ (record (after_step m.0) { drawn = st.first - st.second }, m.1)) × ((p : ℕ) → IsIn m.0 p → slice_index m.0.events_when_got p + (st.first - st.second) < 2 ^ 48))
      × (r ≢ st.first → n ≡ (after_step m.0, m.1))

-- what a seat sees by the loads of a look, in their order
abbrev pub sees : {T : Type 0} → ℕ → Play T
sees zero = sees_halted
sees (suc zero) = sees_count
sees (suc (suc k)) = sees_budget

-- how many steps a seat made
abbrev pub steps_of : {T : Type 0} → Sat T → ℕ
steps_of m = m.0.steps

-- the slot that a seat took last
abbrev pub first_of : {T : Type 0} → List (ℕ × Option T) → ℕ
first_of [] = 0
first_of (x ∷ xs) = x.0
