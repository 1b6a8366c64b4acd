-- Rounds over cells.
use Rattle.std.proofs.Common.{length-append}
use Rattle.kahn_sequential.proofs.Common.{⊎_elim, arith, ◌≡◌, ◌⊎◌, inl, inr, ℕ, suc, ◌+◌, ◌-◌, ◌^◌, ◌<◌, ◌≤◌, [], ◌∷◌, ◌++◌, length, sum_by, refl, sym, ap, ◌∙◌, subst, Some, slice_get, slice_set, Bool, true, false, cond, min, vec_capacity, Store, at_last, Pause, More, Reads, actual_at, instance_at, view_at, IsOutcomeOf, TookAll, Round, RunState, IsPaused, HasEndIn, events_at, view_events, all_events, weight, AreEnds, HasAdvanced, HasRunCell, HasTakenTurn, HasWorked, IsInRound, IsLast, IsMarked, LacksMemory, Marked, MayRun, PausedAt, no_view, Table, sight_of, sum_by-set, turn_of, length-set, End, Outcome, Waits}
use Rattle.kahn_sequential.proofs.{Tapping.worked_on, Lists.one_of_sum}
use Rattle.kahn_streams.specs.Script as script
use Rattle.kahn_code.specs.declared.progress.Pause.TheVariants as pause

-- a pause and an outcome that say the same
pub told_as : (s : RunState) (p : ℕ) (o : script.ScriptOutcome Store) (z z' : Pause) (x x' : Outcome) → z ≡ z' → x ≡ x' →
    IsPaused s p z o → (IsPaused s p z' o → IsOutcomeOf s.network s.input s.cells p o x') → IsOutcomeOf s.network s.input s.cells p o x
told_as s p o z z' x x' e f h go = subst (IsOutcomeOf s.network s.input s.cells p o) (sym f) (go (subst (λ y. IsPaused s p y o) e h))

pub told_dry : (s : RunState) (p : ℕ) (o : script.ScriptOutcome Store) (q c : ℕ) → actual_at (instance_at s.network p) q ≡ Reads c →
    IsPaused s p (pause.Dry q) o → IsOutcomeOf s.network s.input s.cells p o (Waits c)
told_dry s p o q c r h = let same : h.0 ≡ c = cc (h.1, r) in (q, r, h.2, subst (TookAll s.network s.input s.cells p q) same h.3)

-- ---- turns, and then more

pub moved_on : {a b d : Table} {q r r' : Round} → HasAdvanced a b q r → HasAdvanced b d r r' → HasAdvanced a d q r'
moved_on h k = record {
  worked = worked_on h.worked k.worked;
  may = k.may;
  total = k.total ∙ h.total;
  lighter = let f = h.lighter in let g = k.lighter in omega (arith, f, g);
  quantum = k.quantum ∙ h.quantum;
  room = k.room ∙ h.room;
}

-- rounds with the same to do, and as much room for ends
pub record IsOtherwise (r q : Round) : Type 0 where
  pub quantum : q.quantum ≡ r.quantum
  pub left : q.left ≡ r.left
  pub memory : q.memory ≡ r.memory
  pub room : vec_capacity q.ends ≡ vec_capacity r.ends

pub as_well : {b d : Table} {r r' q : Round} → IsOtherwise r' q → HasAdvanced b d r r' → HasAdvanced b d r q
as_well {b} {d} {r} {r'} {q} o h = record {
  worked = h.worked;
  may = record {
    known = h.may.known;
    some = rw o.quantum h.may.some;
    bound = rw o.left h.may.bound;
    room = rw o.room h.may.room;
    lacks = rw (o.left, o.memory) h.may.lacks;
  };
  total = rw o.left h.total;
  lighter = rw (o.left, o.memory) h.lighter;
  quantum = o.quantum ∙ h.quantum;
  room = o.room ∙ h.room;
}

-- ---- one turn

pub turn_most : (r : Round) → turn_of r ≤ r.left
turn_most r = by r.memory
  where
    by : (m : Bool) → cond m 0 (min r.quantum r.left) ≤ r.left
    by true = omega arith
    by false = omega arith

-- a turn of no event comes only where nothing more may be done
turn_none : (r : Round) → 0 < r.quantum → turn_of r ≡ 0 → (r.left ≡ 0) ⊎ (r.memory ≡ true)
turn_none r some = by r.memory
  where
    by : (m : Bool) → cond m 0 (min r.quantum r.left) ≡ 0 → (r.left ≡ 0) ⊎ (m ≡ true)
    by true e = inr refl
    by false e = inl (omega (arith, e, some))

pub turn_bound : (s : RunState) (r : Round) (p : ℕ) → MayRun s r → events_at s p + turn_of r < 2 ^ 48
turn_bound s r p may =
    omega (arith, may.bound, turn_most r, one_of_sum view_events s.cells p no_view refl)

-- a turn that was marked
pub took_turn : {b d : Table} {r r' : Round} {p n before : ℕ} {z : Pause} → n ≡ turn_of r → before ≡ events_at (sight_of b) p → HasRunCell (sight_of b) (sight_of d) p n z →
    HasWorked b d → IsMarked (events_at (sight_of d) p - before) z r r' → HasTakenTurn b d r r' p z
took_turn {b} {d} {r} {r'} {p} {n} {before} e f ran worked marked = record {
  ran = rw (sym e) ran;
  done = events_at (sight_of d) p - before;
  counts = let up = ran.events.0 in omega (arith, f, up);
  marked = marked;
  worked = worked;
}

module _ {b d : Table} {r r' : Round} {p : ℕ} {z : Pause} (may : MayRun (sight_of b) r) (within : p < length (sight_of b).network.instances) (v : HasTakenTurn b d r r' p z) where
  abbrev s : RunState
  s = sight_of b

  abbrev s' : RunState
  s' = sight_of d

  here : p < length s.cells
  here = let k = may.known in omega (arith, k, within)

  total_on : all_events s' + r'.left ≡ all_events s + r.left
  total_on =
      let a : all_events s' ≡ sum_by view_events (slice_set s.cells p (view_at s'.cells p)) = ap (λ l. sum_by view_events l) v.ran.only in
      omega (arith, a, sum_by-set view_events s.cells p (view_at s'.cells p) no_view here, v.counts, v.marked.left)

  lighter_on : weight r' ≤ weight r
  lighter_on = by v.marked.marks
    where
      by : Marked z r r' → weight r' ≤ weight r
      by (inl h) = rw h.1 (let l = v.marked.left in omega (arith, l))
      by (inr h) = rw h.1 (let l = v.marked.left in omega (arith, l))

  -- a turn that did nothing leaves all as it is
  still_on : v.done ≡ 0 → s' ≡ s
  still_on e = v.ran.still (let c = v.counts in omega (arith, c, e))

  -- memory that was refused before or now: some instance is paused for it
  lacks_on : LacksMemory s' r'.left r'.memory
  lacks_on m = by v.marked.marks
    where
      by : Marked z r r' → (0 < r'.left) × ((k : ℕ) × (k < length s'.cells) × PausedAt s' k pause.NoMemory)
      by (inl h) =
          let m = ap length v.ran.only ∙ length-set s.cells p (view_at s'.cells p) in
          (omega (arith, v.ran.wanted h.0, turn_most r, v.counts, v.marked.left), (p, omega (arith, here, m), subst (PausedAt s' p) h.0 v.ran.paused))
      by (inr h) =
          let was : r.memory ≡ true = sym h.1 ∙ m in
          let none : turn_of r ≡ 0 = ap (λ b. cond b 0 (min r.quantum r.left)) was in
          let l = v.marked.left in
          let idle : v.done ≡ 0 = omega (arith, v.ran.events.1, none, v.counts) in
          let old = may.lacks was in
          (let some = old.0 in omega (arith, some, l, idle), subst (λ z. (k : ℕ) × (k < length z.cells) × PausedAt z k pause.NoMemory) (sym (still_on idle)) old.1)

  pub turned : HasAdvanced b d r r'
  turned = record {
    worked = v.worked;
    may = record {
      known = v.ran.known;
      some = subst (λ n. 0 < n) (sym v.marked.quantum) may.some;
      bound = let t = total_on in let h = may.bound in omega (arith, t, h);
      room = let a = ap (λ n. length n.instances) v.ran.same.0 in let c = ap vec_capacity v.marked.ends in let m = may.room in omega (arith, a, c, m);
      lacks = lacks_on;
    };
    total = total_on;
    lighter = lighter_on;
    quantum = v.marked.quantum;
    room = ap vec_capacity v.marked.ends;
  }

  -- its end is noted, in a round
  module _ {x : End} (rests : HasEndIn s' p x) (more : x.outcome ≡ More → (z ≡ pause.Spent) ⊎ (z ≡ pause.NoMemory)) {b0 : Table} {r0 q : Round} (go : IsInRound b0 r0 b r p)
      (same : IsOtherwise r' q) (items : q.ends.items ≡ r.ends.items ++ x ∷ []) where
    size : length q.ends.items ≡ suc p
    size = ap length items ∙ length-append r.ends.items (x ∷ []) ∙ (let a = go.size in omega (arith, a))

    -- where all turns so far did nothing each end stands
    still : v.done ≡ 0 → (z ≡ pause.NoMemory → ⊥) → r'.memory ≡ r.memory → weight r ≡ weight r0 → AreEnds s' r'.left r'.memory (r.ends.items ++ x ∷ [])
    still d never m f k y h = by (at_last r.ends.items x k y h)
      where
        same_left : r'.left ≡ r.left
        same_left = let l = v.marked.left in omega (arith, l, d)

        out_of : (r.left ≡ 0) ⊎ (r.memory ≡ true) → (r'.left ≡ 0) ⊎ (r'.memory ≡ true)
        out_of (inl a) = inl (same_left ∙ a)
        out_of (inr a) = inr (m ∙ a)

        one : x.outcome ≡ More → (r'.left ≡ 0) ⊎ (r'.memory ≡ true)
        one f = ⊎_elim (λ a. out_of (turn_none r may.some (let u = v.ran.spent a in let c = v.counts in omega (arith, u, c, d)))) (λ a. absurd (never a)) (more f)

        by : (slice_get r.ends.items k ≡ Some y) ⊎ ((k ≡ length r.ends.items) × (x ≡ y)) → HasEndIn s' k y × (y.outcome ≡ More → (r'.left ≡ 0) ⊎ (r'.memory ≡ true))
        by (inl e) = let old = go.still f k y e in (subst (λ u. HasEndIn u k y) (sym (still_on d)) old.0, λ o. out_of (old.1 o))
        by (inr e) =
            subst (λ u. HasEndIn s' k u × (u.outcome ≡ More → (r'.left ≡ 0) ⊎ (r'.memory ≡ true))) e.1
            (subst (λ j. HasEndIn s' j x × (x.outcome ≡ More → (r'.left ≡ 0) ⊎ (r'.memory ≡ true))) (sym (e.0 ∙ go.size)) (rests, one))

    -- memory is refused only in a turn of some event
    lighter : (m : Bool) → r.memory ≡ m → r'.memory ≡ true → events_at s' p < events_at s p + turn_of r → weight r' < weight r
    lighter true e h f =
        let none : turn_of r ≡ 0 = ap (λ b. cond b 0 (min r.quantum r.left)) e in
        absurd (omega (arith, v.ran.events.0, none, f))
    lighter false e h f = rw (h, e) (let l = v.marked.left in omega (arith, l))

    still_by : Marked z r r' → weight r' ≡ weight r0 → AreEnds s' r'.left r'.memory (r.ends.items ++ x ∷ [])
    still_by (inl h) f = absurd (let a = lighter r.memory refl h.1 (v.ran.wanted h.0) in let w = go.advanced.lighter in omega (arith, f, a, w))
    still_by (inr (never, m)) f =
        let a : weight r' ≡ r'.left + cond r.memory 0 1 = ap (λ b. r'.left + cond b 0 1) m in
        let l = v.marked.left in
        let w = go.advanced.lighter in
        still (omega (arith, f, a, l, w)) never m (omega (arith, f, a, l, w))

    pub noted : IsInRound b0 r0 d q (suc p)
    noted = record {
      advanced = moved_on go.advanced (as_well same turned);
      size = size;
      still = λ f.
          let w : weight q ≡ weight r' = rw (same.left, same.memory) refl in
          rw (same.left, same.memory, items) (still_by v.marked.marks (sym w ∙ f));
    }

pub advanced_none : {b : Table} (r : Round) → MayRun (sight_of b) r → HasAdvanced b b r r
advanced_none r may = record {
  worked = record { network = refl; input = refl; watch = refl; gone = refl; events = λ p. omega arith };
  may = may;
  total = refl;
  lighter = omega arith;
  quantum = refl;
  room = refl;
}

-- rounds came to an end, with the last one in which nothing was done
pub record HasComeToRest (b d : Table) (old new : Round) : Type 0 where
  pub advanced : HasAdvanced b d old new
  pub last : IsLast (sight_of d) (all_events (sight_of b) + old.left) new.left new.memory new.ends.items

pub at_rest : {a b d : Table} {q r r' : Round} → HasAdvanced a b q r → IsInRound b r d r' (length (sight_of d).network.instances) → weight r' ≡ weight r → HasComeToRest a d q r'
at_rest h noted e = record {
  advanced = moved_on h noted.advanced;
  last = record { known = noted.advanced.may.known; total = noted.advanced.total ∙ h.total; size = noted.size; ends = noted.still e };
}

-- before a round
pub begun : {b : Table} {r q : Round} → MayRun (sight_of b) r → IsOtherwise r q → HasAdvanced b b r q
begun {b} {r} may o = as_well o (advanced_none r may)
