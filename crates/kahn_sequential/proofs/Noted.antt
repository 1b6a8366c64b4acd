-- Ends that were noted, and the instances that were woken since.
use Rattle.kahn_sequential.proofs.Common.{⊎_elim, nat_tests, arith, ◌≡◌, ◌⊎◌, inl, inr, ℕ, zero, suc, ◌+◌, ◌==◌, ◌<◌, ◌≤◌, Bool, true, false, List, [], ◌∷◌, ◌++◌, length, append-nil, map, refl, sym, ap, ◌∙◌, subst, Option, Some, None, slice_get, slice_index_or, slice_set, eqb-true, if◌then◌else◌, AllStand, AreQueued, AreInputsExtended, Channel, Given, HasEndIn, HasTakenIn, HasVisited, Inputs, IsGiven, IsLaid, IsOutcomeOf, IsPoured, IsVerdict, IsWellWired, Line, Lists, More, Schema, Nobody, Program, Reads, Round, RunState, Source, Store, StoodBy, Table, TookAll, Value, View, Writes, Written, actual_at, at_last, cases_eq, cases_lt, exec_on, get_or-set_other, handed_within, inputs_grow, inputs_of, instance_at, kept_grown, network_of, no_view, poured_grown, prefix_get, reads_listed, route_of, same_Some, set_each, sight_of, source, view_at, waiting_of, Gone, Seen, CellView, nothing_gone, seen_at, seen_of, tokens, told_view, length-set, IsOnly, IsReader, End, Outcome, Ended, Faulted, Waits, Finished, Side, PartEnd, Woken, IsPartEnd, AreAtRest, AreNoted, AreNotedBut, HasWoken, IsAtRest, IsOnlyReader, IsReaderOf, IsReadyBehind, IsReadyBy, IsReadyByFirst, IsTakenFrom, IsWoken, AreSpent, IsSpent, IsSpentBy}
use Rattle.kahn_streams.specs.Script as script
use Rattle.kahn_sequential.proofs.Benched.{took_all}

-- ---- the list of those that were woken

pub keep : (xs ys : List ℕ) (k p : ℕ) → slice_get xs k ≡ Some p → slice_get (xs ++ ys) k ≡ Some p
keep [] ys k p e = absurd cc
keep (x ∷ xs) ys zero p e = e
keep (x ∷ xs) ys (suc k) p e = keep xs ys k p e

pub at_end : (xs : List ℕ) (r : ℕ) → slice_get (xs ++ r ∷ []) (length xs) ≡ Some r
at_end [] r = refl
at_end (x ∷ xs) r = at_end xs r

pub added : (old new : Woken) (r : ℕ) → new.known ≡ old.known → new.instances.items ≡ old.instances.items ++ r ∷ [] → HasWoken (λ p. p ≡ r) old new
added old new r known items f = (sym known ∙ f, by)
  where
    by : (p : ℕ) → IsWoken old p ⊎ (p ≡ r) → IsWoken new p
    by p (inl w) = (w.0, ap (λ l. slice_get l w.0) items ∙ keep old.instances.items (r ∷ []) w.0 p w.1)
    by p (inr e) = (length old.instances.items, ap (λ l. slice_get l (length old.instances.items)) items ∙ at_end old.instances.items r ∙ ap Some (sym e))

pub popped : (xs ys : List ℕ) (r : ℕ) → xs ≡ ys ++ r ∷ [] → (p : ℕ) → ((k : ℕ) × (slice_get xs k ≡ Some p)) → (p ≡ r) ⊎ ((k : ℕ) × (slice_get ys k ≡ Some p))
popped xs ys r e p w = ⊎_elim (λ f. inr (w.0, f)) (λ f. inl (sym f.1)) (at_last ys r w.0 p (subst (λ l. slice_get l w.0 ≡ Some p) e w.1))

pub nobody_woken : (P : ℕ → Type 0) (w : Woken) → ((p : ℕ) → P p → ⊥) → HasWoken P w w
nobody_woken P w none known = (known, by)
  where
    by : (p : ℕ) → IsWoken w p ⊎ P p → IsWoken w p
    by p (inl h) = h
    by p (inr h) = absurd (none p h)

pub woken_on : (P Q R : ℕ → Type 0) (a b c : Woken) → HasWoken P a b → HasWoken Q b c → ((p : ℕ) → R p → P p ⊎ Q p) → HasWoken R a c
woken_on P Q R a b c h k split known = ((h (k known).0).0, λ p x. (k known).1 p (by p x))
  where
    each : (p : ℕ) → P p ⊎ Q p → IsWoken b p ⊎ Q p
    each p (inl x) = inl ((h (k known).0).1 p (inr x))
    each p (inr x) = inr x

    by : (p : ℕ) → IsWoken a p ⊎ R p → IsWoken b p ⊎ Q p
    by p (inl w) = inl ((h (k known).0).1 p (inl w))
    by p (inr x) = each p (split p x)

pub woken_as : (P R : ℕ → Type 0) (old new : Woken) → HasWoken P old new → ((p : ℕ) → R p → P p) → HasWoken R old new
woken_as P R old new h sub known = ((h known).0, by)
  where
    by : (p : ℕ) → IsWoken old p ⊎ R p → IsWoken new p
    by p (inl w) = (h known).1 p (inl w)
    by p (inr x) = (h known).1 p (inr (sub p x))

-- ---- readers

pub none_past : (t : Program) → IsWellWired t → (c : ℕ) → (c < length (network_of t).channels → ⊥) → IsOnlyReader (network_of t) c None
none_past t wired c past p (q, e) = past (reads_listed t wired p q c e)

pub reads_none : (N : Schema) (c : ℕ) → IsOnly (IsReader N c) None → IsOnlyReader N c None
reads_none N c none p (q, e) = none (record { instance = p; parameter = q }) (handed_within N p q c (rw e refl), e)

pub reads_one : (N : Schema) (c : ℕ) (s : Side) → IsOnly (IsReader N c) (Some s) → IsOnlyReader N c (Some s.instance)
reads_one N c s one p (q, e) = ap (λ (u : Side). u.instance) (one.1 (record { instance = p; parameter = q }) (handed_within N p q c (rw e refl), e))

module _ (b : Table) (r q channel : ℕ) (route : route_of (actual_at (instance_at (sight_of b).network r) q) ≡ Some channel) where
  same : (c : ℕ) → actual_at (instance_at (sight_of b).network r) q ≡ Writes c → channel ≡ c
  same c w = same_Some channel c (sym route ∙ ap route_of w)

  pub reader_is : (s : ℕ) → IsOnlyReader (sight_of b).network channel (Some s) → (p : ℕ) → IsReadyBy b r q p → p ≡ s
  reader_is s one p (c, w, (other, some, reads)) = one p (subst (λ k. IsReaderOf (sight_of b).network k p) (sym (same c w)) reads)

  pub nobody_reads : IsOnlyReader (sight_of b).network channel None → (p : ℕ) → IsReadyBy b r q p → ⊥
  nobody_reads none p (c, w, (other, some, reads)) = none p (subst (λ k. IsReaderOf (sight_of b).network k p) (sym (same c w)) reads)

  pub own_reader : (s : ℕ) → IsOnlyReader (sight_of b).network channel (Some s) → s ≡ r → (p : ℕ) → IsReadyBy b r q p → ⊥
  own_reader s one e p (c, w, (other, some, reads)) = other (one p (subst (λ k. IsReaderOf (sight_of b).network k p) (sym (same c w)) reads) ∙ e)

pub ready_next : (b : Table) (r k p : ℕ) → IsReadyByFirst b r (k + 1) p → IsReadyByFirst b r k p ⊎ IsReadyBy b r k p
ready_next b r k p (q, l, ready) = ⊎_elim (λ lt. inl (q, lt, ready)) (λ le. let e : q ≡ k = omega (arith, le, l) in inr (subst (λ n. IsReadyBy b r n p) e ready)) (cases_lt q k)

-- ---- ends that stay

abbrev IsGood : RunState → Woken → ℕ → End → Type 0
IsGood s w p y = (IsAtRest s p y ⊎ IsWoken w p) ⊎ ⊥

-- the cell of an instance stays
abbrev AreSo : RunState → List View → ℕ → End → View → Type 0
AreSo s later o y v =
    (stood : StoodBy s.network s.input s.watch o v) × (y.events ≡ v.events)
    × IsOutcomeOf s.network s.input later o (exec_on s.network v.events o stood.tapes).outcome y.outcome

-- where it paused
abbrev pause_of : (s : RunState) (o : ℕ) (y : End) → HasEndIn s o y → script.ScriptOutcome Store
pause_of s o y h = (exec_on s.network (view_at s.cells o).events o h.stood.tapes).outcome

end_on : (s : RunState) (later : List View) (o : ℕ) (y : End) → view_at later o ≡ view_at s.cells o → (h : HasEndIn s o y) →
    IsOutcomeOf s.network s.input later o (pause_of s o y h) y.outcome → HasEndIn (record s { cells = later }) o y
end_on s later o y same h told =
    let now = subst (AreSo s later o y) (sym same) (h.stood, h.count, told) in
    record { stood = now.0; count = now.1; told = now.2 }

-- of what another instance wrote all was taken as before, or i wrote it
module _ (N : Schema) (I : Inputs) (cells later : List View) (i : ℕ) (others : (p : ℕ) → (p ≡ i → ⊥) → view_at later p ≡ view_at cells p) where
  given_on : (c : ℕ) (k : Source) (n : ℕ) → IsGiven N I cells c k n → IsGiven N I later c k n ⊎ ((q : ℕ) × (actual_at (instance_at N i) q ≡ Writes c))
  given_on c Given n h = inl h
  given_on c Nobody n h = absurd h
  given_on c (Written w) n h =
      ⊎_elim (λ e. inr (h.0, subst (λ k. actual_at (instance_at N k) h.0 ≡ Writes c) e h.1))
      (λ n. inl (h.0, h.1, ap (λ (v : View). v.sent h.0) (others w n) ∙ h.2)) (cases_eq w i)

  took_on : (o q c : ℕ) → (o ≡ i → ⊥) → TookAll N I cells o q c → TookAll N I later o q c ⊎ ((r : ℕ) × (actual_at (instance_at N i) r ≡ Writes c))
  took_on o q c n h =
      given_on c (source N (Channel c)) ((view_at later o).taken q)
      (subst (λ k. IsGiven N I cells c (source N (Channel c)) k) (ap (λ (v : View). v.taken q) (sym (others o n))) h)

-- what is seen of a cell is what it keeps
kept_seen : (cells : List CellView) (p q : ℕ) → tokens (seen_at (map seen_of cells) p).kept q ≡ (view_at (map told_view cells) p).kept q
kept_seen (c ∷ cells) (suc p) q = kept_seen cells p q
kept_seen cells p q = refl

printed_seen : (cells : List CellView) (p : ℕ) → (seen_at (map seen_of cells) p).printed ≡ (view_at (map told_view cells) p).printed
printed_seen (c ∷ cells) (suc p) = printed_seen cells p
printed_seen cells p = refl

-- a visit of i: the others stay, and what it keeps may be more then
module _ (b d : Table) (r r' : Round) (i : ℕ) (x : End) (v : HasVisited b d r r' i x) where
  pub unmoved : (p : ℕ) → (p ≡ i → ⊥) → view_at (sight_of d).cells p ≡ view_at (sight_of b).cells p
  unmoved p n = ap (λ l. view_at l p) v.turn.ran.only ∙ get_or-set_other (sight_of b).cells i p (view_at (sight_of d).cells i) no_view n

  pub spent_one : (w w' : Woken) → AreSpent b w → HasWoken (λ p. p ≡ i) w w' → AreSpent d w'
  spent_one w w' spent woken known p = by (cases_eq p i) (spent (woken known).0 p)
    where
      stays_spent : (p ≡ i → ⊥) → IsSpent b p → IsSpent d p
      stays_spent n k =
          let g = ap (λ l. slice_index_or l p nothing_gone) v.turn.worked.gone in
          let same = unmoved p n in (
            λ q. ap (λ (x : Gone). tokens x.kept q) g ∙ k.0 q ∙ kept_seen b.cells p q ∙ ap (λ (x : View). x.kept q) (sym same) ∙ sym (kept_seen d.cells p q),
            ap (λ (x : Gone). x.printed) g ∙ k.1 ∙ printed_seen b.cells p ∙ ap (λ (x : View). x.printed) (sym same) ∙ sym (printed_seen d.cells p),
          )

      by : (p ≡ i) ⊎ (p ≡ i → ⊥) → IsWoken w p ⊎ IsSpent b p → IsWoken w' p ⊎ IsSpent d p
      by (inl e) k = inl ((woken known).1 p (inr e))
      by (inr n) (inl k) = inl ((woken known).1 p (inl k))
      by (inr n) (inr k) = inr (stays_spent n k)

module _ (b d : Table) (r r' : Round) (i : ℕ) (x : End) (laid : IsLaid d) (counted : AreQueued d.queues) (v : HasVisited b d r r' i x) where
  abbrev s : RunState
  s = sight_of b

  abbrev s' : RunState
  s' = sight_of d

  others : (p : ℕ) → (p ≡ i → ⊥) → view_at s'.cells p ≡ view_at s.cells p
  others = unmoved b d r r' i x v

  is : (record s { cells = s'.cells }) ≡ s'
  is = λ j. record { network = sym v.turn.ran.same.0 j; input = sym v.turn.ran.same.1 j; watch = sym v.turn.ran.same.2 j; cells = s'.cells }

  -- an instance that is at rest stays so, or something waits that i wrote
  stays : (o : ℕ) (y : End) → (o ≡ i → ⊥) → IsAtRest s o y → IsAtRest s' o y ⊎ IsReadyBehind d i o
  stays o y n (h, never) = by y.outcome refl
    where
      said : (k : Outcome) → y.outcome ≡ k → IsOutcomeOf s.network s.input s.cells o (pause_of s o y h) k
      said k e = subst (IsOutcomeOf s.network s.input s.cells o (pause_of s o y h)) e h.told

      rests : (k : Outcome) → y.outcome ≡ k → IsOutcomeOf s.network s.input s'.cells o (pause_of s o y h) k → IsAtRest s' o y ⊎ IsReadyBehind d i o
      rests k e told = inl (subst (λ u. HasEndIn u o y) is (end_on s s'.cells o y (others o n) h (subst (IsOutcomeOf s.network s.input s'.cells o (pause_of s o y h)) (sym e) told)), never)

      here : (c q : ℕ) → actual_at (instance_at s.network o) q ≡ Reads c → actual_at (instance_at s'.network o) q ≡ Reads c
      here c q e = subst (λ N. actual_at (instance_at N o) q ≡ Reads c) (sym v.turn.ran.same.0) e

      waits : (c : ℕ) → y.outcome ≡ Waits c → (q : ℕ) → actual_at (instance_at s.network o) q ≡ Reads c → pause_of s o y h ≡ script.Dry q →
          TookAll s.network s.input s'.cells o q c ⊎ ((r : ℕ) × (actual_at (instance_at s.network i) r ≡ Writes c)) → IsAtRest s' o y ⊎ IsReadyBehind d i o
      waits c e q reads dry (inl took) = rests (Waits c) e (q, reads, dry, took)
      waits c e q reads dry (inr (r, writes)) = at (cases_lt 0 (waiting_of (slice_get d.queues.queues c)))
        where
          at : (0 < waiting_of (slice_get d.queues.queues c)) ⊎ (waiting_of (slice_get d.queues.queues c) ≤ 0) → IsAtRest s' o y ⊎ IsReadyBehind d i o
          at (inl some) = inr (r, (c, subst (λ N. actual_at (instance_at N i) r ≡ Writes c) (sym v.turn.ran.same.0) writes, (n, some, (q, here c q reads))))
          at (inr none) =
              rests (Waits c) e (
                q,
                reads,
                dry,
                subst (λ (k : Schema × Inputs). TookAll k.0 k.1 s'.cells o q c) (λ j. (v.turn.ran.same.0 j, v.turn.ran.same.1 j)) (took_all d laid counted o q c (here c q reads) (omega (arith, none))),
              )

      by : (k : Outcome) → y.outcome ≡ k → IsAtRest s' o y ⊎ IsReadyBehind d i o
      by Ended e = rests Ended e (said Ended e)
      by (Faulted m) e = rests (Faulted m) e (said (Faulted m) e)
      by More e = absurd (never e)
      by (Waits c) e =
          let t = said (Waits c) e in
          waits c e t.0 t.1 t.2 (took_on s.network s.input s.cells s'.cells i others o t.0 c n t.3)

  -- its end is noted, and those are woken that read what it wrote
  pub noted_one : (x.outcome ≡ More → ⊥) → (w w' : Woken) (ends : List End) → AreNotedBut (λ p. p ≡ i) s w ends → HasWoken (IsReadyBehind d i) w w' →
      AreNoted s' w' (slice_set ends i x)
  noted_one never w w' ends noted woken known = (length-set ends i x ∙ h.0 ∙ ap (λ (N : Schema). length N.instances) (sym v.turn.ran.same.0), set_each (IsGood s' w') ends i x each (inl (inl (v.rests, never))))
    where
      g : (w.known ≡ true) × ((p : ℕ) → IsWoken w p ⊎ IsReadyBehind d i p → IsWoken w' p)
      g = woken known

      h : (length ends ≡ length s.network.instances) × ((p : ℕ) (y : End) → slice_get ends p ≡ Some y → (IsAtRest s p y ⊎ IsWoken w p) ⊎ (p ≡ i))
      h = noted g.0

      rest : (o : ℕ) (y : End) → IsAtRest s' o y ⊎ IsReadyBehind d i o → IsGood s' w' o y
      rest o y (inl k) = inl (inl k)
      rest o y (inr k) = inl (inr (g.1 o (inr k)))

      by : (o : ℕ) (y : End) → (o ≡ i → ⊥) → (IsAtRest s o y ⊎ IsWoken w o) ⊎ (o ≡ i) → IsGood s' w' o y
      by o y n (inl (inl k)) = rest o y (stays o y n k)
      by o y n (inl (inr k)) = inl (inr (g.1 o (inl k)))
      by o y n (inr e) = absurd (n e)

      each : (o : ℕ) (y : End) → (o ≡ i → ⊥) → slice_get ends o ≡ Some y → IsGood s' w' o y
      each o y n at = by o y n (h.1 o y at)

-- ---- one after another

pub noted_but : (s : RunState) (w w' : Woken) (r : ℕ) (ends : List End) → AreNoted s w ends → IsTakenFrom w (Some r) w' → AreNotedBut (λ p. p ≡ r) s w' ends
noted_but s w w' r ends noted taken known = (h.0, λ p y at. by p y (h.1 p y at))
  where
    h : (length ends ≡ length s.network.instances) × ((p : ℕ) (y : End) → slice_get ends p ≡ Some y → (IsAtRest s p y ⊎ IsWoken w p) ⊎ ⊥)
    h = noted (sym taken.0 ∙ known)

    or : (p : ℕ) (y : End) → (p ≡ r) ⊎ IsWoken w' p → (IsAtRest s p y ⊎ IsWoken w' p) ⊎ (p ≡ r)
    or p y (inl e) = inr e
    or p y (inr k) = inl (inr k)

    by : (p : ℕ) (y : End) → (IsAtRest s p y ⊎ IsWoken w p) ⊎ ⊥ → (IsAtRest s p y ⊎ IsWoken w' p) ⊎ (p ≡ r)
    by p y (inl (inl k)) = inl (inl k)
    by p y (inl (inr k)) = or p y (taken.1 p k)
    by p y (inr k) = absurd k

pub all_rest : (s : RunState) (w w' : Woken) (r : Round) → AreNoted s w r.ends.items → w.known ≡ true → IsTakenFrom w None w' → r.memory ≡ false → AreAtRest s r
all_rest s w w' r noted known taken memory = record { memory = memory; size = (noted known).0; each = λ p y at. by p y ((noted known).1 p y at) }
  where
    by : (p : ℕ) (y : End) → (IsAtRest s p y ⊎ IsWoken w p) ⊎ ⊥ → IsAtRest s p y
    by p y (inl (inl k)) = k
    by p y (inl (inr k)) = absurd (taken.1 p k)
    by p y (inr k) = absurd k

-- after a part that has finished
pub noted_after : (d : Table) (bound : ℕ) (r : PartEnd) (w : Woken) → IsPartEnd d bound r → (w.known ≡ true → r.verdict ≡ Finished) → AreNoted (sight_of d) w r.ends.items
noted_after d bound r w c finished known =
    let rule = subst (λ v. IsVerdict c.0 r.ends.items v) (finished known) c.1.rule in
    (c.1.last.size, λ p y at. inl (inl ((c.1.last.ends p y at).0, rule.1 p y at)))

-- ---- a longer input

abbrev stood_grown : (N : Schema) (I J : Inputs) → AreInputsExtended I J → (watch : Option ℕ) (p : ℕ) (c : View) → StoodBy N I watch p c → StoodBy N J watch p c
stood_grown N I J grown watch p c h = record {
  tapes = h.tapes;
  does = h.does;
  all = h.all;
  stand = λ q d r k v e. let s = h.stand q d r k v e in (s.0, prefix_get _ _ (inputs_grow N I J grown s.0 (Channel d)) k v s.1);
  took = h.took;
  none = h.none;
  gave = h.gave;
  kept = λ q d w k. kept_grown N I J (Channel d) _ _ grown (h.kept q d w k);
  bare = h.bare;
  printed = kept_grown N I J _ _ _ grown h.printed;
}

-- of channels other than c the lists stay
module _ (s : RunState) (J : Inputs) (grown : AreInputsExtended s.input J) (c : ℕ) (others : (k : ℕ) → (k ≡ c → ⊥) → J k ≡ s.input k) where
  given_grown : (k : ℕ) → (k ≡ c → ⊥) → (z : Source) (n : ℕ) → IsGiven s.network s.input s.cells k z n → IsGiven s.network J s.cells k z n
  given_grown k n Given m h = ap length (others k n) ∙ h
  given_grown k n (Written w) m h = h
  given_grown k n Nobody m h = absurd h

  end_grown : (p : ℕ) (y : End) → IsAtRest s p y → IsAtRest (record s { input = J }) p y ⊎ IsReaderOf s.network c p
  end_grown p y (h, never) = by y.outcome refl
    where
      said : (k : Outcome) → y.outcome ≡ k → IsOutcomeOf s.network s.input s.cells p (pause_of s p y h) k
      said k e = subst (IsOutcomeOf s.network s.input s.cells p (pause_of s p y h)) e h.told

      rests : (k : Outcome) → y.outcome ≡ k → IsOutcomeOf s.network J s.cells p (pause_of s p y h) k → IsAtRest (record s { input = J }) p y ⊎ IsReaderOf s.network c p
      rests k e told =
          inl (
            record {
              stood = stood_grown s.network s.input J grown s.watch p (view_at s.cells p) h.stood;
              count = h.count;
              told = subst (IsOutcomeOf s.network J s.cells p (pause_of s p y h)) (sym e) told;
            },
            never,
          )

      at : (k : ℕ) → y.outcome ≡ Waits k → IsOutcomeOf s.network s.input s.cells p (pause_of s p y h) (Waits k) → (k ≡ c) ⊎ (k ≡ c → ⊥) → IsAtRest (record s { input = J }) p y ⊎ IsReaderOf s.network c p
      at k e t (inl f) = inr (t.0, t.1 ∙ ap Reads f)
      at k e t (inr n) = rests (Waits k) e (t.0, t.1, t.2, given_grown k n (source s.network (Channel k)) ((view_at s.cells p).taken t.0) t.3)

      by : (k : Outcome) → y.outcome ≡ k → IsAtRest (record s { input = J }) p y ⊎ IsReaderOf s.network c p
      by Ended e = rests Ended e (said Ended e)
      by (Faulted m) e = rests (Faulted m) e (said (Faulted m) e)
      by More e = absurd (never e)
      by (Waits k) e = at k e (said (Waits k) e) (cases_eq k c)

  pub noted_grown : (w w' : Woken) (ends : List End) → AreNoted s w ends → HasWoken (IsReaderOf s.network c) w w' → AreNoted (record s { input = J }) w' ends
  noted_grown w w' ends noted woken known = ((noted g.0).0, λ p y at. by p y ((noted g.0).1 p y at))
    where
      g : (w.known ≡ true) × ((p : ℕ) → IsWoken w p ⊎ IsReaderOf s.network c p → IsWoken w' p)
      g = woken known

      or : (p : ℕ) (y : End) → IsAtRest (record s { input = J }) p y ⊎ IsReaderOf s.network c p → (IsAtRest (record s { input = J }) p y ⊎ IsWoken w' p) ⊎ ⊥
      or p y (inl k) = inl (inl k)
      or p y (inr k) = inl (inr (g.1 p (inr k)))

      by : (p : ℕ) (y : End) → (IsAtRest s p y ⊎ IsWoken w p) ⊎ ⊥ → (IsAtRest (record s { input = J }) p y ⊎ IsWoken w' p) ⊎ ⊥
      by p y (inl (inl k)) = or p y (end_grown p y k)
      by p y (inl (inr k)) = inl (inr (g.1 p (inl k)))
      by p y (inr k) = absurd k

pub spent_poured : (b d : Table) (c n : ℕ) (input : Lists) → HasTakenIn c n input b d → (w : Woken) → AreSpent b w → AreSpent d w
spent_poured b d c n input h w spent known p =
    let g = ap (λ (x : Table). x.gone) h.rest in
    subst (λ (k : List Gone × List Seen). IsWoken w p ⊎ IsSpentBy (slice_index_or k.0 p nothing_gone) (seen_at k.1 p).kept (seen_at k.1 p).printed) (λ j. (sym g j, sym h.seen j)) (spent known p)

pub noted_poured : (b d : Table) (c : ℕ) (values : List Value) (input : Lists) → IsPoured b.input c values input → HasTakenIn c (length values) input b d →
    (w w' : Woken) (ends : List End) → AreNoted (sight_of b) w ends → HasWoken (IsReaderOf (sight_of d).network c) w w' → AreNoted (sight_of d) w' ends
noted_poured b d c values input poured h w w' ends noted woken =
    subst (λ u. AreNoted u w' ends) is
    (noted_grown (sight_of b) (inputs_of input) (poured_grown b.input c values input poured) c others w w' ends noted
    (subst (λ (x : Table). HasWoken (IsReaderOf (sight_of x).network c) w w') h.rest woken))
  where
    is : (record (sight_of b) { input = inputs_of input }) ≡ sight_of d
    is = λ i. record { network = network_of (sym h.rest i).network; input = inputs_of (sym h.rest i).input; watch = (sym h.rest i).watch; cells = sym h.views i }

    others : (k : ℕ) → (k ≡ c → ⊥) → inputs_of input k ≡ inputs_of b.input k
    others k n = grind (arith, nat_tests, n, poured k, append-nil (inputs_of b.input k))
