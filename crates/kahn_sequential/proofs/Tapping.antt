-- Taps over plain queues, one of which runs.
use Rattle.kahn_sequential.proofs.Common.{arith, ◌≡◌, ◌⊎◌, inl, inr, ℕ, ◌<◌, ◌≤◌, List, ◌++◌, length, map, replicate, refl, sym, ap, ◌∙◌, subst, Option, Some, slice_get, slice_set, slice_index_or, StoodIn, StoodBy, count, inputs_of, told_view, map-set_same, get_or-set_other, length-map, map-set, cases_eq, slice_get_read, Program, network_of, Lists, Gone, kept_behind, nothing_gone, Tapped, View, Pause, Kept, HasRunCell, RunState, events_at, no_view, view_at, kept_lists, printed_list, AreKeptOf, HaveChanged, none_of, IsLaid, IsLeft, HasWorked, Table, actual_count, gone_in, parameter_count, sight_of, table_of, told_in, Lines as Queues}
use Rattle.kahn_sequential.proofs.{Benched.get_map, Benched.mapped, Benched.ran, Benched.viewed, Lists.map_changed, Lists.map_map}

-- ---- later states of a bench

pub worked_on : {a b c : Table} → HasWorked a b → HasWorked b c → HasWorked a c
worked_on h k = record {
  network = k.network ∙ h.network;
  input = k.input ∙ h.input;
  watch = k.watch ∙ h.watch;
  gone = k.gone ∙ h.gone;
  events = λ p. let a = h.events p in let b = k.events p in omega (arith, a, b);
}

-- the events of an instance that ran, and of the others
ran_events : (s t : RunState) (p quantum : ℕ) (z : Pause) → HasRunCell s t p quantum z → (o : ℕ) → events_at s o ≤ events_at t o
ran_events s t p quantum z h o = by (cases_eq o p)
  where
    by : (o ≡ p) ⊎ (o ≡ p → ⊥) → events_at s o ≤ events_at t o
    by (inl e) = subst (λ o. events_at s o ≤ events_at t o) (sym e) h.events.0
    by (inr n) =
        let same : view_at t.cells o ≡ view_at s.cells o = ap (λ l. view_at l o) h.only ∙ get_or-set_other s.cells p o (view_at t.cells p) no_view n in
        omega (arith, ap (λ (v : View). v.events) same)

-- ---- a tap runs

module _ {t : Program} {lists : Lists} {watch : Option ℕ} {code : Program} (taps : List Tapped) {q : Queues} {n : Table} (is : table_of t lists watch code taps q ≡ n)
    (laid : IsLaid (table_of t lists watch code taps q)) (p : ℕ) {x : Tapped} (here : p < length (network_of n.network).instances) (value : x ≡ slice_index_or taps p x) where
  abbrev b : Table
  b = table_of t lists watch code taps q

  pub tap_at : slice_get taps p ≡ Some x
  tap_at =
      slice_get_read taps (length taps) p x refl
      (subst (λ k. p < k) (sym (sym (length-map taps told_in) ∙ laid.count ∙ ap (λ (y : Table). length (network_of y.network).instances) is)) here) value

  pub found : slice_get b.cells p ≡ Some x.told
  found = get_map told_in taps p x tap_at

  pub events_here : events_at (sight_of n) p ≡ x.told.events
  events_here = ap (λ (y : Table). events_at (sight_of y) p) (sym is) ∙ ap (λ (v : View). v.events) (viewed b laid p x.told found)

  pub sent_here : (r : ℕ) → (view_at (sight_of n).cells p).sent r ≡ count x.told.sent r
  sent_here r = ap (λ (y : Table). (view_at (sight_of y).cells p).sent r) (sym is) ∙ ap (λ (v : View). v.sent r) (viewed b laid p x.told found)

  pub stood_here : StoodBy (network_of t) (inputs_of x.told.input) x.told.watch x.told.instance (told_view x.told) → StoodIn (sight_of n) p
  stood_here h =
      let s = laid.each p x.told found in
      subst (λ (y : Table). StoodIn (sight_of y) p) is
      (subst (λ v. StoodBy (network_of t) (inputs_of lists) watch p v) (sym (viewed b laid p x.told found))
      (subst (λ (k : Lists × Option ℕ × ℕ). StoodBy (network_of t) (inputs_of k.0) k.1 k.2 (told_view x.told)) (λ i. (s.input i, s.watch i, s.instance i)) h))

  module _ (y : Tapped) (gone : y.gone ≡ x.gone) (q' : Queues) where
    gone_same : map gone_in (slice_set taps p y) ≡ map gone_in taps
    gone_same = map-set_same gone_in taps p y x (gone ∙ ap gone_in value)

    pub ran_is : ran b p y.told q' ≡ table_of t lists watch code (slice_set taps p y) q'
    ran_is = λ i. record { network = t; input = lists; watch = watch; code = code; cells = sym (map-set told_in taps p y) i; gone = sym gone_same i; queues = q' }

    -- with the input of the queues
    abbrev after : Lists → Table
    after l = table_of t l watch code (slice_set taps p y) q'

    pub ran_laid : IsLaid (ran b p y.told q') → IsLaid (after q'.input)
    ran_laid h = subst (λ l. IsLaid (after l)) (sym h.input) (subst IsLaid ran_is h)

    pub run_worked : (quantum : ℕ) (z : Pause) → IsLaid (ran b p y.told q') → HasRunCell (sight_of b) (sight_of (ran b p y.told q')) p quantum z →
        HasRunCell (sight_of n) (sight_of (after q'.input)) p quantum z × HasWorked n (after q'.input)
    run_worked quantum z there h =
        let k : HasRunCell (sight_of n) (sight_of (after lists)) p quantum z =
        subst (λ (x : Table). HasRunCell (sight_of x) (sight_of (after lists)) p quantum z) is (subst (λ (x : Table). HasRunCell (sight_of b) (sight_of x) p quantum z) ran_is h) in
        subst (λ l. HasRunCell (sight_of n) (sight_of (after l)) p quantum z × HasWorked n (after l)) (sym there.input) (
          k,
          record {
            network = ap (λ (x : Table). x.network) is;
            input = ap (λ (x : Table). x.input) is;
            watch = ap (λ (x : Table). x.watch) is;
            gone = gone_same ∙ ap (λ (x : Table). x.gone) is;
            events = ran_events (sight_of n) (sight_of (after lists)) p quantum z k;
          },
        )

-- ---- what is there of what was kept

-- where nothing was let go of it is all
pub left_whole : {A : Type 0} (taps : List Tapped) (kept : List (Kept A)) (n : ℕ) → HaveChanged IsLeft taps kept → map gone_in taps ≡ replicate n nothing_gone → AreKeptOf (map told_in taps) kept
left_whole {A} taps kept n h e = record {
  sent = map_changed kept_lists (λ x. x.told.kept) (λ x k z. z.0) taps kept whole ∙ sym (map_map (λ c. c.kept) told_in taps);
  printed = map_changed printed_list (λ x. x.told.printed) (λ x k z. z.1) taps kept whole ∙ sym (map_map (λ c. c.printed) told_in taps);
  parameters = map_changed parameter_count (λ x. actual_count x.told) (λ x k z. z.2) taps kept whole ∙ sym (map_map actual_count told_in taps);
}
  where
    whole : HaveChanged (λ (x : Tapped) (k : Kept A). (kept_lists k ≡ x.told.kept) × (printed_list k ≡ x.told.printed) × (parameter_count k ≡ actual_count x.told)) taps kept
    whole = record {
      count = h.count;
      each = λ p x k f g.
          let l = h.each p x k f g in
          let none : x.gone ≡ nothing_gone = sym (mapped gone_in taps p x nothing_gone f) ∙ ap (λ (gs : List Gone). slice_index_or gs p nothing_gone) e ∙ none_of n p nothing_gone in
          let all = subst (λ (g : Gone). (kept_behind g.kept (kept_lists k) ≡ x.told.kept) × (g.printed ++ printed_list k ≡ x.told.printed)) none (l.0, l.1) in
          (all.0, all.1, l.2);
    }
