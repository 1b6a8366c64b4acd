-- One turn of a search: what is forced stays so, and what a process waits for is wanted.
use Rattle.kahn_needs.proofs.Common.{arith, ◌≡◌, inl, inr, ℕ, List, [], ◌∷◌, ◌++◌, zero, suc, le_refl, ◌+◌, ◌≤◌, ◌<◌, length, take, refl, sym, ap, ◌∙◌, subst, Option, Some, slice_get, slice_index_or, same_Some, there, within, reads, reads_listed, Lists, inputs_of, IsWriter, Schema, Reads, Writes, Given, Written, actual_at, channel_source, instance_at, network_of, role_at, Dry, Inputs, Ending, Ended, Faulted, Waiting as Waits_for, ending, input_list, out, source, tape_of, Side, Program, Input, Failure, Line, Channel, Print, IsFed, set_each, set_here, StoodBy, exec_on, sent_on, next_at, taken_of, waiting_of, AreCounts, CellView, told_view, count, cell_events, events_seen, length-map, replicate, slice_set, events_total, Pause, Cut, held_in, IsInNoCut, IsMissing, IsLastEnd, StandsBefore, LacksOne, LeadsTo, MeetsRing, WaitsIn, onward, IsNetworkLine, HasActed, HaveSeats, AreSeatsOf, Stood, Seats, AreDemands, AreForced, HasSentSoMany, HoldsIn, HoldsAt, IsWaitChain, IsDemand, IsNoLater, IsPausedAt, IsSooner, IsWanted}
use Rattle.kahn_code.specs.Lines.{Waiting}
use Rattle.kahn_code.specs.declared.progress.Pause.TheVariants as pause
use Rattle.kahn_needs.specs.declared.search.{Chain.Chain, Demand.Demand, Sought.Sought}
use Rattle.kahn_needs.specs.declared.search.Sought.TheVariants as sought
use Rattle.kahn_needs.specs.inner.Finding.{HasEndedWith, IsEndOfSearch}
use Rattle.std.proofs.lemmas.List.Elements.{All-nil, All-push, All-weaker}
use Rattle.kahn_needs.proofs.{Benched.events_at, Benched.found, Needing.held_all, Needing.held_before, Needing.held_given, Needing.prefix_length, Needing.take_below}
use Rattle.kahn_needs.proofs.Ways as way

-- of an input a cut has no more than its list
pub given_within : (N : Schema) (I : Inputs) (y : Cut) (d : Line) (j : ℕ) → source N d ≡ Given → HoldsAt N I y d j → j < length (input_list I d)
given_within N I y (Channel d) j e h =
    omega (arith, ap length (held_given N I y h.0 (Channel d) e), prefix_length (take (y.values d) (I d)) (I d) (take_below (y.values d) (I d)), h.1)
given_within N I y (Print p) j e h = absurd cc

-- a cut has the events of a cell, and the values that it took
abbrev Needs_all : Program → Lists → Cut → ℕ → CellView → Type 0
Needs_all t lists y o x =
    (x.events ≤ y.events o)
    × ((q e i : ℕ) → actual_at (instance_at (network_of t) o) q ≡ Reads e → i < count x.taken q → HoldsAt (network_of t) (inputs_of lists) y (Channel e) i)

module _ (b : Seats) (laid : HaveSeats b) where
  abbrev N : Schema
  N = network_of b.network

  abbrev I : Inputs
  I = inputs_of b.input

  -- of the channel that it reads so many values were taken as the cell took
  pub taken_there : (p q d : ℕ) (x : CellView) → slice_get b.cells p ≡ Some x → actual_at (instance_at N p) q ≡ Reads d → taken_of (slice_get b.queues.queues d) ≡ count x.taken q
  taken_there p q d x at e =
      let s = laid.each p x at in
      let own : actual_at (instance_at (network_of x.network) x.instance) q ≡ actual_at (instance_at N p) q =
      ap (λ t. actual_at (instance_at (network_of t) x.instance) q) s.network ∙ ap (λ i. actual_at (instance_at N i) q) s.instance in
      sym (ap (next_at b.queues.queues) e) ∙ sym (ap (λ t. next_at b.queues.queues (actual_at (instance_at (network_of t) p) q)) laid.network) ∙ s.at.reads q d (own ∙ e)

  -- and so many are counted
  pub counted_there : (p q d : ℕ) (x : CellView) → slice_get b.cells p ≡ Some x → actual_at (instance_at N p) q ≡ Reads d → count b.taken d ≡ count x.taken q
  counted_there p q d x at e = laid.tally.read p q d (ap (λ t. actual_at (instance_at (network_of t) p) q) laid.network ∙ e) ∙ taken_there p q d x at e

  -- what was put on an input is its list
  pub given_there : (d : ℕ) (w : Waiting) → slice_get b.queues.queues d ≡ Some w → role_at N d ≡ Input → w.taken + w.waiting ≡ length (I d)
  given_there d w at role =
      (laid.tally.queued.each d w at).given (ap (λ t. role_at (network_of t) d) laid.network ∙ role) ∙ ap (λ (l : Lists). length (inputs_of l d)) laid.input

  -- ---- what a pause tells

  module _ (c : Line) (k : ℕ) (d : Line) (j : ℕ) (demand : IsDemand b c k d j) (p : ℕ) (src : source N d ≡ Written p) (n : ℕ) (sent : HasSentSoMany b d n) (few : n ≤ j) where
    less : (x : CellView) → slice_get b.cells p ≡ Some x → (s : Stood b p x) → length (sent_on N x.events p s.tapes d) ≤ j
    less x at s = let e = sent p src x at s in omega (arith, e, few)

    -- what was held when the value was sent, in a cut in which it is
    before : (y : Cut) (there : HoldsAt N I y d j) → (m : ℕ) × (m < there.0) × (j < length (out N (y.events p) p (held_in N I y m) d))
    before y there = held_before N I y d p j there.0 src there.1

    -- it stands there, and hasn't sent it
    abbrev unsent : (x : CellView) → slice_get b.cells p ≡ Some x → Stood b p x → StandsBefore N I d j
    unsent x at s = record {
      writer = p;
      written = src;
      events = x.events;
      tapes = s.tapes;
      reaches = record { tapes = record { stand = s.stand; none = s.none }; does = s.does; all = s.all };
      few = less x at s;
    }

    -- it waits for a value that is wanted, and comes sooner
    pub waits_for : (q e : ℕ) → IsPausedAt b p (pause.Dry q) → actual_at (instance_at N p) q ≡ Reads e →
        IsDemand b c k (Channel e) (count b.taken e) × IsSooner b d j (Channel e) (count b.taken e) × WaitsIn b d j (Channel e) (count b.taken e)
    waits_for q e h r = (
      record {
        listed = listed;
        wanted = λ y there. (sooner y (demand.wanted y there)).0;
        given = λ s. by (reads b.network laid.wired p q e r) s;
        led = onward demand.led waits;
      },
      sooner,
      waits,
    )
      where
        listed : e < length N.channels
        listed = reads_listed b.network laid.wired p q e r

        dry : (exec_on N h.0.events p h.2.stood.tapes).outcome ≡ Dry q
        dry = h.2.is.2

        waits : WaitsIn b d j (Channel e) (count b.taken e)
        waits = record {
          unsent = unsent h.0 h.1 h.2.stood;
          parameter = q;
          channel = e;
          dry = dry;
          reads = r;
          line = refl;
          place = counted_there p q e h.0 h.1 r ∙ sym (h.2.stood.took q);
        }

        sooner : IsSooner b d j (Channel e) (count b.taken e)
        sooner y there =
            let m = before y there in
            let l = way.waits_there N I b.watch p (told_view h.0) h.2.stood d j (less h.0 h.1 h.2.stood) (y.events p) (held_in N I y m.0) (held_all N I y m.0) m.2 q dry in
            ((m.0, omega (arith, l, ap (λ a. length (tape_of (held_in N I y m.0) a)) r, counted_there p q e h.0 h.1 r)), m.1)

        same : {x y : ℕ} → Reads x ≡ Reads y → x ≡ y
        same f = cc

        by : IsFed N e → source N (Channel e) ≡ Given → length (I e) ≤ count b.taken e
        by (inl (f, role)) s =
            let w = there b.queues.queues e (subst (λ n. e < n) (sym (laid.tally.queued.count ∙ ap (λ t. length (network_of t).channels) laid.network)) listed) in
            let z = sym (ap waiting_of w.1) ∙ subst (λ f. waiting_of (slice_get b.queues.queues f) ≡ 0) (same (sym h.2.is.1 ∙ r)) h.2.is.3 in
            omega (arith, given_there e w.0 w.1 role, ap taken_of w.1, z, taken_there p q e h.0 h.1 r, counted_there p q e h.0 h.1 r)
        by (inr w) s = let f : Given ≡ Written w.0 = sym s ∙ w.2 in absurd cc

    -- it is at an end, so there is none
    over_by : (e : Ending) → ((q : ℕ) → e ≡ Waits_for q → ⊥) → IsLastEnd (Some e) → (x : CellView) → slice_get b.cells p ≡ Some x → (s : Stood b p x) →
        ending (exec_on N x.events p s.tapes).outcome ≡ Some e → IsInNoCut b c k × IsMissing N I d j
    over_by e none over x at s is = (
      (λ y there. let m = before y (demand.wanted y there) in
          way.not_over N I b.watch p (told_view x) s d j (less x at s) (y.events p) (held_in N I y m.0) (held_all N I y m.0) m.2 e is none),
      inr (unsent x at s, subst IsLastEnd (sym is) over),
    )

    pub ended : IsPausedAt b p pause.Ended → IsInNoCut b c k × IsMissing N I d j
    ended h = over_by Ended (λ q e. absurd cc) tt h.0 h.1 h.2.stood h.2.is

    pub faulted : (z : Failure) → IsPausedAt b p (pause.Fault z) → IsInNoCut b c k × IsMissing N I d j
    faulted z h = over_by (Faulted z) (λ q e. absurd cc) tt h.0 h.1 h.2.stood h.2.is

    -- ---- an event

    module _ (forced : AreForced b c k) (b' : Seats) (z : Pause) (a : HasActed b b' p z) where
      stood : Stood b p a.old
      stood = (laid.each p a.old a.was).stood

      after : Stood b p a.new
      after =
          subst (λ (k' : Program × Lists × Option ℕ). StoodBy (network_of k'.0) (inputs_of k'.1) k'.2 p (told_view a.new)) (λ i. (a.same.0 i, a.same.1 i, a.same.2 i))
          a.paused.stood

      one : (y : Cut) → HoldsAt N I y c k → Needs_all b.network b.input y p a.new
      one y there =
          let m = before y (demand.wanted y there) in
          let A = held_in N I y m.0 in
          let less' = less a.old a.was stood in
          let one_more = a.events.1 in (
            omega (arith, way.goes_further N I b.watch p (told_view a.old) stood d j less' (y.events p) A (held_all N I y m.0) m.2, one_more),
            λ q e i r l.
                let t = way.taken_there N I b.watch p (told_view a.old) stood d j less' (y.events p) A (held_all N I y m.0) m.2 (told_view a.new) after one_more q in
                (m.0, omega (arith, t, ap (λ a. length (tape_of A a)) r, l)),
          )

      on : (y : Cut) → HoldsAt N I y c k → (o : ℕ) (x : CellView) → slice_get b'.cells o ≡ Some x → Needs_all b.network b.input y o x
      on y there o x at =
          set_each (Needs_all b.network b.input y) b.cells p a.new (λ o' x' other at'. forced y there o' x' at') (one y there) o x (subst (λ l. slice_get l o ≡ Some x) a.cells at)

      pub forced_on : AreForced b' c k
      forced_on =
          subst (λ (k' : Program × Lists). (y : Cut) → HoldsAt (network_of k'.0) (inputs_of k'.1) y c k → (o : ℕ) (x : CellView) → slice_get b'.cells o ≡ Some x → Needs_all k'.0 k'.1 y o x)
          (λ i. (sym a.same.0 i, sym a.same.1 i)) on

-- ---- the same demand later

module _ (b b' : Seats) (names : AreSeatsOf b.network b.input b.watch b') (c : Line) (k : ℕ) where
  still : (P : Schema → Inputs → Type 0) → P (network_of b.network) (inputs_of b.input) → P (network_of b'.network) (inputs_of b'.input)
  still P = subst (λ (t : Program × Lists). P (network_of t.0) (inputs_of t.1)) (λ i. (sym names.0 i, sym names.1 i))

  pub demand_on : (d : Line) (j : ℕ) → IsDemand b c k d j → IsDemand b' c k d j
  demand_on d j h = record {
    listed = still (λ N I. IsNetworkLine N d) h.listed;
    wanted = still (λ N I. (y : Cut) → HoldsAt N I y c k → HoldsAt N I y d j) h.wanted;
    given = still (λ N I. source N d ≡ Given → length (input_list I d) ≤ j) h.given;
    led = still (λ N I. LeadsTo N I c k d j) h.led;
  }

  -- and the same chain
  pub chain_on : (x : Chain) → IsWaitChain b c k x → IsWaitChain b' c k x
  chain_on x h = record {
    demanded = demand_on x.demand.line x.demand.place h.demanded;
    marked = still (λ N I. (y : Cut) → HoldsAt N I y c k → HoldsAt N I y x.mark.line x.mark.place) h.marked;
    later = still (λ N I. (y : Cut) (h' : HoldsAt N I y x.mark.line x.mark.place) → (g : HoldsAt N I y x.demand.line x.demand.place) × (g.0 ≤ h'.0)) h.later;
    led = still (λ N I. LeadsTo N I c k x.mark.line x.mark.place) h.led;
    leads = still (λ N I. LeadsTo N I x.mark.line x.mark.place x.demand.line x.demand.place) h.leads;
  }

  -- and the same demands
  pub demands_on : (ds : List Demand) → AreDemands b c k ds → AreDemands b' c k ds
  demands_on ds h = All-weaker (λ d. IsDemand b c k d.line d.place) (λ d. IsDemand b' c k d.line d.place) (λ d. demand_on d.line d.place) ds h

-- none at first, and one more
pub none_wait : (b : Seats) (c : Line) (k : ℕ) (ds : List Demand) → ds ≡ [] → AreDemands b c k ds
none_wait b c k ds none = subst (AreDemands b c k) (sym none) (All-nil (λ x. IsDemand b c k x.line x.place))

pub one_waits : (b : Seats) (c : Line) (k : ℕ) (ds es : List Demand) (d : Demand) → es ≡ ds ++ (d ∷ []) → AreDemands b c k ds → IsDemand b c k d.line d.place → AreDemands b c k es
one_waits b c k ds es d more h one = subst (AreDemands b c k) (sym more) (All-push (λ x. IsDemand b c k x.line x.place) ds d h one)

-- one that begins with a demand
pub chain_begun : (b : Seats) (c : Line) (k : ℕ) (d : Line) (j : ℕ) → IsDemand b c k d j → (y : Cut) (h : HoldsIn b y d j) → (g : HoldsIn b y d j) × (g.0 ≤ h.0)
chain_begun b c k d j demand y h = (h, le_refl h.0)

-- one with a wait more
pub chain_longer : (b : Seats) (m : Line) (i : ℕ) (d : Line) (j : ℕ) (e : Line) (l : ℕ) → IsNoLater b m i d j → IsSooner b d j e l → IsSooner b m i e l
chain_longer b m i d j e l later sooner y h =
    let f = later y h in
    let g = sooner y f.0 in
    (g.0, omega (arith, f.1, g.1))

pub no_later : (b : Seats) (m : Line) (i : ℕ) (e : Line) (l : ℕ) → IsSooner b m i e l → IsNoLater b m i e l
no_later b m i e l sooner y h = let g = sooner y h in let n = g.1 in (g.0, omega (arith, n))

-- a value that would come sooner than itself never comes
ring_below : (b : Seats) (m : Line) (i : ℕ) → IsSooner b m i m i → (y : Cut) (n : ℕ) (h : HoldsIn b y m i) → h.0 < n → ⊥
ring_below b m i sooner y zero h l = omega (arith, l)
ring_below b m i sooner y (suc n) h l = let g = sooner y h in let a = g.1 in ring_below b m i sooner y n g.0 (omega (arith, a, l))

-- so where a chain comes back to its mark, no value is ever there
-- and waits lead from the value that is sought into that ring
pub meets_ring : (b : Seats) (c : Line) (k : ℕ) (x : Chain) (d : Demand) → IsWaitChain b c k x → WaitsIn b x.demand.line x.demand.place d.line d.place → x.mark ≡ d →
    MeetsRing (network_of b.network) (inputs_of b.input) c k
meets_ring b c k x d h waits same =
    (x.mark.line, x.demand.line, x.mark.place, x.demand.place, h.led, h.leads, subst (λ (z : Demand). WaitsIn b x.demand.line x.demand.place z.line z.place) (sym same) waits)

pub ring_never : (b : Seats) (c : Line) (k : ℕ) (m : Line) (i : ℕ) (d : Line) (j : ℕ) (e : Line) (l : ℕ) → IsWanted b c k m i → IsNoLater b m i d j → IsSooner b d j e l → m ≡ e → i ≡ l →
    (y : Cut) → HoldsIn b y c k → ⊥
ring_never b c k m i d j e l wanted later sooner same at y h =
    let g = wanted y h in
    ring_below b m i (subst (λ (z : Line × ℕ). IsSooner b m i z.0 z.1) (λ x. (sym same x, sym at x)) (chain_longer b m i d j e l later sooner)) y (suc g.0) g (omega arith)

-- no cut has what an input hasn't
pub none_given : (b : Seats) (c : Line) (k : ℕ) (d : Line) (j : ℕ) → IsDemand b c k d j → source (network_of b.network) d ≡ Given →
    IsInNoCut b c k × IsMissing (network_of b.network) (inputs_of b.input) d j
none_given b c k d j h s = (
  (λ y there. omega (arith, given_within (network_of b.network) (inputs_of b.input) y d j s (h.wanted y there), h.given s)),
  inl (s, h.given s),
)

-- waits lead from the value that is sought to a missing one
pub lacks_one : (b : Seats) (c : Line) (k : ℕ) (d : Line) (j : ℕ) → IsDemand b c k d j → IsInNoCut b c k × IsMissing (network_of b.network) (inputs_of b.input) d j →
    IsInNoCut b c k × LacksOne (network_of b.network) (inputs_of b.input) c k
lacks_one b c k d j h told = (told.0, (d, j, h.led, told.1))

-- so ends a search that doesn't end since no events are left
pub ended_so : (b : Seats) (c : Line) (k left : ℕ) (s : Sought) → IsEndOfSearch b c k s → HasEndedWith b c k left s
ended_so b c k left sought.Spent h = absurd h
ended_so b c k left sought.Come h = h
ended_so b c k left sought.Never h = h
ended_so b c k left sought.Ring h = h
ended_so b c k left sought.Bound h = h
ended_so b c k left sought.NoMemory h = h

-- ---- the events that are counted

pub total_set : (xs : List ℕ) (p n : ℕ) → p < length xs → events_total (slice_set xs p n) + slice_index_or xs p 0 ≡ events_total xs + n
total_set [] p n l = absurd (omega (arith, l))
total_set (x ∷ xs) zero n l = omega arith
total_set (x ∷ xs) (suc p) n l = let e = total_set xs p n (omega (arith, l)) in omega (arith, e)

pub total_none : (n : ℕ) (xs : List ℕ) → xs ≡ replicate n 0 → events_total xs ≡ 0
total_none n xs e = ap events_total e ∙ zeros n
  where
    zeros : (n : ℕ) → events_total (replicate n 0) ≡ 0
    zeros zero = refl
    zeros (suc n) = let e = zeros n in omega (arith, e)

module _ (b : Seats) (laid : HaveSeats b) (p : ℕ) where
  pub done_at : (x : CellView) → slice_get b.cells p ≡ Some x → slice_index_or b.done p 0 ≡ x.events
  done_at x at = ap (λ l. slice_index_or l p 0) laid.done ∙ events_at b.cells p ∙ ap events_seen at

  pub done_seen : slice_index_or b.done p 0 ≡ events_seen (slice_get b.cells p)
  done_seen = ap (λ l. slice_index_or l p 0) laid.done ∙ events_at b.cells p

  pub done_listed : p < length (network_of b.network).instances → p < length b.done
  done_listed l = let n = ap length laid.done ∙ length-map b.cells cell_events ∙ laid.count in omega (arith, l, n)

  pub total_acted : (b' : Seats) (z : Pause) (a : HasActed b b' p z) → events_total b'.done + a.old.events ≡ events_total b.done + a.new.events
  total_acted b' z a =
      let l = within b.cells p a.old a.was in
      let n = ap length laid.done ∙ length-map b.cells cell_events in
      omega (arith, ap events_total a.done, total_set b.done p a.new.events (omega (arith, l, n)), done_at a.old a.was)

-- the pause after an event, or none
pub paused_at : (b b' : Seats) (p : ℕ) (z : Pause) → HaveSeats b → HasActed b b' p z → IsPausedAt b' p z
paused_at b b' p z laid a =
    (a.new, subst (λ l. slice_get l p ≡ Some a.new) (sym a.cells) (set_here b.cells p a.new (within b.cells p a.old a.was)), a.paused)

-- its events are counted: one, or none
module _ (b b' : Seats) (laid : HaveSeats b) (p : ℕ) (z : Pause) (a : HasActed b b' p z) (m n : ℕ) (was : m ≡ events_seen (slice_get b.cells p))
    (is : n ≡ events_seen (slice_get b'.cells p)) where
  was_old : m ≡ a.old.events
  was_old = was ∙ ap events_seen a.was

  is_new : n ≡ a.new.events
  unfolding paused_at
  is_new = is ∙ ap events_seen (paused_at b b' p z laid a).1

  pub acted_one : m < n → events_total b'.done ≡ events_total b.done + 1
  acted_one l = let few = a.events.1 in omega (arith, total_acted b laid p b' z a, was_old, is_new, few, l)

  pub acted_none : n ≤ m → (k : ℕ) → k ≡ 0 → events_total b'.done ≡ events_total b.done + k
  acted_none l k e = let more = a.events.0 in omega (arith, total_acted b laid p b' z a, was_old, is_new, more, l, e)

  pub not_spent : n ≤ m → z ≡ pause.Spent → ⊥
  not_spent l e = omega (arith, a.spent e, was_old, is_new, l)

-- ---- how much was sent

pub same_writer : {p r : ℕ} → Written p ≡ Written r → p ≡ r
same_writer e = cc

module _ {b n : Seats} (is : b ≡ n) (laid : HaveSeats b) (c : ℕ) (s : Side) (writer : IsWriter (network_of b.network) c s) {x : CellView} (value : x ≡ slice_index_or b.cells s.instance x) where
  cell_at : slice_get b.cells s.instance ≡ Some x
  cell_at = found refl laid s.instance writer.0.0 value

  pub parameter_there : AreCounts x → s.parameter < length x.sent
  parameter_there counts =
      let seat = laid.each s.instance x cell_at in
      let e : length (instance_at (network_of x.network) x.instance).actuals ≡ length (instance_at (network_of b.network) s.instance).actuals =
      ap (λ t. length (instance_at (network_of t) x.instance).actuals) seat.network ∙ ap (λ i. length (instance_at (network_of b.network) i).actuals) seat.instance in
      omega (arith, counts.sent_size, e, writer.0.1)

  sent_here : channel_source (network_of b.network) c ≡ Written s.instance → HasSentSoMany b (Channel c) (count x.sent s.parameter)
  sent_here source_is p src x' at stood =
      let same : s.instance ≡ p = same_writer (sym source_is ∙ src) in
      let e : x ≡ x' = same_Some x x' (sym cell_at ∙ subst (λ i. slice_get b.cells i ≡ Some x') (sym same) at) in
      stood.gave s.parameter c (subst (λ i. actual_at (instance_at (network_of b.network) i) s.parameter ≡ Writes c) same writer.1) ∙ ap (λ (y : CellView). count y.sent s.parameter) (sym e)

  pub sent_there : channel_source (network_of b.network) c ≡ Written s.instance → HasSentSoMany n (Channel c) (count x.sent s.parameter)
  sent_there source_is = subst (λ (y : Seats). HasSentSoMany y (Channel c) (count x.sent s.parameter)) is (sent_here source_is)

-- ---- what is counted

pub taken_listed : {b n : Seats} → b ≡ n → HaveSeats b → (d : ℕ) → d < length (network_of n.network).channels → d < length b.taken
taken_listed {b} is laid d l =
    subst (λ k. d < k) (sym (laid.tally.size ∙ ap (λ t. length (network_of t).channels) laid.network ∙ ap (λ (y : Seats). length (network_of y.network).channels) is)) l
