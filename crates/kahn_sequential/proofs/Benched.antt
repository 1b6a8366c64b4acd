-- Cells that stand where their queues stand.
use Rattle.std.proofs.Common.{length-set}
use Rattle.kahn_sequential.proofs.Common.{Option, arith, ◌≡◌, inl, inr, ℕ, ◌+◌, ◌<◌, ◌≤◌, List, length, map, refl, sym, ap, ◌∙◌, subst, Some, slice_get, slice_set, slice_index_or, false, ◌⊎◌, Program, Lists, map-set_same, map-set, get_or_from_slice_get, slice_get_read, Schema, Reads, Writes, network_of, instance_at, actual_at, role_at, IsFed, reads, reads_listed, Channel, Inputs, source, inputs_of, View, exec_on, is_output, AreQueued, queue_of, actual_here, place_at, next_at, taken_of, given_of, waiting_of, Waiting, Site, LeavesOthers, count, CellView, told_view, site_of, IsAt, IsStill, set_each, set_here, joins_within, IsGiven, TookNoMore, TookAll, view_at, no_view, RunState, PausedAt, Value, Table, IsLaid, IsSeated, sight_of, Pause, IsPause, dry_reads, Store, IsPaused, Cut, Dry, HasRunCell, length-map, ScriptOutcome, Lines as Queues}
pub use Rattle.kahn_streams.proofs.By_number.{there as got, within as within_get, mapped as get_map}
use Rattle.kahn_code.specs.declared.progress.Pause.TheVariants as pause
use Rattle.kahn_code.specs.Progress as code

-- ---- lists

pub mapped : {X Y : Type 0} (f : X → Y) (xs : List X) (i : ℕ) (x : X) (d : Y) → slice_get xs i ≡ Some x → slice_index_or (map f xs) i d ≡ f x
mapped f xs i x d e = get_or_from_slice_get (map f xs) i (f x) d (get_map f xs i x e)

-- ---- a cell that is seated

module _ (b : Table) (laid : IsLaid b) where
  abbrev N : Schema
  N = network_of b.network

  abbrev I : Inputs
  I = inputs_of b.input

  abbrev views : List View
  views = map told_view b.cells

  pub seated_at : (p : ℕ) → p < length N.instances → (c : CellView) × (slice_get b.cells p ≡ Some c) × IsSeated b p c
  seated_at p l =
      let g = got b.cells p (subst (λ n. p < n) (sym laid.count) l) in
      (g.0, g.1, laid.each p g.0 g.1)

  pub viewed : (p : ℕ) (c : CellView) → slice_get b.cells p ≡ Some c → view_at views p ≡ told_view c
  viewed p c e = mapped told_view b.cells p c no_view e

  pub actual_same : (p q : ℕ) (c : CellView) → IsSeated b p c → actual_at (instance_at (network_of c.network) c.instance) q ≡ actual_at (instance_at N p) q
  actual_same p q c s =
      ap (λ t. actual_at (instance_at (network_of t) c.instance) q) s.network ∙ ap (λ i. actual_at (instance_at N i) q) s.instance

  place_same : (p q : ℕ) → place_at b.queues p q ≡ next_at b.queues.queues (actual_at (instance_at N p) q)
  place_same p q = ap (λ t. next_at b.queues.queues (actual_at (instance_at (network_of t) p) q)) laid.network

  pub taken_there : (p q d : ℕ) (c : CellView) → IsSeated b p c → actual_at (instance_at N p) q ≡ Reads d →
      taken_of (slice_get b.queues.queues d) ≡ count c.taken q
  taken_there p q d c s e =
      sym (ap (next_at b.queues.queues) e) ∙ sym (place_same p q) ∙ s.at.reads q d (actual_same p q c s ∙ e)

  pub sent_there : (p q d : ℕ) (c : CellView) → IsSeated b p c → actual_at (instance_at N p) q ≡ Writes d → is_output (role_at N d) ≡ false →
      given_of (slice_get b.queues.queues d) ≡ count c.sent q
  sent_there p q d c s e inner =
      sym (ap (next_at b.queues.queues) e) ∙ sym (place_same p q) ∙
      s.at.writes q d (actual_same p q c s ∙ e) (ap (λ t. is_output (role_at (network_of t) d)) s.network ∙ inner)

  -- ---- what was given and what was taken

  module _ (counted : AreQueued b.queues) where
    queue_at : (p q d : ℕ) → actual_at (instance_at N p) q ≡ Reads d → (w : Waiting) × (slice_get b.queues.queues d ≡ Some w)
    queue_at p q d e =
        let same = laid.network in
        let l = reads_listed b.network laid.wired p q d e in
        got b.queues.queues d (subst (λ n. d < n) (sym (counted.count ∙ ap (λ t. length (network_of t).channels) same)) l)

    put_there : (d : ℕ) (w : Waiting) → slice_get b.queues.queues d ≡ Some w → IsFed N d → IsGiven N I views d (source N (Channel d)) (w.taken + w.waiting)
    put_there d w at (inl s) =
        let role = ap (λ t. role_at (network_of t) d) laid.network ∙ s.1 in
        subst (λ k. IsGiven N I views d k (w.taken + w.waiting)) (sym s.0)
        (sym ((counted.each d w at).given role ∙ ap (λ (l : List (List Value)). length (inputs_of l d)) laid.input))
    put_there d w at (inr s) =
        let c = seated_at s.0 (joins_within N s.0 s.1 d (rw s.3 refl)) in
        let sum = sym (sent_there s.0 s.1 d c.0 c.2 s.3 (ap is_output s.4)) ∙ ap given_of at in
        subst (λ k. IsGiven N I views d k (w.taken + w.waiting)) (sym s.2)
        (s.1, s.3, ap (λ v. v.sent s.1) (viewed s.0 c.0 c.1) ∙ sum)

    pub given_there : (p q d : ℕ) → actual_at (instance_at N p) q ≡ Reads d →
        (w : Waiting) × (slice_get b.queues.queues d ≡ Some w) × IsGiven N I views d (source N (Channel d)) (w.taken + w.waiting) ×
        ((view_at views p).taken q ≡ w.taken)
    given_there p q d e =
        let w = queue_at p q d e in
        let c = seated_at p (joins_within N p q d (rw e refl)) in (
          w.0,
          w.1,
          put_there d w.0 w.1 (reads b.network laid.wired p q d e),
          ap (λ v. v.taken q) (viewed p c.0 c.1) ∙ sym (taken_there p q d c.0 c.2 e) ∙ ap taken_of w.1,
        )

    pub within : TookNoMore N I views
    within p q d e =
        let g = given_there p q d e in
        (g.0.taken + g.0.waiting, g.2, omega (arith, g.3))

    -- where none waits all was taken
    pub took_all : (p q d : ℕ) → actual_at (instance_at N p) q ≡ Reads d → waiting_of (slice_get b.queues.queues d) ≡ 0 → TookAll N I views p q d
    took_all p q d e none =
        let g = given_there p q d e in
        let sum : g.0.taken + g.0.waiting ≡ (view_at views p).taken q = omega (arith, g.3, sym (ap waiting_of g.1) ∙ none) in
        subst (λ n. IsGiven N I views d (source N (Channel d)) n) sum g.2

    pub left_some : (p q d : ℕ) → actual_at (instance_at N p) q ≡ Reads d → 0 < waiting_of (slice_get b.queues.queues d) →
        (n : ℕ) × IsGiven N I views d (source N (Channel d)) n × ((view_at views p).taken q < n)
    left_some p q d e some =
        let g = given_there p q d e in
        (g.0.taken + g.0.waiting, g.2, omega (arith, g.3, ap waiting_of g.1, some))

-- ---- a cell runs

-- the same program, input, instance and watched channel
abbrev pub IsSame : CellView → CellView → Type 0
IsSame old new = (new.network ≡ old.network) × (new.input ≡ old.input) × (new.instance ≡ old.instance) × (new.watch ≡ old.watch)

abbrev pub ran : Table → ℕ → CellView → Queues → Table
ran b p c q = record { network = b.network; input = b.input; watch = b.watch; code = b.code; cells = slice_set b.cells p c; gone = b.gone; queues = q }

-- the queues as the ports of instance p
abbrev pub ports_of : Queues → Site
ports_of q = record { network = q.network; input = q.input; instance = q.instance }

pub laid_after : (b : Table) → IsLaid b → (p : ℕ) (c c' : CellView) (q : Queues) → slice_get b.cells p ≡ Some c → IsSame c c' →
    ports_of q ≡ site_of c' → IsAt c' (λ r. next_at q.queues (actual_at (instance_at (network_of q.network) q.instance) r)) →
    LeavesOthers (record { network = b.queues.network; input = b.queues.input; instance = p }) (place_at b.queues) (place_at q) → IsLaid (ran b p c' q)
laid_after b laid p c c' q at same site stands leaves = record {
  wired = laid.wired;
  code = laid.code;
  count = length-set b.cells p c' ∙ laid.count;
  each = set_each (IsSeated (ran b p c' q)) b.cells p c' others mine;
  network = ap (λ (s : Site). s.network) site ∙ same.0 ∙ old.network;
  input = ap (λ (s : Site). s.input) site ∙ same.1 ∙ old.input;
}
  where
    old : IsSeated b p c
    old = laid.each p c at

    is : q.instance ≡ p
    is = ap (λ (s : Site). s.instance) site ∙ same.2 ∙ old.instance

    mine : IsSeated (ran b p c' q) p c'
    mine = record {
      network = same.0 ∙ old.network;
      input = same.1 ∙ old.input;
      instance = same.2 ∙ old.instance;
      watch = same.3 ∙ old.watch;
      at = subst (λ i. IsAt c' (λ r. next_at q.queues (actual_at (instance_at (network_of q.network) i) r))) is stands;
    }

    others : (o : ℕ) (d : CellView) → (o ≡ p → ⊥) → slice_get b.cells o ≡ Some d → IsSeated (ran b p c' q) o d
    others o d n e =
        let s : IsSeated b o d = laid.each o d e in
        record {
          network = s.network;
          input = s.input;
          instance = s.instance;
          watch = s.watch;
          at = record {
            reads = λ r k h. leaves o r n ∙ s.at.reads r k h;
            writes = λ r k h inner. leaves o r n ∙ s.at.writes r k h inner;
          };
        }

-- ---- what rounds see of it

pub views_after : (b : Table) (p : ℕ) (c c' : CellView) (q : Queues) → slice_get b.cells p ≡ Some c →
    (sight_of (ran b p c' q)).cells ≡ slice_set (sight_of b).cells p (view_at (sight_of (ran b p c' q)).cells p)
views_after b p c c' q at =
    map-set told_view b.cells p c' ∙
    ap (slice_set (map told_view b.cells) p)
    (sym (mapped told_view (slice_set b.cells p c') p c' no_view (set_here b.cells p c' (within_get b.cells p c at))))

pub view_after : (b : Table) (p : ℕ) (c c' : CellView) (q : Queues) → slice_get b.cells p ≡ Some c →
    view_at (sight_of (ran b p c' q)).cells p ≡ told_view c'
view_after b p c c' q at = mapped told_view (slice_set b.cells p c') p c' no_view (set_here b.cells p c' (within_get b.cells p c at))

pub still_after : (b : Table) (p : ℕ) (c c' : CellView) (q : Queues) → slice_get b.cells p ≡ Some c → c'.events ≡ c.events → IsStill c c' →
    sight_of (ran b p c' q) ≡ sight_of b
still_after b p c c' q at e s =
    ap (λ l. let r : RunState = record { network = network_of b.network; input = inputs_of b.input; watch = b.watch; cells = l } in r)
    (map-set_same told_view b.cells p c' c (let same : told_view c' ≡ told_view c = cc in same ∙ ap told_view (sym (get_or_from_slice_get b.cells p c c at))))

-- ---- what is handed to a parameter

pub same_actual : {b n : Table} → b ≡ n → IsLaid b → (p q : ℕ) → actual_at (instance_at (network_of b.code) p) q ≡ actual_at (instance_at (network_of n.network) p) q
same_actual is laid p q = ap (λ t. actual_at (instance_at (network_of t) p) q) (laid.code ∙ ap (λ (x : Table). x.network) is)

-- ---- one run of a cell

pub found : {b n : Table} → b ≡ n → IsLaid b → (p : ℕ) {c : CellView} → p < length (network_of n.network).instances → c ≡ slice_index_or b.cells p c → slice_get b.cells p ≡ Some c
found {b} is laid p {c} l =
    slice_get_read b.cells (length b.cells) p c refl (subst (λ k. p < k) (sym (laid.count ∙ ap (λ (x : Table). length (network_of x.network).instances) is)) l)

module _ {b : Table} (laid : IsLaid b) (p : ℕ) {c : CellView} (at : slice_get b.cells p ≡ Some c) where
  abbrev lent : Queues
  lent = record { network = b.queues.network; input = b.queues.input; instance = p; queues = b.queues.queues }

  seated : IsSeated b p c
  seated = laid.each p c at

  pub code_is : b.code ≡ c.network
  code_is = laid.code ∙ sym seated.network

  pub ports_are : (q : Queues) → q ≡ lent → ports_of q ≡ site_of c
  ports_are q is =
      ap ports_of is ∙
      (λ i. record { network = (laid.network ∙ sym seated.network) i; input = (laid.input ∙ sym seated.input) i; instance = sym seated.instance i })

  pub at_is : (q : Queues) → q ≡ lent → IsAt c (λ r. next_at q.queues (actual_here q r))
  at_is q is = subst (λ (x : Queues). IsAt c (λ r. next_at x.queues (actual_here x r))) (sym is) seated.at

  module _ (c' : CellView) (q q' : Queues) (is : q ≡ lent) (same : IsSame c c') (site : ports_of q' ≡ site_of c')
      (stands : IsAt c' (λ r. next_at q'.queues (actual_here q' r))) (leaves : LeavesOthers (ports_of q) (place_at q) (place_at q')) where
    pub laid_now : IsLaid (ran b p c' q')
    laid_now = laid_after b laid p c c' q' at same site stands (subst (λ (x : Queues). LeavesOthers (ports_of x) (place_at x) (place_at q')) is leaves)

    mine : IsSeated (ran b p c' q') p c'
    mine = laid_now.each p c' (set_here b.cells p c' (within_get b.cells p c at))

    own_actual : (r : ℕ) → actual_here q' r ≡ actual_at (instance_at (network_of b.network) p) r
    own_actual r =
        ap (λ (s : Site). actual_at (instance_at (network_of s.network) s.instance) r) site ∙
        ap (λ t. actual_at (instance_at (network_of t) c'.instance) r) mine.network ∙
        ap (λ i. actual_at (instance_at (network_of b.network) i) r) mine.instance

    before : (view_at (sight_of b).cells p).events ≡ c.events
    before = ap (λ v. v.events) (viewed b laid p c at)

    after : (view_at (sight_of (ran b p c' q')).cells p).events ≡ c'.events
    after = ap (λ v. v.events) (view_after b p c c' q' at)

    module _ (counted : AreQueued q') (quantum : ℕ) (z : Pause)
        (paused : code.Paused (network_of c'.network) (inputs_of c'.input) c'.watch c'.instance (told_view c')
        (IsPause (network_of c'.network) c'.instance
        (λ r. waiting_of (queue_of q'.queues (actual_here q' r)) ≡ 0)
        (λ r. 0 < waiting_of (queue_of q'.queues (actual_here q' r)))
        (c'.events ≡ c.events + quantum) z)) where
      abbrev now : RunState
      now = sight_of (ran b p c' q')

      abbrev dry : ℕ → Type 0
      dry r = waiting_of (queue_of q'.queues (actual_here q' r)) ≡ 0

      abbrev ready : ℕ → Type 0
      ready r = 0 < waiting_of (queue_of q'.queues (actual_here q' r))

      paused_here : code.Paused (network_of b.network) (inputs_of b.input) b.watch p (told_view c')
          (IsPause (network_of b.network) p dry ready (c'.events ≡ c.events + quantum) z)
      paused_here =
          subst (λ (k : Program × Lists × Option ℕ × ℕ). code.Paused (network_of k.0) (inputs_of k.1) k.2 k.3 (told_view c') (IsPause (network_of k.0) k.3 dry ready (c'.events ≡ c.events + quantum) z))
          (λ i. (mine.network i, mine.input i, mine.watch i, mine.instance i)) paused

      abbrev o : ScriptOutcome Store
      o = (exec_on (network_of b.network) c'.events p paused_here.stood.tapes).outcome

      -- what a pause says by the queues it says by what was given and taken
      is_paused : (z : Pause) → IsPause (network_of b.network) p dry ready (c'.events ≡ c.events + quantum) z o → IsPaused now p z o
      is_paused (pause.Dry q) h =
          let r = dry_reads b.network laid.wired c'.events p q paused_here.stood.tapes h.0 in
          let none = subst (λ a. waiting_of (queue_of q'.queues a) ≡ 0) (own_actual q ∙ r.1) (h.1 r.0 r.1) in
          (r.0, r.1, h.0, took_all (ran b p c' q') laid_now counted p q r.0 r.1 none)
      is_paused pause.NoMemory h = h.0
      is_paused pause.Spent h = by h.1
        where
          by : (o ≡ Cut) ⊎ ((r d : ℕ) × (actual_at (instance_at (network_of b.network) p) r ≡ Reads d) × (o ≡ Dry r) × ready r) → IsPaused now p pause.Spent o
          by (inl cut) = inl cut
          by (inr (r, d, e, dry, h)) =
              let g = left_some (ran b p c' q') laid_now counted p r d e (subst (λ a. 0 < waiting_of (queue_of q'.queues a)) (own_actual r ∙ e) h) in
              inr (r, d, g.0, e, dry, g.1, g.2)
      is_paused z h = h

      paused_now : PausedAt now p z
      paused_now =
          subst (λ v. code.Paused (network_of b.network) (inputs_of b.input) b.watch p v (IsPaused now p z)) (sym (view_after b p c c' q' at))
          (record { stood = paused_here.stood; is = is_paused z paused_here.is })

      paused_as : {k : Pause} → z ≡ k → IsPause (network_of b.network) p dry ready (c'.events ≡ c.events + quantum) k o
      paused_as e = subst (λ k. IsPause (network_of b.network) p dry ready (c'.events ≡ c.events + quantum) k o) e paused_here.is

      pub ran_now : (c.events ≤ c'.events) × (c'.events ≤ c.events + quantum) → (c'.events ≡ c.events → IsStill c c') → HasRunCell (sight_of b) now p quantum z
      ran_now events still =
          let x = before in
          let y = after in
          let m = events.1 in
          record {
            same = (refl, refl, refl);
            known = length-map (slice_set b.cells p c') told_view ∙ laid_now.count;
            only = views_after b p c c' q' at;
            events = (omega (arith, x, y, events.0), omega (arith, x, y, m));
            still = λ e. let s = sym after ∙ e ∙ before in still_after b p c c' q' at s (still s);
            paused = paused_now;
            spent = λ e. let s = (paused_as e).0 in omega (arith, s, x, y);
            wanted = λ e. let s = (paused_as e).1 in let n : c'.events < c.events + quantum = omega (arith, m, s) in omega (arith, n, x, y);
          }
