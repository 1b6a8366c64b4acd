-- Cells that stand where their queues stand.
use Rattle.kahn_needs.proofs.Common.{arith, ◌≡◌, ℕ, zero, ◌+◌, ◌<◌, ◌≤◌, List, [], ◌∷◌, ◌++◌, length, replicate, refl, sym, ap, ◌∙◌, subst, Option, Some, slice_get, slice_set, slice_index_or, length-set, slice_get_read, writes, is_output, Lists, inputs_of, Store, Schema, Writes, actual_at, instance_at, network_of, role_at, play_zero, ScriptOutcome, empty, Line, Token, Inputs, values_at, goes_to, Program, Channel, Print, script_at, kept_none, one_first, given_zero, set_each, taken_zero, AreKeptTokens, StoodBy, View, exec_on, sent_on, AreFirst, Lines, actual_here, next_at, place_at, queue_of, waiting_of, IsAt, IsPause, Paused, CellView, site_of, told_view, LeavesOthers, Site, count, Pause, AreUnmoved, HasActed, IsTally, IsUnmoved, HaveSeats, HasItsSeat, IsStopped, Seats, Tallied, cell_events, events_seen, map, map-set, seats_of, suc}
use Rattle.kahn_streams.proofs.{Entered.none_of, Dry.dry_reads}
use Rattle.kahn_streams.specs.Wiring.{IsWellWired}
use Rattle.kahn_code.specs.declared.progress.Pause.TheVariants as pause
use Rattle.kahn_code.specs.Progress as code

-- ---- a cell at its opening

-- what is said of a cell that has done nothing is true
pub stood_first : (N : Schema) (I : Inputs) (watch : Option ℕ) (p : ℕ) (x : View) → x.events ≡ 0 → ((q : ℕ) → x.taken q ≡ 0) → ((q : ℕ) → x.sent q ≡ 0) →
    ((q : ℕ) → x.kept q ≡ []) → x.printed ≡ [] → StoodBy N I watch p x
stood_first N I watch p x e taken sent kept printed = record {
  tapes = empty;
  does = subst (λ n. (exec_on N n p empty).events ≡ n) (sym e) (ap (λ r. r.events) (play_zero (script_at N 0 p)));
  all = subst (λ n. (exec_on N n p empty).left ≡ empty) (sym e) (ap (λ r. r.left) (play_zero (script_at N 0 p)));
  stand = λ q d r k w h. absurd cc;
  took = λ q. sym (taken q);
  none = λ q n. refl;
  gave = λ q d r. ap length (nothing (Channel d)) ∙ sym (sent q);
  kept = λ q d r s. kept_by (Channel d) (x.kept q) (kept q);
  bare = λ q n. kept q;
  printed = kept_by (Print p) x.printed printed;
}
  where
    nothing : (c : Line) → sent_on N x.events p empty c ≡ []
    nothing c = subst (λ n. sent_on N n p empty c ≡ []) (sym e) (ap (λ r. values_at (goes_to N p c) r.sent) (play_zero (script_at N 0 p)))

    kept_by : (c : Line) (ts : List Token) → ts ≡ [] → AreKeptTokens N I c (sent_on N x.events p empty c) ts
    kept_by c ts f = subst (λ l. AreKeptTokens N I c l ts) (sym (nothing c)) (subst (AreKeptTokens N I c []) (sym f) (kept_none N I c))

-- the cell of the next instance
pub fresh_more : (t : Program) (lists : Lists) (watch : Option ℕ) (cells all : List CellView) (n : ℕ) (x : CellView) → AreUnmoved t lists watch cells n →
    IsUnmoved t lists watch n x → all ≡ cells ++ x ∷ [] → AreUnmoved t lists watch all (n + 1)
fresh_more t lists watch cells all n x h f is =
    let r = one_first (IsUnmoved t lists watch) cells all x n (record { count = h.count; each = h.each }) is f in
    record { count = r.count; each = r.each }

pub fresh_one : (t : Program) (lists : Lists) (watch : Option ℕ) (n k : ℕ) (x : CellView) → (x.network ≡ t) × (x.input ≡ lists) × (x.instance ≡ n) × (x.watch ≡ watch) →
    (x.events ≡ 0) × (x.printed ≡ []) → (x.taken ≡ replicate k 0) × (x.sent ≡ replicate k 0) × (x.kept ≡ replicate k []) → IsUnmoved t lists watch n x
fresh_one t lists watch n k x names none lists' = record {
  network = names.0;
  input = names.1;
  instance = names.2;
  watched = names.3;
  events = none.0;
  taken = taken;
  sent = sent;
  stood = stood_first (network_of t) (inputs_of lists) watch n (told_view x) none.0 taken sent (λ q. ap (λ l. slice_index_or l q []) lists'.2 ∙ none_of k q []) none.1;
}
  where
    taken : (q : ℕ) → count x.taken q ≡ 0
    taken q = ap (λ l. count l q) lists'.0 ∙ none_of k q 0

    sent : (q : ℕ) → count x.sent q ≡ 0
    sent q = ap (λ l. count l q) lists'.1 ∙ none_of k q 0

-- they have done no events
unmoved_events : (cells : List CellView) → ((p : ℕ) (x : CellView) → slice_get cells p ≡ Some x → x.events ≡ 0) → map cell_events cells ≡ replicate (length cells) 0
unmoved_events [] h = refl
unmoved_events (x ∷ cells) h = λ i. h 0 x refl i ∷ unmoved_events cells (λ p y at. h (suc p) y at) i

-- cells at their openings over queues from which nothing was taken
pub laid_first : (t code : Program) (lists : Lists) (watch : Option ℕ) (cells : List CellView) (ports : Tallied) (done : List ℕ) → IsWellWired t → code ≡ t →
    AreUnmoved t lists watch cells (length (network_of t).instances) → (ports.lines.network ≡ t) × (ports.lines.input ≡ lists) → AreFirst t lists ports.lines.queues →
    IsTally ports.lines ports.taken → done ≡ replicate (length (network_of t).instances) 0 → HaveSeats (seats_of t lists watch code cells ports done)
laid_first t code lists watch cells ports done wired same fresh names first tally idle = record {
  wired = wired;
  code = same;
  count = fresh.count;
  each = each;
  network = names.0;
  input = names.1;
  tally = tally;
  done = idle ∙ ap (λ n. replicate n 0) (sym fresh.count) ∙ sym (unmoved_events cells (λ p x at. (fresh.each p x at).events));
}
  where
    each : (p : ℕ) (x : CellView) → slice_get cells p ≡ Some x → HasItsSeat (seats_of t lists watch code cells ports done) p x
    each p x at =
        let o : IsUnmoved t lists watch p x = fresh.each p x at in
        record {
          network = o.network;
          input = o.input;
          instance = o.instance;
          watch = o.watched;
          at = stands o;
          stood = o.stood;
        }
      where
        own : IsUnmoved t lists watch p x → (r : ℕ) → actual_at (instance_at (network_of ports.lines.network) p) r ≡ actual_at (instance_at (network_of x.network) x.instance) r
        own o r =
            ap (λ k. actual_at (instance_at (network_of k) p) r) (names.0 ∙ sym o.network) ∙
            ap (λ k. actual_at (instance_at (network_of x.network) k) r) (sym o.instance)

        stands : IsUnmoved t lists watch p x → IsAt x (place_at ports.lines p)
        stands o = record {
          reads = λ r d e. ap (next_at ports.lines.queues) (own o r ∙ e) ∙ taken_zero t lists ports.lines.queues first d _ refl ∙ sym (o.taken r);
          writes = λ r d e inner.
              let here : actual_at (instance_at (network_of t) p) r ≡ Writes d =
              ap (λ k. actual_at (instance_at (network_of k) p) r) (sym names.0) ∙ own o r ∙ e in
              ap (next_at ports.lines.queues) (own o r ∙ e) ∙
              given_zero t lists ports.lines.queues first d _ (ap (λ k. is_output (role_at (network_of k) d)) (sym o.network) ∙ inner) (writes t wired p r d here).1 refl ∙
              sym (o.sent r);
        }

-- the events that are counted are those of the cells
pub events_at : (cells : List CellView) (p : ℕ) → count (map cell_events cells) p ≡ events_seen (slice_get cells p)
events_at [] p = refl
events_at (x ∷ cells) zero = refl
events_at (x ∷ cells) (suc p) = events_at cells p

-- ---- a cell runs

-- the same program, input, instance and watched channel
abbrev pub IsSame : CellView → CellView → Type 0
IsSame old new = (new.network ≡ old.network) × (new.input ≡ old.input) × (new.instance ≡ old.instance) × (new.watch ≡ old.watch)

abbrev pub ran : Seats → ℕ → CellView → Tallied → ℕ → Seats
ran b p x q n = record {
  network = b.network;
  input = b.input;
  watch = b.watch;
  code = b.code;
  cells = slice_set b.cells p x;
  queues = q.lines;
  taken = q.taken;
  done = slice_set b.done p n;
}

-- the queues as the ports of instance p
abbrev pub ports_of : Lines → Site
ports_of q = record { network = q.network; input = q.input; instance = q.instance }

pub found : {b n : Seats} → b ≡ n → HaveSeats b → (p : ℕ) {x : CellView} → p < length (network_of n.network).instances → x ≡ slice_index_or b.cells p x → slice_get b.cells p ≡ Some x
found {b} is laid p {x} l =
    slice_get_read b.cells (length b.cells) p x refl (subst (λ k. p < k) (sym (laid.count ∙ ap (λ (y : Seats). length (network_of y.network).instances) is)) l)

module _ {b : Seats} (laid : HaveSeats b) (p : ℕ) {x : CellView} (at : slice_get b.cells p ≡ Some x) where
  abbrev lent : Lines
  lent = record { network = b.queues.network; input = b.queues.input; instance = p; queues = b.queues.queues }

  seated : HasItsSeat b p x
  seated = laid.each p x at

  pub code_is : b.code ≡ x.network
  code_is = laid.code ∙ sym seated.network

  pub ports_are : (q : Lines) → q ≡ lent → ports_of q ≡ site_of x
  ports_are q is =
      ap ports_of is ∙
      (λ i. record { network = (laid.network ∙ sym seated.network) i; input = (laid.input ∙ sym seated.input) i; instance = sym seated.instance i })

  pub at_is : (q : Lines) → q ≡ lent → IsAt x (λ r. next_at q.queues (actual_here q r))
  at_is q is = subst (λ (z : Lines). IsAt x (λ r. next_at z.queues (actual_here z r))) (sym is) seated.at

  module _ (x' : CellView) (n : ℕ) (counted : n ≡ x'.events) (q : Lines) (t : Tallied) (is : q ≡ lent) (same : IsSame x x') (site : ports_of t.lines ≡ site_of x')
      (stands : IsAt x' (λ r. next_at t.lines.queues (actual_here t.lines r))) (leaves : LeavesOthers (ports_of q) (place_at q) (place_at t.lines)) (tally : IsTally t.lines t.taken)
      (quantum : ℕ) (z : Pause)
      (paused : code.Paused (network_of x'.network) (inputs_of x'.input) x'.watch x'.instance (told_view x')
      (IsPause (network_of x'.network) x'.instance
      (λ r. waiting_of (queue_of t.lines.queues (actual_here t.lines r)) ≡ 0)
      (λ r. 0 < waiting_of (queue_of t.lines.queues (actual_here t.lines r)))
      (x'.events ≡ x.events + quantum) z)) where
    abbrev now : Seats
    now = ran b p x' t n

    abbrev dry : ℕ → Type 0
    dry r = waiting_of (queue_of t.lines.queues (actual_here t.lines r)) ≡ 0

    abbrev ready : ℕ → Type 0
    ready r = 0 < waiting_of (queue_of t.lines.queues (actual_here t.lines r))

    network_is : x'.network ≡ b.network
    network_is = same.0 ∙ seated.network

    input_is : x'.input ≡ b.input
    input_is = same.1 ∙ seated.input

    instance_is : x'.instance ≡ p
    instance_is = same.2 ∙ seated.instance

    watch_is : x'.watch ≡ b.watch
    watch_is = same.3 ∙ seated.watch

    paused_here : code.Paused (network_of b.network) (inputs_of b.input) b.watch p (told_view x')
        (IsPause (network_of b.network) p dry ready (x'.events ≡ x.events + quantum) z)
    paused_here =
        subst (λ (k : Program × Lists × Option ℕ × ℕ). code.Paused (network_of k.0) (inputs_of k.1) k.2 k.3 (told_view x') (IsPause (network_of k.0) k.3 dry ready (x'.events ≡ x.events + quantum) z))
        (λ i. (network_is i, input_is i, watch_is i, instance_is i)) paused

    mine : HasItsSeat now p x'
    mine = record {
      network = network_is;
      input = input_is;
      instance = instance_is;
      watch = watch_is;
      at = subst (λ i. IsAt x' (λ r. next_at t.lines.queues (actual_at (instance_at (network_of t.lines.network) i) r))) (ap (λ (s : Site). s.instance) site ∙ instance_is) stands;
      stood = paused_here.stood;
    }

    leaves_here : LeavesOthers (record { network = b.queues.network; input = b.queues.input; instance = p }) (place_at b.queues) (place_at t.lines)
    leaves_here = subst (λ (y : Lines). LeavesOthers (ports_of y) (place_at y) (place_at t.lines)) is leaves

    others : (o : ℕ) (d : CellView) → (o ≡ p → ⊥) → slice_get b.cells o ≡ Some d → HasItsSeat now o d
    others o d n e =
        let s : HasItsSeat b o d = laid.each o d e in
        record {
          network = s.network;
          input = s.input;
          instance = s.instance;
          watch = s.watch;
          at = record {
            reads = λ r k h. leaves_here o r n ∙ s.at.reads r k h;
            writes = λ r k h inner. leaves_here o r n ∙ s.at.writes r k h inner;
          };
          stood = s.stood;
        }

    pub laid_now : HaveSeats now
    laid_now = record {
      wired = laid.wired;
      code = laid.code;
      count = length-set b.cells p x' ∙ laid.count;
      each = set_each (HasItsSeat now) b.cells p x' others mine;
      network = ap (λ (s : Site). s.network) site ∙ network_is;
      input = ap (λ (s : Site). s.input) site ∙ input_is;
      tally = tally;
      done = ap (λ l. slice_set l p n) laid.done ∙ ap (λ k. slice_set (map cell_events b.cells) p k) counted ∙ sym (map-set cell_events b.cells p x');
    }

    own_actual : (r : ℕ) → actual_here t.lines r ≡ actual_at (instance_at (network_of b.network) p) r
    own_actual r =
        ap (λ (s : Site). actual_at (instance_at (network_of s.network) s.instance) r) site ∙
        ap (λ t. actual_at (instance_at (network_of t) x'.instance) r) network_is ∙
        ap (λ i. actual_at (instance_at (network_of b.network) i) r) instance_is

    abbrev o : ScriptOutcome Store
    o = (exec_on (network_of b.network) x'.events p paused_here.stood.tapes).outcome

    is_stopped : (z : Pause) → IsPause (network_of b.network) p dry ready (x'.events ≡ x.events + quantum) z o → IsStopped now p z o
    is_stopped pause.Spent h = tt
    is_stopped pause.NoMemory h = tt
    is_stopped (pause.Dry r) h =
        let d = dry_reads b.network laid.wired x'.events p r paused_here.stood.tapes h.0 in
        (d.0, d.1, h.0, subst (λ a. waiting_of (queue_of t.lines.queues a) ≡ 0) (own_actual r ∙ d.1) (h.1 d.0 d.1))
    is_stopped z h = h

    pub acted : (x.events ≤ x'.events) × (x'.events ≤ x.events + quantum) → quantum ≡ 1 → HasActed b now p z
    acted events one = record {
      same = (refl, refl, refl);
      old = x;
      was = at;
      new = x';
      cells = refl;
      done = ap (slice_set b.done p) counted;
      events = let a = events.0 in let c = events.1 in (a, omega (arith, c, one));
      spent = λ e. (subst (λ z. IsPause (network_of b.network) p dry ready (x'.events ≡ x.events + quantum) z o) e paused_here.is).0 ∙ ap (λ n. x.events + n) one;
      paused = record { stood = paused_here.stood; is = is_stopped z paused_here.is };
    }
