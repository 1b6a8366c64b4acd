-- Jobs on which nobody works: what changes where one of them gets another end, and which may go on.
use Rattle.kahn_job.proofs.Common.{arith, ◌≡◌, ℕ, zero, suc, ◌<◌, ◌≤◌, List, [], ◌∷◌, length, refl, sym, ap, ◌∙◌, subst, slice_set, slice_index_or, slice_get, Some, get_or_past, None, Option, no_end, slice_get_within, none-some, same_Some, Program, AreInputsExtended, Actual, Reads, Writes, Hands, network_of, instance_at, actual_at, idle, IsWellWired, reads_listed, writes_listed, Lists, inputs_of, prefix_refl, prefix_trans, CellView, IsAt, TaskEnd, AreServed, Serves, end_at, end_in, Work, AreIdle, AreJoinedOn, CanGoOn, HaveMet, HaveSettled, IsIdle, IsJob, cells_of, rows_of, ServedBefore, AreResting, HaveStood, IsOfBefore, map-set_same, length-map, map-set, get_or_from_slice_get, slice_get-map, option_map}
use Rattle.std.proofs.lemmas.List.{get_or-map}
use Rattle.kahn_job.proofs.Settles.{AreGoing, all_stayed, all_stayed_then, carried_read, carried_write, rests_met, stood_still}

-- one of them has another end
pub rows_exchanged : (ws : List Work) (p q : ℕ) (e : TaskEnd) (d w : Work) → p < length (rows_of ws) →
    w ≡ record (slice_index_or ws p d) { ends = slice_set (slice_index_or ws p d).ends q e } →
    rows_of (slice_set ws p w) ≡ slice_set (rows_of ws) p (slice_set (slice_index_or (rows_of ws) p []) q e)
rows_exchanged ws p q e d w l i =
    map-set (λ (w : Work). w.ends) ws p w ∙ ap (slice_set (rows_of ws) p) (ap (λ (w : Work). w.ends) i ∙
    ap (λ es. slice_set es q e) (sym (get_or-map (λ (w : Work). w.ends) ws p d [] (subst (λ n. p < n) (length-map ws (λ (w : Work). w.ends)) l))))

-- its ends are a row
pub row_at : (ws : List Work) (p : ℕ) (w : Work) → p < length (rows_of ws) → w ≡ slice_index_or ws p w → w.ends ≡ slice_index_or (rows_of ws) p []
row_at ws p w l i = ap (λ (z : Work). z.ends) i ∙ sym (get_or-map (λ (z : Work). z.ends) ws p w [] (subst (λ n. p < n) (length-map ws (λ (z : Work). z.ends)) l))

pub cells_exchanged : (ws : List Work) (p q : ℕ) (e : TaskEnd) (d w : Work) → w ≡ record (slice_index_or ws p d) { ends = slice_set (slice_index_or ws p d).ends q e } →
    cells_of (slice_set ws p w) ≡ cells_of ws
cells_exchanged ws p q e d w i = map-set_same (λ (w : Work). w.cell) ws p w d (ap (λ (w : Work). w.cell) i)

-- ---- when all have settled

pub all_settled : (t : Program) (wired : IsWellWired t) (lists : Lists) (old new : List (List TaskEnd)) →
    AreGoing t lists (length (network_of t).channels) old new → HaveSettled t lists new
all_settled t wired lists old new g = record {
  served = λ p. record {
    count = g.resting.sizes p;
    each = λ q. serves p q (actual_at (instance_at (network_of t) p) q) refl (g.resting.each p q);
    behind = g.resting.behind p;
  };
  flushed = λ p q d i o. (g.done p q d (carried_write t wired lists new g.resting p q d i o) (writes_listed t wired p q d i)).1;
  joined = g.resting.joined;
}
  where
    serves : (p q : ℕ) (a : Actual) → actual_at (instance_at (network_of t) p) q ≡ a → ServedBefore t lists a (end_in new p q) → Serves t lists a (end_in new p q)
    serves p q (Reads d) i b =
        (b.0, (g.done p q d (carried_read t wired lists new g.resting p q d i) (reads_listed t wired p q d i)).0, b.2)
    serves p q (Writes d) i b = λ o.
        ((b o).0, (g.done p q d (carried_write t wired lists new g.resting p q d i o) (writes_listed t wired p q d i)).0)
    serves p q (Hands v) i b = tt

-- ---- jobs come to rest

before_too : (t : Program) (lists after : Lists) → AreInputsExtended (inputs_of lists) (inputs_of after) → (a : Actual) (e : TaskEnd) → Serves t lists a e → ServedBefore t after a e
before_too t lists after grown (Reads d) e s = (s.0, (lists, s.1, grown), s.2)
before_too t lists after grown (Writes d) e s = λ o. let x = s o in (x.0, (lists, x.1, grown))
before_too t lists after grown (Hands v) e s = tt

pub settled_rest : (t : Program) (lists : Lists) (rows : List (List TaskEnd)) → length rows ≡ length (network_of t).instances → HaveSettled t lists rows → AreResting t lists rows
settled_rest t lists rows count h = record {
  count = count;
  sizes = λ p. (h.served p).count;
  each = λ p q. before_too t lists lists (λ c. prefix_refl (inputs_of lists c)) (actual_at (instance_at (network_of t) p) q) (end_in rows p q) ((h.served p).each q);
  behind = λ p. (h.served p).behind;
  joined = h.joined;
}

-- what is so of the ends of each job, and of none past the last, is so of each row
pub each_row : (ws : List Work) (P : ℕ → List TaskEnd → Type 0) → ((p : ℕ) (w : Work) → slice_get ws p ≡ Some w → P p w.ends) →
    ((p : ℕ) → length ws ≤ p → P p []) → (p : ℕ) → P p (slice_index_or (rows_of ws) p [])
each_row [] P some none p = none p (omega arith)
each_row (w ∷ ws) P some none zero = some zero w refl
each_row (w ∷ ws) P some none (suc p) = each_row ws (λ k. P (suc k)) (λ k. some (suc k)) (λ k l. none (suc k) (omega (arith, l))) p

-- past the last instance nothing is handed over
pub past : (t : Program) (ws : List Work) → length ws ≡ length (network_of t).instances → (p : ℕ) → length ws ≤ p → instance_at (network_of t) p ≡ idle
past t ws n p l = get_or_past (network_of t).instances p idle (omega (arith, n, l))

-- the jobs of all instances, with this input; the two ends of each lane are among them
pub record AreJoinedJobs (t : Program) (lists : Lists) (ws : List Work) : Type 0 where
  pub count : length ws ≡ length (network_of t).instances
  pub each : (p : ℕ) (w : Work) → slice_get ws p ≡ Some w → IsJob w × (w.cell.network ≡ t) × (w.cell.input ≡ lists) × (w.cell.instance ≡ p)
  pub joined : (d : ℕ) → AreJoinedOn (network_of t) (rows_of ws) d

module _ (t : Program) (lists : Lists) (ws : List Work) (h : AreJoinedJobs t lists ws) where
  -- the ends of a job are those of its channels
  job_served : (p : ℕ) (w : Work) → slice_get ws p ≡ Some w → AreServed t lists p w.ends
  job_served p w e =
      let f = h.each p w e in
      subst (λ n. AreServed t lists n w.ends) f.3
      (subst (λ l. AreServed t l w.cell.instance w.ends) f.2
      (subst (λ k. AreServed k w.cell.input w.cell.instance w.ends) f.1 f.0.served))

  -- they rest for every input whose lists begin with those of theirs
  pub all_rest : (after : Lists) → AreInputsExtended (inputs_of lists) (inputs_of after) → AreResting t after (rows_of ws)
  all_rest after grown = record {
    count = length-map ws (λ (w : Work). w.ends) ∙ h.count;
    sizes = each_row ws (λ p es. length es ≡ length (instance_at (network_of t) p).actuals) (λ p w e. (job_served p w e).count)
        (λ p l. sym (ap (λ i. length i.actuals) (past t ws h.count p l)));
    each = λ p q. each_row ws (λ p es. ServedBefore t after (actual_at (instance_at (network_of t) p) q) (end_at es q))
        (λ p w e. before_too t lists after grown (actual_at (instance_at (network_of t) p) q) (end_at w.ends q) ((job_served p w e).each q))
        (λ p l. subst (λ i. ServedBefore t after (actual_at i q) no_end) (sym (past t ws h.count p l)) tt) p;
    behind = λ p q. each_row ws (λ p es. (end_at es q).flushed ≤ (end_at es q).next) (λ p w e. (job_served p w e).behind q) (λ p l. omega arith) p;
    joined = h.joined;
  }

  -- and so they are idle
  pub all_idle : AreIdle t lists ws
  all_idle = record {
    count = h.count;
    each = λ p w e.
        let f = h.each p w e in
        record {
          network = f.1;
          grown = subst (λ l. AreInputsExtended (inputs_of l) (inputs_of lists)) (sym f.2) (λ c. prefix_refl (inputs_of lists c));
          instance = f.3;
          at = f.0.at;
        };
    resting = all_rest lists (λ c. prefix_refl (inputs_of lists c));
  }

pub cell_there : (ns os : List Work) → cells_of ns ≡ cells_of os → (p : ℕ) (w : Work) → slice_get ns p ≡ Some w →
    (x : Work) × (slice_get os p ≡ Some x) × (w.cell ≡ x.cell)
cell_there ns os c p w e =
    by (slice_get os p) (sym (ap (option_map cell) e) ∙ sym (slice_get-map cell ns p) ∙ ap (λ l. slice_get l p) c ∙ slice_get-map cell os p)
  where
    cell : Work → CellView
    cell w = w.cell

    by : (o : Option Work) → Some w.cell ≡ option_map cell o → (x : Work) × (o ≡ Some x) × (w.cell ≡ x.cell)
    by None h = absurd (none-some _ (sym h))
    by (Some x) h = (x, refl, same_Some _ _ h)

pub row_there : (xs : List Work) (p : ℕ) (w : Work) → slice_get xs p ≡ Some w → slice_index_or (rows_of xs) p [] ≡ w.ends
row_there xs p w e = get_or-map (λ (z : Work). z.ends) xs p w [] (slice_get_within xs p w e) ∙ ap (λ (z : Work). z.ends) (get_or_from_slice_get xs p w w e)

pub cells_count : (ns os : List Work) → cells_of ns ≡ cells_of os → length ns ≡ length os
cells_count ns os c = sym (length-map ns (λ (w : Work). w.cell)) ∙ ap (λ (l : List CellView). length l) c ∙ length-map os (λ (w : Work). w.cell)

-- ---- idle jobs

extended_further : (a b c : Lists) → AreInputsExtended (inputs_of a) (inputs_of b) → AreInputsExtended (inputs_of b) (inputs_of c) →
    AreInputsExtended (inputs_of a) (inputs_of c)
extended_further a b c x y d = prefix_trans (inputs_of a d) (inputs_of b d) (inputs_of c d) (x d) (y d)

module _ (t : Program) (lists : Lists) (ws : List Work) (h : AreIdle t lists ws) where
  -- they are for every input whose lists begin with those of theirs
  pub idle_grown : (after : Lists) → AreInputsExtended (inputs_of lists) (inputs_of after) → AreIdle t after ws
  idle_grown after grown = record {
    count = h.count;
    each = λ p w e.
        let x = h.each p w e in
        record { network = x.network; grown = extended_further w.cell.input lists after x.grown grown; instance = x.instance; at = x.at };
    resting = record {
      count = h.resting.count;
      sizes = h.resting.sizes;
      each = λ p q. served (actual_at (instance_at (network_of t) p) q) (end_in (rows_of ws) p q) (h.resting.each p q);
      behind = h.resting.behind;
      joined = h.resting.joined;
    };
  }
    where
      before : (d : ℕ) (e : TaskEnd) → IsOfBefore t lists d e → IsOfBefore t after d e
      before d e x = (x.0, x.1, extended_further x.0 lists after x.2 grown)

      served : (a : Actual) (e : TaskEnd) → ServedBefore t lists a e → ServedBefore t after a e
      served (Reads d) e x = (x.0, before d e x.1, x.2)
      served (Writes d) e x = λ o. let y = x o in (y.0, before d e y.1)
      served (Hands v) e x = tt

  module _ (new : List Work) (cells : cells_of new ≡ cells_of ws) (stood : HaveStood (rows_of ws) (rows_of new)) where
    as_before : (p : ℕ) (w : Work) → slice_get new p ≡ Some w → IsIdle t lists p w
    as_before p w e =
        let x = cell_there new ws cells p w e in
        let f = h.each p x.0 x.1 in
        let row : slice_index_or (rows_of new) p [] ≡ w.ends = row_there new p w e in
        let old : slice_index_or (rows_of ws) p [] ≡ x.0.ends = row_there ws p x.0 x.1 in
        let same : (q : ℕ) → (end_at w.ends q).next ≡ (end_at x.0.ends q).next =
        λ q. ap (λ es. (end_at es q).next) (sym row) ∙ (stood p q).next ∙ ap (λ es. (end_at es q).next) old in
        record {
          network = ap (λ (c : CellView). c.network) x.2 ∙ f.network;
          grown = subst (λ (c : CellView). AreInputsExtended (inputs_of c.input) (inputs_of lists)) (sym x.2) f.grown;
          instance = ap (λ (c : CellView). c.instance) x.2 ∙ f.instance;
          at = subst (λ (c : CellView). IsAt c (λ q. (end_at w.ends q).next)) (sym x.2) (record {
            reads = λ q d i. same q ∙ f.at.reads q d i;
            writes = λ q d i o. same q ∙ f.at.writes q d i o;
          });
        }

    -- where memory was refused while they settled
    pub idle_still : AreResting t lists (rows_of new) → AreIdle t lists new
    idle_still resting = record { count = cells_count new ws cells ∙ h.count; each = as_before; resting = resting }

    -- once they have settled each may go on
    pub idle_goes_on : HaveSettled t lists (rows_of new) → (p : ℕ) (w : Work) → slice_get new p ≡ Some w → CanGoOn lists w
    idle_goes_on settled p w e =
        let x = as_before p w e in
        let within = slice_get_within new p w e in
        let many : length new ≡ length (network_of t).instances = cells_count new ws cells ∙ h.count in
        let row : slice_index_or (rows_of new) p [] ≡ w.ends = row_there new p w e in (
          x.grown,
          record {
            here = subst (λ n. n < length (network_of w.cell.network).instances) (sym x.instance)
                (subst (λ k. p < length (network_of k).instances) (sym x.network) (omega (arith, within, many)));
            served = subst (λ n. AreServed w.cell.network lists n w.ends) (sym x.instance)
                (subst (λ k. AreServed k lists p w.ends) (sym x.network) (subst (AreServed t lists p) row (settled.served p)));
            at = record { reads = x.at.reads; writes = x.at.writes };
          },
        )

  -- where their ends have met
  pub idle_met : (new : List Work) → HaveMet ws new → AreIdle t lists new
  idle_met new m = idle_still new m.cells (stood_still (rows_of ws) (rows_of new) m.rows) (rests_met t lists (rows_of ws) (rows_of new) m.rows h.resting)

-- ---- meetings

pub met_self : (ws : List Work) → HaveMet ws ws
met_self ws = record { cells = refl; rows = all_stayed (rows_of ws) }

pub met_then : (old mid new : List Work) → HaveMet old mid → HaveMet mid new → HaveMet old new
met_then old mid new a b = record { cells = b.cells ∙ a.cells; rows = all_stayed_then (rows_of old) (rows_of mid) (rows_of new) a.rows b.rows }
