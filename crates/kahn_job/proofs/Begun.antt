-- Jobs before their first events.
use Rattle.kahn_job.proofs.Common.{arith, ◌≡◌, ℕ, ◌<◌, List, length, refl, sym, ap, ◌∙◌, subst, Option, None, Some, none-some, same_Some, slice_get, Program, Actual, Reads, Writes, Hands, network_of, instance_at, actual_at, IsWellWired, reads_listed, writes_listed, Lists, Joins, TaskEnd, end_at, Work, cells_of, rows_of, end_in, HaveNoEnds, no_end, Waiting, IsAhead, ServesAt, AreJobsAt, CellView, slice_get-map, option_map, length-map, length-replicate}
use Rattle.kahn_streams.specs.Syntax.{Constant}
use Rattle.kahn_streams.proofs.Entered.{none_of}
use Rattle.kahn_job.proofs.{Handed.AreHanded, Idles.cells_count, Idles.each_row, Idles.past}

pub all_bare : (t : Program) (lists : Lists) (watch : Option ℕ) (so : Actual → TaskEnd → Type 0) (whole : TaskEnd → Type 0) → whole no_end → (ws : List Work) →
    HaveNoEnds t lists watch ws → AreHanded t so whole 0 (rows_of ws)
all_bare t lists watch so whole none ws h = record {
  count = length-map ws (λ (w : Work). w.ends) ∙ h.count;
  sizes = each_row ws (λ p es. length es ≡ length (instance_at (network_of t) p).actuals) (λ p w e. ap (λ (r : List TaskEnd). length r) (h.each p w e).1 ∙ length-replicate _ no_end)
      (λ p l. sym (ap (λ i. length i.actuals) (past t ws h.count p l)));
  each = λ p q d j l. absurd (omega (arith, l));
  joined = λ d l. absurd (omega (arith, l));
  every = λ p q. each_row ws (λ p es. whole (end_at es q)) (λ p w e. subst whole (sym (ap (λ r. end_at r q) (h.each p w e).1 ∙ none_of _ q no_end)) none) (λ p l. none) p;
}

all_so : (t : Program) (wired : IsWellWired t) (so : Actual → TaskEnd → Type 0) → ((v : Constant) (e : TaskEnd) → so (Hands v) e) → (p q : ℕ) (e : TaskEnd) (a : Actual) →
    actual_at (instance_at (network_of t) p) q ≡ a → ((d : ℕ) → Joins a d → d < length (network_of t).channels → so a e) → so a e
all_so t wired so none p q e (Reads d) i h = h d refl (reads_listed t wired p q d i)
all_so t wired so none p q e (Writes d) i h = h d refl (writes_listed t wired p q d i)
all_so t wired so none p q e (Hands v) i h = none v e

-- a cell is that of a job
job_there : (ws : List Work) (p : ℕ) (c : CellView) → slice_get (cells_of ws) p ≡ Some c → (w : Work) × (slice_get ws p ≡ Some w) × (c ≡ w.cell)
job_there ws p c e = by (slice_get ws p) refl (sym e ∙ slice_get-map (λ (w : Work). w.cell) ws p)
  where
    by : (o : Option Work) → slice_get ws p ≡ o → Some c ≡ option_map (λ (w : Work). w.cell) o → (w : Work) × (slice_get ws p ≡ Some w) × (c ≡ w.cell)
    by None i h = absurd (none-some _ (sym h))
    by (Some w) i h = (w, i, same_Some _ _ h)

-- bare jobs that were handed ends which stand where these queues stand
pub all_at : (t : Program) (wired : IsWellWired t) (lists : Lists) (watch : Option ℕ) (queues : List Waiting) (bare ws : List Work) → HaveNoEnds t lists watch bare →
    cells_of ws ≡ cells_of bare → AreHanded t (ServesAt t lists queues) IsAhead (length (network_of t).channels) (rows_of ws) → AreJobsAt t lists queues ws
all_at t wired lists watch queues bare ws b cells h = record {
  count = cells_count ws bare cells ∙ b.count;
  each = λ p c e.
      let w = job_there bare p c (subst (λ cs. slice_get cs p ≡ Some c) cells e) in
      let o = (b.each p w.0 w.1).0 in (ap (λ (c : CellView). c.network) w.2 ∙ o.network, ap (λ (c : CellView). c.instance) w.2 ∙ o.instance);
  settled = record {
    served = λ p. record { count = h.sizes p; each = λ q. (each p q).0; behind = λ q. (h.every p q).0 };
    flushed = λ p q d i o. (h.every p q).1;
    joined = λ d p r o q i j. h.joined d (writes_listed t wired p o d i) p r o q i j;
  };
  at = λ p q. (each p q).1;
}
  where
    each : (p q : ℕ) → ServesAt t lists queues (actual_at (instance_at (network_of t) p) q) (end_in (rows_of ws) p q)
    each p q = all_so t wired (ServesAt t lists queues) (λ v e. (tt, tt)) p q (end_in (rows_of ws) p q) (actual_at (instance_at (network_of t) p) q) refl (h.each p q)
