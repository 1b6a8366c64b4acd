-- Cells at their openings over queues from which nothing was taken.
use Rattle.kahn_sequential.proofs.Common.{arith, ◌≡◌, ℕ, zero, suc, ◌+◌, List, [], ◌∷◌, ◌++◌, length, map, replicate, sum_by, refl, sym, ap, ◌∙◌, Option, Some, slice_get, slice_index_or, map-append, replicate-append-replicate, sum_by-cons, Program, Writes, network_of, instance_at, actual_at, role_at, IsWellWired, writes, Lists, none_of, is_output, AreFirst, place_at, next_at, CellView, told_view, IsAt, one_first, given_zero, taken_zero, view_events, nothing_gone, Tapped, IsOpening, IsLaid, IsSeated, AreOpeningCells, gone_in, table_of, told_in, Lines as Queues}

pub laid_first : (t code : Program) (lists : Lists) (watch : Option ℕ) (taps : List Tapped) (q : Queues) → IsWellWired t → code ≡ t →
    AreOpeningCells t lists watch (map told_in taps) (length (network_of t).instances) → (q.network ≡ t) × (q.input ≡ lists) → AreFirst t lists q.queues →
    IsLaid (table_of t lists watch code taps q)
laid_first t code lists watch taps q wired same cells_open names first = record {
  wired = wired;
  code = same;
  count = cells_open.count;
  each = each;
  network = names.0;
  input = names.1;
}
  where
    each : (p : ℕ) (c : CellView) → slice_get (map told_in taps) p ≡ Some c → IsSeated (table_of t lists watch code taps q) p c
    each p c at =
        let o : IsOpening t lists watch p c = cells_open.each p c at in
        record {
          network = o.network;
          input = o.input;
          instance = o.instance;
          watch = o.watched;
          at = stands o;
        }
      where
        own : IsOpening t lists watch p c → (r : ℕ) → actual_at (instance_at (network_of q.network) p) r ≡ actual_at (instance_at (network_of c.network) c.instance) r
        own o r =
            ap (λ k. actual_at (instance_at (network_of k) p) r) (names.0 ∙ sym o.network) ∙
            ap (λ k. actual_at (instance_at (network_of c.network) k) r) (sym o.instance)

        stands : IsOpening t lists watch p c → IsAt c (place_at q p)
        stands o = record {
          reads = λ r d e.
              ap (next_at q.queues) (own o r ∙ e) ∙ taken_zero t lists q.queues first d _ refl ∙
              sym (ap (λ l. slice_index_or l r 0) o.taken ∙ none_of _ r 0);
          writes = λ r d e inner.
              let here : actual_at (instance_at (network_of t) p) r ≡ Writes d =
              ap (λ k. actual_at (instance_at (network_of k) p) r) (sym names.0) ∙ own o r ∙ e in
              ap (next_at q.queues) (own o r ∙ e) ∙
              given_zero t lists q.queues first d _ (ap (λ k. is_output (role_at (network_of k) d)) (sym o.network) ∙ inner) (writes t wired p r d here).1 refl ∙
              sym (ap (λ l. slice_index_or l r 0) o.sent ∙ none_of _ r 0);
        }

-- one cell more
pub opening_more : (t : Program) (lists : Lists) (watch : Option ℕ) (cells all : List CellView) (n : ℕ) (c : CellView) → AreOpeningCells t lists watch cells n →
    IsOpening t lists watch n c → all ≡ cells ++ c ∷ [] → AreOpeningCells t lists watch all (n + 1)
opening_more t lists watch cells all n c h o is =
    let r = one_first (IsOpening t lists watch) cells all c n (record { count = h.count; each = h.each }) is o in
    record { count = r.count; each = r.each }

-- and it let go of nothing
pub whole_more : (taps all : List Tapped) (n : ℕ) (x : Tapped) → map gone_in taps ≡ replicate n nothing_gone → x.gone ≡ nothing_gone → all ≡ taps ++ x ∷ [] →
    map gone_in all ≡ replicate (n + 1) nothing_gone
whole_more taps all n x h e is = ap (map gone_in) is ∙ map-append gone_in taps (x ∷ []) ∙ ap (λ l. l ++ x.gone ∷ []) h ∙ ap (λ g. replicate n nothing_gone ++ g ∷ []) e ∙ more n
  where
    more : (n : ℕ) → replicate n nothing_gone ++ nothing_gone ∷ [] ≡ replicate (n + 1) nothing_gone
    more n = replicate-append-replicate n 1 nothing_gone

pub no_events : (cells : List CellView) → ((p : ℕ) (c : CellView) → slice_get cells p ≡ Some c → c.events ≡ 0) → sum_by view_events (map told_view cells) ≡ 0
no_events [] h = refl
no_events (c ∷ cells) h =
    let s : sum_by view_events (map told_view (c ∷ cells)) ≡ c.events + sum_by view_events (map told_view cells) = sum_by-cons view_events (told_view c) (map told_view cells) in
    omega (arith, s, h zero c refl, no_events cells (λ p x e. h (suc p) x e))
