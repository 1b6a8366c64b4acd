-- What the cells of jobs keep.
use Rattle.kahn_sequential.proofs.Common.{◌≡◌, ℕ, ◌<◌, List, length, sym, ap, ◌∙◌, subst, Some, slice_get, same_Some, length-map, Program, network_of, instance_at, Kept, CellView, AreLists, kept_lists, AreKeptOf, actual_count, parameter_count, count}
use Rattle.kahn_sequential.proofs.Benched.{get_map, got, within_get}

-- of cells that are those of the instances, in order
pub lists_of_cells : {A : Type 0} (t : Program) (cells : List CellView) → length cells ≡ length (network_of t).instances →
    ((p : ℕ) (c : CellView) → slice_get cells p ≡ Some c → (c.network ≡ t) × (c.instance ≡ p)) → (kept : List (Kept A)) → AreKeptOf cells kept → AreLists (network_of t) kept
lists_of_cells {A = A} t cells count each kept h = record {
  count = many ∙ count;
  parameters = λ p l e. sized p l e (got cells p (subst (λ k. p < k) many (within_get kept p l e)));
}
  where
    many : length kept ≡ length cells
    many = sym (length-map kept kept_lists) ∙ ap length h.sent ∙ length-map cells (λ (c : CellView). c.kept)

    sized : (p : ℕ) (l : Kept A) → slice_get kept p ≡ Some l → (c : CellView) × (slice_get cells p ≡ Some c) → length l.kept.items ≡ length (instance_at (network_of t) p).actuals
    sized p l e c =
        let o = each p c.0 c.1 in
        same_Some _ _ (sym (get_map parameter_count kept p l e) ∙ ap (λ ns. slice_get ns p) h.parameters ∙ get_map actual_count cells p c.0 c.1) ∙
        ap (λ k. length (instance_at (network_of k) c.0.instance).actuals) o.0 ∙ ap (λ i. length (instance_at (network_of t) i).actuals) o.1
