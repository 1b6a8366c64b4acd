-- Jobs get the cells of taps, one after another.
use Rattle.kahn_job.proofs.Common.{arith, ◌≡◌, ℕ, ◌<◌, List, [], ◌∷◌, ◌++◌, drop, length, refl, sym, ap, ◌∙◌, subst, Some, slice_get, slice_set, slice_index_or, same_Some, Tapped, CellView, IsSamePlace, Work, AreSamePlaces, cells_of, rows_of, tolds_of, map-set_same, length-append, length-map, map-set, slice_get-map, option_map}
use Rattle.kahn_code.proofs.Common.{slice_get_read}
use Rattle.kahn_code.proofs.Queued.{set_each}

middle : (done rest : List Tapped) (x : Tapped) → slice_get (tolds_of (done ++ x ∷ rest)) (length done) ≡ Some x.told
middle [] rest x = refl
middle (y ∷ done) rest x = middle done rest x

next : (done rest : List Tapped) (x : Tapped) → slice_get (done ++ x ∷ rest) (length done) ≡ Some x
next [] rest x = refl
next (y ∷ done) rest x = next done rest x

-- the next one is one of all
pub tap_in : (taps done rest : List Tapped) (x : Tapped) → taps ≡ done ++ x ∷ rest → slice_get taps (length done) ≡ Some x
tap_in taps done rest x split = ap (λ (l : List Tapped). slice_get l (length done)) split ∙ next done rest x

seat_more : (done : List Tapped) (old : List CellView) (x : Tapped) → length done < length old →
    slice_set (tolds_of done ++ drop (length done) old) (length done) x.told ≡ tolds_of (done ++ x ∷ []) ++ drop (length (done ++ x ∷ [])) old
seat_more [] [] x lt = absurd (omega (arith, lt))
seat_more [] (o ∷ old) x lt = refl
seat_more (y ∷ done) [] x lt = absurd (omega (arith, lt))
seat_more (y ∷ done) (o ∷ old) x lt = ap (λ l. y.told ∷ l) (seat_more done old x (omega (arith, lt)))

-- so far these are done, and the next is x
module _ (taps done rest : List Tapped) (old ws : List Work) (x : Tapped) (n : ℕ) (d : Work) (split : taps ≡ done ++ x ∷ rest) (at : n ≡ length done)
    (size : length ws ≡ length old) (many : length taps ≡ length old) (same : AreSamePlaces (cells_of ws) (tolds_of taps)) (value : d ≡ slice_index_or ws n d) where
  within : n < length ws
  within = let all = ap (λ (l : List Tapped). length l) split ∙ length-append done (x ∷ rest) in omega (arith, all, at, size, many)

  tap_at : slice_get (tolds_of taps) n ≡ Some x.told
  tap_at = ap (λ (l : List Tapped). slice_get (tolds_of l) n) split ∙ ap (λ k. slice_get (tolds_of (done ++ x ∷ rest)) k) at ∙ middle done rest x

  cell_at : slice_get (cells_of ws) n ≡ Some d.cell
  cell_at = slice_get-map (λ (w : Work). w.cell) ws n ∙ ap (λ o. option_map (λ (w : Work). w.cell) o) (slice_get_read ws (length ws) n d refl within value)

  pub place : IsSamePlace d.cell x.told
  place = same n d.cell x.told cell_at tap_at

  module _ (w : Work) (seated : w ≡ record d { cell = x.told }) where
    pub rows_stay : rows_of ws ≡ rows_of old → rows_of (slice_set ws n w) ≡ rows_of old
    rows_stay rows = map-set_same (λ (w : Work). w.ends) ws n w d (ap (λ (w : Work). w.ends) seated ∙ ap (λ (w : Work). w.ends) value) ∙ rows

    set_cells : cells_of (slice_set ws n w) ≡ slice_set (cells_of ws) n w.cell
    set_cells = map-set (λ (w : Work). w.cell) ws n w

    pub cells_more : cells_of ws ≡ tolds_of done ++ drop (length done) (cells_of old) →
        cells_of (slice_set ws n w) ≡ tolds_of (done ++ x ∷ []) ++ drop (length (done ++ x ∷ [])) (cells_of old)
    cells_more cells =
        set_cells ∙ ap (λ c. slice_set (cells_of ws) n c) (ap (λ (w : Work). w.cell) seated) ∙ ap (λ cs. slice_set cs n x.told) cells ∙
        ap (λ k. slice_set (tolds_of done ++ drop (length done) (cells_of old)) k x.told) at ∙
        seat_more done (cells_of old) x (let lt = within in let l = length-map old (λ (w : Work). w.cell) in omega (arith, lt, l, at, size))

    pub same_more : AreSamePlaces (cells_of (slice_set ws n w)) (tolds_of taps)
    same_more p c e of_c of_e =
        set_each (λ p c. (e : CellView) → slice_get (tolds_of taps) p ≡ Some e → IsSamePlace c e) (cells_of ws) n w.cell (λ p c other i e f. same p c e i f) here p c
        (subst (λ cs. slice_get cs p ≡ Some c) set_cells of_c) e of_e
      where
        here : (e : CellView) → slice_get (tolds_of taps) n ≡ Some e → IsSamePlace w.cell e
        here e f =
            let is : e ≡ w.cell = sym (same_Some _ _ (sym tap_at ∙ f)) ∙ sym (ap (λ (w : Work). w.cell) seated) in
            (ap (λ (c : CellView). c.network) is, ap (λ (c : CellView). c.instance) is)
