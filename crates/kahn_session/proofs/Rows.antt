-- Rows of what is new on several streams.
use Rattle.kahn_session.proofs.Common.{arith, ◌≡◌, ◌∙◌, ℕ, suc, ◌+◌, ◌-◌, ◌<◌, ◌≤◌, List, ◌∷◌, ◌++◌, add-one, append_assoc, append-nil, sym, ap, slice_get, Value, cell_news, row_news, row_stop, rows_news}

module _ (values : ℕ → List Value) where
  -- one value more of a row
  pub row_moved : (place : ℕ) (columns rest behind : List ℕ) (number : ℕ) (done : List ℕ) → rest ≡ number ∷ behind
      → row_news values place columns ≡ done ++ row_news values place rest
      → row_news values place columns ≡ (done ++ cell_news (slice_get (values number) place) (row_stop behind)) ++ row_news values place behind
  row_moved place columns rest behind number done split e =
      e ∙ ap (λ r. done ++ row_news values place r) split
      ∙ sym (append_assoc done (cell_news (slice_get (values number) place) (row_stop behind)) (row_news values place behind))

  -- the first of the rows that are left
  rows_split : (columns : List ℕ) (place to : ℕ) → place < to
      → rows_news values columns place (to - place) ≡ row_news values place columns ++ rows_news values columns (place + 1) (to - (place + 1))
  rows_split columns place to below =
      let one : to - place ≡ suc (to - (place + 1)) = omega (arith, below) in
      ap (rows_news values columns place) one ∙ ap (λ n. row_news values place columns ++ rows_news values columns n (to - (place + 1))) (sym (add-one place))

  -- one row more
  pub rows_moved : (columns : List ℕ) (place to : ℕ) (all done : List ℕ) → place < to → all ≡ done ++ rows_news values columns place (to - place)
      → all ≡ (done ++ row_news values place columns) ++ rows_news values columns (place + 1) (to - (place + 1))
  rows_moved columns place to all done below e =
      e ∙ ap (λ l. done ++ l) (rows_split columns place to below)
      ∙ sym (append_assoc done (row_news values place columns) (rows_news values columns (place + 1) (to - (place + 1))))

  -- no row is left
  pub rows_done : (columns : List ℕ) (place to : ℕ) (all done : List ℕ) → to ≤ place → all ≡ done ++ rows_news values columns place (to - place) → done ≡ all
  rows_done columns place to all done past e =
      let none : to - place ≡ 0 = omega (arith, past) in
      sym (e ∙ ap (λ n. done ++ rows_news values columns place n) none ∙ append-nil done)
