-- What waits for the rows of several streams.
use Rattle.kahn_session.proofs.Common.{◌≡◌, ◌∙◌, ℕ, zero, suc, ◌+◌, ◌<◌, List, [], ◌∷◌, ◌++◌, length, drop, add-one, append_assoc, append-nil, Some, None, refl, sym, ap, if◌then◌else◌, ◌==◌, slice_get, list_any, Global, Vec, Value, Line, Channel, waiting_from, kept_values}
use Rattle.std.proofs.lemmas.{List.drop_more, Option.get_or_from_slice_get, Option.slice_get_within}

-- a value more of those that wait, and none
pub one_waits : (values : List Value) (place : ℕ) (left all : List Value) (value : Value) → left ++ drop place values ≡ all → slice_get values place ≡ Some value
    → (left ++ (value ∷ [])) ++ drop (place + 1) values ≡ all
one_waits values place left all value e at =
    let here = drop_more values place value (slice_get_within values place value at) ∙ ap (λ v. v ∷ drop (place + 1) values) (get_or_from_slice_get values place value value at) in
    append_assoc left (value ∷ []) (drop (place + 1) values) ∙ ap (λ l. left ++ l) (sym here) ∙ e

pub none_waits : (values : List Value) (place : ℕ) (left all : List Value) → left ++ drop place values ≡ all → slice_get values place ≡ None → left ≡ all
none_waits values place left all e at = sym (append-nil left) ∙ ap (λ l. left ++ l) (sym (past values place at)) ∙ e
  where
    past : (vs : List Value) (n : ℕ) → slice_get vs n ≡ None → drop n vs ≡ []
    past [] zero there = refl
    past [] (suc n) there = refl
    past (v ∷ vs) zero there = absurd cc
    past (v ∷ vs) (suc n) there = past vs n there

module _ (values : ℕ → List Value) (count : ℕ) (columns : List ℕ) where
  abbrev one : ℕ → List Value
  one number = if list_any (λ c. c == number) columns then drop count (values number) else []

  kept_one : (kept : List (Vec Value Global)) (v : Vec Value Global) → kept_values (kept ++ (v ∷ [])) ≡ kept_values kept ++ (v.items ∷ [])
  kept_one [] v = refl
  kept_one (k ∷ kept) v = ap (λ l. k.items ∷ l) (kept_one kept v)

  waits_more : (lines : List Line) (number : ℕ) (left all : List (List Value)) → number < length lines → left ++ waiting_from values count columns number (drop number lines) ≡ all
      → (left ++ (one number ∷ [])) ++ waiting_from values count columns (number + 1) (drop (number + 1) lines) ≡ all
  waits_more lines number left all below e =
      append_assoc left (one number ∷ []) (waiting_from values count columns (number + 1) (drop (number + 1) lines))
      ∙ ap (λ l. left ++ l) (ap (λ n. one number ∷ waiting_from values count columns n (drop (number + 1) lines)) (add-one number) ∙ sym (ap (waiting_from values count columns number) (drop_more lines number (Channel 0) below)))
      ∙ e

  -- what waits of one stream more
  pub kept_more : (lines : List Line) (number : ℕ) (kept : List (Vec Value Global)) (v : Vec Value Global) (all : List (List Value)) → number < length lines
      → kept_values kept ++ waiting_from values count columns number (drop number lines) ≡ all
      → v.items ≡ (if list_any (λ c. c == number) columns then drop count (values number) else [])
      → kept_values (kept ++ (v ∷ [])) ++ waiting_from values count columns (number + 1) (drop (number + 1) lines) ≡ all
  kept_more lines number kept v all below e is =
      ap (λ l. l ++ waiting_from values count columns (number + 1) (drop (number + 1) lines)) (kept_one kept v ∙ ap (λ (i : List Value). kept_values kept ++ (i ∷ [])) is)
      ∙ waits_more lines number (kept_values kept) all below e
