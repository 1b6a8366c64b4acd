-- No list has more values than a channel may have.
use Rattle.kahn_streams.proofs.Common.{arith, ◌≡◌, inl, inr, ℕ, ◌<◌, ◌≤◌, List, length, replicate, set, sym, ap, ◌∙◌, subst, get_or-set_same, get_or-set_other, cases_eq, Value, AreFew, most_values, Lists, inputs_of, []}
use Rattle.kahn_streams.proofs.Entered.{none_of}

pub none_few : (n : ℕ) (lists : Lists) → lists ≡ replicate n [] → AreFew lists
none_few n lists e c =
    let here : inputs_of lists c ≡ [] = ap (λ l. inputs_of l c) e ∙ none_of n c [] in
    let long = ap length here in
    omega (arith, long)

pub list_few : (lists shown : Lists) (c : ℕ) (vs : List Value) → AreFew lists → lists ≡ shown → vs ≡ inputs_of shown c → length vs ≤ most_values
list_few lists shown c vs few e at = subst (λ l. length l ≤ most_values) (ap (λ l. inputs_of l c) e ∙ sym at) (few c)

set_few : (lists : Lists) (c : ℕ) (vs : List Value) → c < length lists → AreFew lists → length vs ≤ most_values → AreFew (set lists c vs)
set_few lists c vs below few short d =
    elim (cases_eq c d) [
      | inl h ↦ subst (λ k. length (inputs_of (set lists c vs) k) ≤ most_values) h
          (subst (λ l. length l ≤ most_values) (sym (get_or-set_same lists c vs [] below)) short)
      | inr n ↦ subst (λ l. length l ≤ most_values) (sym (get_or-set_other lists c d vs [] (λ h. n (sym h)))) (few d)
    ]

-- the lists after one of them was put in its place
pub put_few : (lists after : Lists) (c : ℕ) (vs : List Value) → c < length lists → AreFew lists → length vs ≤ most_values → after ≡ set lists c vs → AreFew after
put_few lists after c vs below few short e = subst AreFew (sym e) (set_few lists c vs below few short)

pub same_few : (lists after : Lists) → AreFew lists → after ≡ lists → AreFew after
same_few lists after few e = subst AreFew (sym e) few
