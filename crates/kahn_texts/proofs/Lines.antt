-- The lines of a text, one after another.
use Rattle.kahn_texts.proofs.Common.{◌≡◌, ◌∙◌, inl, inr, ℕ, zero, suc, ◌+◌, ◌≤◌, ◌<◌, List, [], ◌∷◌, ◌++◌, length, take, drop, All, arith, ap, sym, subst, add-one, append_assoc, append-nil, take-append-drop, drop_of_length-le, length-take-le, All-append, Entry, AreEntries, IsEntry, AreBlanks, IsGood, content}

take_more : (xs : List (List ℕ)) (k : ℕ) (x : List ℕ) (rest : List (List ℕ)) → drop k xs ≡ x ∷ rest → take (suc k) xs ≡ take k xs ++ (x ∷ [])
take_more [] zero x rest e = absurd cc
take_more [] (suc k) x rest e = absurd cc
take_more (y ∷ ys) zero x rest e = ap (λ l. take 1 l) e
take_more (y ∷ ys) (suc k) x rest e = ap (λ l. y ∷ l) (take_more ys k x rest e)

all_one : (P : List ℕ → Type 0) (x : List ℕ) → P x → All P (x ∷ [])
all_one P x p zero d below = p
all_one P x p (suc k) d below = absurd (omega (arith, below))

pub with_blank : (line : List ℕ) (lines : List (List ℕ)) (more : List Entry) → AreBlanks (content line) → AreEntries lines more → AreEntries (line ∷ lines) more
with_blank line lines [] blank h = (blank, h)
with_blank line lines (x ∷ xs) blank h = inl (blank, h)

-- the step of a reader over the lines, of which those before k are read: at m, one line on
module _ (lines : List (List ℕ)) (k m : ℕ) (line : List ℕ) (e : m ≡ k + 1) (here : drop k lines ≡ line ∷ drop (k + 1) lines) where
  pub all_blank : (done : List Entry) → AreBlanks (content line) → ((more : List Entry) → AreEntries (drop k lines) more → AreEntries lines (done ++ more))
      → (more : List Entry) → AreEntries (drop m lines) more → AreEntries lines (done ++ more)
  all_blank done blank all more h =
      all more (subst (λ l. AreEntries l more) (sym here) (with_blank line (drop (k + 1) lines) more blank (subst (λ n. AreEntries (drop n lines) more) e h)))

  pub all_entry : (done new : List Entry) (entry : Entry) → IsEntry (content line) entry → new ≡ done ++ (entry ∷ [])
      → ((more : List Entry) → AreEntries (drop k lines) more → AreEntries lines (done ++ more))
      → (more : List Entry) → AreEntries (drop m lines) more → AreEntries lines (new ++ more)
  all_entry done new entry is push all more h =
      subst (AreEntries lines) (sym (ap (λ l. l ++ more) push ∙ append_assoc done (entry ∷ []) more))
      (all (entry ∷ more) (subst (λ l. AreEntries l (entry ∷ more)) (sym here) (inr (is, subst (λ n. AreEntries (drop n lines) more) e h))))

  pub good_more : All IsGood (take k lines) → IsGood line → All IsGood (take m lines)
  good_more good this =
      let next : m ≡ suc k = e ∙ add-one k in
      subst (λ n. All IsGood (take n lines)) (sym next)
      (subst (All IsGood) (sym (take_more lines k line (drop (k + 1) lines) here)) (All-append IsGood (take k lines) (line ∷ []) good (all_one IsGood line this)))

  pub first_such : (P : List ℕ → Type 0) (n : ℕ) → k < length lines → n ≡ k + 1 → All IsGood (take k lines) → P (content line)
      → (before : List (List ℕ)) × (this : List ℕ) × (after : List (List ℕ)) × (lines ≡ before ++ (this ∷ after)) × (n ≡ length before + 1) × All IsGood before × P (content this)
  first_such P n below number good p =
      let split : lines ≡ take k lines ++ (line ∷ drop (k + 1) lines) = sym (take-append-drop k lines) ∙ ap (λ l. take k lines ++ l) here in
      let long : length (take k lines) ≡ k = length-take-le k lines (omega (arith, below)) in
      (take k lines, line, drop (k + 1) lines, split, number ∙ ap (λ i. i + 1) (sym long), good, p)

-- all lines are read
pub all_read : (lines : List (List ℕ)) (k : ℕ) (done : List Entry) → length lines ≤ k
    → ((more : List Entry) → AreEntries (drop k lines) more → AreEntries lines (done ++ more)) → AreEntries lines done
all_read lines k done past all =
    let none : drop k lines ≡ [] = drop_of_length-le lines past in
    subst (AreEntries lines) (append-nil done) (all [] (subst (λ l. AreEntries l []) (sym none) tt))
