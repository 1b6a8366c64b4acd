-- Texts that grow by the texts of items, one after another.
use Rattle.kahn_graph.proofs.Common.{AreTexts, IsAll, List, [], ap, append-nil, append_assoc, arith, concat, length, length-append, refl, subst, sym, ℕ, ◌++◌, ◌+◌, ◌∙◌, ◌∷◌, ◌≡◌}

are_more : (P : ℕ → List ℕ → Type 0) (i n : ℕ) (texts : List (List ℕ)) (x : List ℕ) → i + length texts ≡ n → AreTexts P i texts → P n x → AreTexts P i (texts ++ (x ∷ []))
are_more P i n [] x e h p = (subst (λ k. P k x) (sym (omega (arith, e))) p, tt)
are_more P i n (y ∷ ys) x e h p = (h.0, are_more P (i + 1) n ys x (omega (arith, e)) h.1 p)

concat_more : (texts : List (List ℕ)) (x : List ℕ) → concat (texts ++ (x ∷ [])) ≡ concat texts ++ x
concat_more [] x = append-nil x
concat_more (y ∷ ys) x = ap (λ l. y ++ l) (concat_more ys x) ∙ sym (append_assoc y (concat ys) x)

-- no item
pub none_yet : (P : ℕ → List ℕ → Type 0) → IsAll P 0 []
none_yet P = ([], refl, tt, refl)

-- one item more
pub one_more : (P : ℕ → List ℕ → Type 0) (n : ℕ) (text x : List ℕ) → IsAll P n text → P n x → IsAll P (n + 1) (text ++ x)
one_more P n text x (texts, count, are, whole) p = (
  texts ++ (x ∷ []),
  length-append texts (x ∷ []) ∙ ap (λ k. k + 1) count,
  are_more P 0 n texts x (omega (arith, count)) are p,
  ap (λ l. l ++ x) whole ∙ sym (concat_more texts x),
)

-- two pieces after what stands there
pub grown : (old now new x y : List ℕ) → now ≡ old ++ x → new ≡ now ++ y → new ≡ old ++ (x ++ y)
grown old now new x y e f = f ∙ ap (λ l. l ++ y) e ∙ append_assoc old x y

-- five pieces
pub five_grown : (a b c d e old one two three four new : List ℕ) → one ≡ old ++ a → two ≡ one ++ b → three ≡ two ++ c → four ≡ three ++ d → new ≡ four ++ e
    → new ≡ old ++ (a ++ (b ++ (c ++ (d ++ e))))
five_grown a b c d e old one two three four new f g h i j =
    grown old one new a _ f (grown one two new b _ g (grown two three new c (d ++ e) h (grown three four new d e i j)))

-- four pieces, from nothing on
pub all_grown : (a b c d none one two three four : List ℕ) → none ≡ [] → one ≡ none ++ a → two ≡ one ++ b → three ≡ two ++ c → four ≡ three ++ d
    → four ≡ a ++ (b ++ (c ++ d))
all_grown a b c d none one two three four e f g h i =
    grown a two four b (c ++ d) (g ∙ ap (λ l. l ++ b) (f ∙ ap (λ l. l ++ a) e)) (grown two three four c d h i)
