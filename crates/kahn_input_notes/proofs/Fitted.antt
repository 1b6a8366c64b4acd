-- Parts between blanks, or lines, one after another.
use Rattle.kahn_input_notes.proofs.Common.{◌≡◌, ◌∙◌, ℕ, zero, suc, ◌+◌, ◌≤◌, ◌<◌, List, [], ◌∷◌, ◌++◌, length, take, drop, All, Bool, true, false, cond, arith, ap, refl, sym, subst, add-one, drop-cons, get_or, take-append-drop, onto_first, slice_split, parts_length}
use Rattle.std.proofs.lemmas.List.Elements.{All-append}

pub parts_joined : (xs ys : List (List ℕ)) → parts_length (xs ++ ys) ≡ parts_length xs + parts_length ys
parts_joined [] ys = omega arith
parts_joined (x ∷ xs) ys = let h = parts_joined xs ys in omega (arith, h)

onto : (x : ℕ) (v : Bool) (parts : List (List ℕ)) (n : ℕ) → parts_length parts ≡ suc n → parts_length (cond v ([] ∷ parts) (onto_first x parts)) ≡ suc (suc n)
onto x true parts n h = omega (arith, h)
onto x false [] n h = absurd (omega (arith, h))
onto x false (part ∷ parts) n h = omega (arith, h)

-- the parts of bytes, each with the one behind it, are these bytes and one more
pub parts_whole : (p : ℕ → Bool) (bytes : List ℕ) → parts_length (slice_split p bytes) ≡ suc (length bytes)
parts_whole p [] = refl
parts_whole p (x ∷ xs) = onto x (p x) (slice_split p xs) (length xs) (parts_whole p xs)

take_more : (xs : List (List ℕ)) (k : ℕ) (x : List ℕ) (rest : List (List ℕ)) → drop k xs ≡ x ∷ rest → take (suc k) xs ≡ take k xs ++ (x ∷ [])
take_more [] zero x rest e = absurd cc
take_more [] (suc k) x rest e = absurd cc
take_more (y ∷ ys) zero x rest e = ap (λ l. take 1 l) e
take_more (y ∷ ys) (suc k) x rest e = ap (λ l. y ∷ l) (take_more ys k x rest e)

-- the parts from k on, the first of which is the part
pub from_part : (parts : List (List ℕ)) (k : ℕ) (part : List ℕ) → (k < length parts) × (part ≡ get_or parts k part) → drop k parts ≡ part ∷ drop (k + 1) parts
from_part parts k part h =
    let e : drop k parts ≡ get_or parts k part ∷ drop (k + 1) parts = rw add-one (drop-cons parts k part h.0) in
    e ∙ ap (λ (w : List ℕ). w ∷ drop (k + 1) parts) (sym h.1)

all_one : (P : List ℕ → Type 0) (x : List ℕ) → P x → All P (x ∷ [])
all_one P x p zero d below = p
all_one P x p (suc k) d below = absurd (omega (arith, below))

-- the step over parts, of which those before k are passed: at m, one part on
module _ (parts : List (List ℕ)) (k m : ℕ) (part : List ℕ) (e : m ≡ k + 1) (here : drop k parts ≡ part ∷ drop (k + 1) parts) where
  pub one_more : take m parts ≡ take k parts ++ (part ∷ [])
  one_more = ap (λ n. take n parts) (e ∙ add-one k) ∙ take_more parts k part (drop (k + 1) parts) here

  pub cut_here : parts ≡ take k parts ++ (part ∷ drop (k + 1) parts)
  cut_here = sym (take-append-drop k parts) ∙ ap (λ l. take k parts ++ l) here

  pub length_more : parts_length (take m parts) ≡ parts_length (take k parts) + (length part + 1)
  length_more =
      let h = parts_joined (take k parts) (part ∷ []) in
      ap parts_length one_more ∙ h ∙ ap (λ n. parts_length (take k parts) + n) (omega arith)

  length_within : parts_length (take k parts) + (length part + 1) ≤ parts_length parts
  length_within =
      let h = parts_joined (take k parts) (part ∷ drop (k + 1) parts) in
      let whole : parts_length parts ≡ parts_length (take k parts ++ (part ∷ drop (k + 1) parts)) = ap parts_length cut_here in
      omega (arith, h, whole)

  pub all_more : (P : List ℕ → Type 0) → All P (take k parts) → P part → All P (take m parts)
  all_more P all p = subst (All P) (sym one_more) (All-append P (take k parts) (part ∷ []) all (all_one P part p))

-- the part at k ends within the bytes
pub reaches : (p : ℕ → Bool) (bytes : List ℕ) (k n : ℕ) (part : List ℕ) → (k < length (slice_split p bytes)) × (part ≡ get_or (slice_split p bytes) k part)
    → n ≡ parts_length (take k (slice_split p bytes)) → n + length part ≤ length bytes
reaches p bytes k n part turn from =
    let parts = slice_split p bytes in
    let within = length_within parts k (k + 1) part refl (from_part parts k part turn) in
    let whole = parts_whole p bytes in
    omega (arith, within, whole, from)
