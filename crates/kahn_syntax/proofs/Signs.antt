-- Signs: how they begin, and that no two have the same bytes.
use Rattle.kahn_syntax.proofs.Common.{◌≡◌, ℕ, ◌+◌, ◌≤◌, ◌<◌, ◌⊎◌, List, [], ◌∷◌, Option, Some, get_or, find, bytes_eq, refl, sym, ap, ◌∙◌, arith, inl, inr, Sign, Becomes, Open, Close, Comma, Semicolon, Plus, Minus, Times, Equal, Unequal, Less, AtMost, Greater, AtLeast, Not, IsBlank, IsDigit, IsLetter, bytes_of_sign, HasBytes, IsSign}

-- the bytes with which signs begin are among these
abbrev pub IsSignByte : ℕ → Type 0
IsSignByte b = ((40 ≤ b) × (b ≤ 45)) ⊎ ((58 ≤ b) × (b ≤ 62)) ⊎ (194 ≤ b)

pub sign_letter : (b : ℕ) → IsSignByte b → IsLetter b → ⊥
sign_letter b p q = grind arith

pub sign_digit : (b : ℕ) → IsSignByte b → IsDigit b → ⊥
sign_digit b p q = grind arith

pub sign_blank : (b : ℕ) → IsSignByte b → IsBlank b → ⊥
sign_blank b p q = grind arith

pub letter_blank : (b : ℕ) → IsLetter b → IsBlank b → ⊥
letter_blank b p q = grind arith

pub digit_blank : (b : ℕ) → IsDigit b → IsBlank b → ⊥
digit_blank b p q = grind arith

pub letter_digit : (b : ℕ) → IsLetter b → IsDigit b → ⊥
letter_digit b p q = grind arith

pub record Begins (text : List ℕ) (a b : ℕ) : Type 0 where
  pub grows : a < b
  pub byte : IsSignByte (get_or text a 0)

pub sign_begins : (text : List ℕ) (s : Sign) (a b : ℕ) → IsSign text s a b → Begins text a b
sign_begins text Open a b h = record { grows = omega arith; byte = inl (omega arith, omega arith) }
sign_begins text Close a b h = record { grows = omega arith; byte = inl (omega arith, omega arith) }
sign_begins text Comma a b h = record { grows = omega arith; byte = inl (omega arith, omega arith) }
sign_begins text Plus a b h = record { grows = omega arith; byte = inl (omega arith, omega arith) }
sign_begins text Minus a b h = record { grows = omega arith; byte = inl (omega arith, omega arith) }
sign_begins text Times a b h = record { grows = omega arith; byte = inl (omega arith, omega arith) }
sign_begins text Not a b h = record { grows = omega arith; byte = inr (inr (omega arith)) }
sign_begins text _ a b h = record { grows = omega arith; byte = inr (inl (omega arith, omega arith)) }

-- the bytes between two places are one list
ends_later : (text : List ℕ) (a b : ℕ) (cs : List ℕ) → HasBytes text a b cs → a ≤ b
ends_later text a b [] h = omega arith
ends_later text a b (c ∷ cs) h = let later : a + 1 ≤ b = ends_later text (a + 1) b cs h.1 in omega arith

same_bytes : (text : List ℕ) (a b : ℕ) (cs ds : List ℕ) → HasBytes text a b cs → HasBytes text a b ds → cs ≡ ds
same_bytes text a b [] [] h k = refl
same_bytes text a b [] (d ∷ ds) h k = let later : a + 1 ≤ b = ends_later text (a + 1) b ds k.1 in absurd (omega arith)
same_bytes text a b (c ∷ cs) [] h k = let later : a + 1 ≤ b = ends_later text (a + 1) b cs h.1 in absurd (omega arith)
same_bytes text a b (c ∷ cs) (d ∷ ds) h k =
    let first : c ≡ d = sym h.0 ∙ k.0 in
    let rest : cs ≡ ds = same_bytes text (a + 1) b cs ds h.1 k.1 in
    cc

abbrev sign_named : List ℕ → Option Sign
sign_named bytes = find (λ s. bytes_eq (bytes_of_sign s) bytes) (Becomes ∷ Open ∷ Close ∷ Comma ∷ Semicolon ∷ Plus ∷ Minus ∷ Times ∷ Equal ∷ Unequal ∷ Less ∷ AtMost ∷ Greater ∷ AtLeast ∷ Not ∷ [])

named_sign : (s : Sign) → sign_named (bytes_of_sign s) ≡ Some s
named_sign Becomes = refl
named_sign _ = refl

pub sign_by_bytes : (s t : Sign) → bytes_of_sign s ≡ bytes_of_sign t → s ≡ t
sign_by_bytes s t e =
    let f : Some s ≡ Some t = sym (named_sign s) ∙ (ap sign_named e ∙ named_sign t) in
    cc

pub same_sign : (text : List ℕ) (s t : Sign) (a b : ℕ) → IsSign text s a b → IsSign text t a b → s ≡ t
same_sign text s t a b h k = sign_by_bytes s t (same_bytes text a b _ _ h k)
