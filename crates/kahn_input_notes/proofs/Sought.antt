-- The lines before the one that is looked for, one after another.
use Rattle.kahn_input_notes.proofs.Common.{◌≡◌, ◌∙◌, inl, inr, ◌⊎◌, ℕ, suc, ◌+◌, ◌<◌, Bool, true, false, List, [], ◌∷◌, ◌++◌, length, ap, arith, refl, subst, length_push, Entry, AreBlanks, AreEntries, HasHead, IsEntry, content, CountsAs, CountTo}

rest_blank : (xs ys : List ℕ) → AreBlanks (xs ++ ys) → AreBlanks ys
rest_blank [] ys h = h
rest_blank (x ∷ xs) ys h = rest_blank xs ys (λ k d below. h (suc k) d (omega (arith, below)))

no_colon : (rest : List ℕ) → AreBlanks (58 ∷ rest) → ⊥
no_colon rest h = never (h 0 0 (omega arith))
  where
    never : false ≡ true → ⊥
    never e = cc

no_head : (line name rest : List ℕ) → AreBlanks line → HasHead line name rest → ⊥
no_head line name rest blank (before, between, whole, blanks, named, more) =
    no_colon rest (rest_blank between (58 ∷ rest) (rest_blank name (between ++ (58 ∷ rest)) (rest_blank before (name ++ (between ++ (58 ∷ rest))) (subst AreBlanks whole blank))))

-- entries of lines, of which the last is blank or spells the last of them
abbrev Parted : List (List ℕ) → List ℕ → List Entry → Type 0
Parted xs line es =
    (AreBlanks (content line) × AreEntries xs es) ⊎ ((fs : List Entry) × (e : Entry) × IsEntry (content line) e × AreEntries xs fs × (length es ≡ length fs + 1))

past_blank : (x : List ℕ) (xs : List (List ℕ)) (line : List ℕ) (es : List Entry) → AreBlanks (content x) → Parted xs line es → Parted (x ∷ xs) line es
past_blank x xs line [] blank (inl h) = inl (h.0, (blank, h.1))
past_blank x xs line (e ∷ es) blank (inl h) = inl (h.0, inl (blank, h.1))
past_blank x xs line es blank (inr ([], e, is, h, len)) = inr ([], e, is, (blank, h), len)
past_blank x xs line es blank (inr (f ∷ fs, e, is, h, len)) = inr (f ∷ fs, e, is, inl (blank, h), len)

past_entry : (x : List ℕ) (xs : List (List ℕ)) (line : List ℕ) (e : Entry) (es : List Entry) → IsEntry (content x) e → Parted xs line es → Parted (x ∷ xs) line (e ∷ es)
past_entry x xs line e es is (inl h) = inl (h.0, inr (is, h.1))
past_entry x xs line e es is (inr (fs, f, last, h, len)) = inr (e ∷ fs, f, last, inr (is, h), omega (arith, len))

parted : (xs : List (List ℕ)) (line : List ℕ) (es : List Entry) → AreEntries (xs ++ (line ∷ [])) es → Parted xs line es
parted [] line [] h = inl (h.0, tt)
parted [] line (e ∷ es) (inl h) = absurd h.1
parted [] line (e ∷ []) (inr h) = inr ([], e, h.0, tt, refl)
parted [] line (e ∷ (f ∷ es)) (inr h) = absurd h.1
parted (x ∷ xs) line [] h = past_blank x xs line [] h.0 (parted xs line [] h.1)
parted (x ∷ xs) line (e ∷ es) (inl h) = past_blank x xs line (e ∷ es) h.0 (parted xs line (e ∷ es) h.1)
parted (x ∷ xs) line (e ∷ es) (inr h) = past_entry x xs line e es h.0 (parted xs line es h.1)

counted : (xs : List (List ℕ)) (line : List ℕ) (a n : ℕ) → CountsAs true (content line) a → CountTo true xs n → (es : List Entry) → Parted xs line es → length es ≡ n + a
counted xs line a n (inl (none, blank)) count es (inl h) = let is = count es h.1 in omega (arith, is, none)
counted xs line a n (inl (none, blank)) count es (inr (fs, e, (rest, head, values), h, len)) = absurd (no_head (content line) e.0 rest blank head)
counted xs line a n (inr (one, dark)) count es (inl h) = absurd (dark h.0)
counted xs line a n (inr (one, dark)) count es (inr (fs, e, is, h, len)) = let before = count fs h in omega (arith, before, one, len)

-- a line adds how much it counts
pub one_on : (entries : Bool) (xs ys : List (List ℕ)) (line : List ℕ) (a n : ℕ) → ys ≡ xs ++ (line ∷ []) → CountsAs entries (content line) a → CountTo entries xs n → CountTo entries ys (n + a)
one_on true xs ys line a n more is count = λ es h. counted xs line a n is count es (parted xs line es (subst (λ l. AreEntries l es) more h))
one_on false xs ys line a n more is count = let longer = ap length more ∙ length_push xs line in omega (arith, longer, is, count)

-- one that counts more than are left counts as one, and none are left
pub reached : (entries : Bool) (line : List ℕ) (a left : ℕ) → CountsAs entries line a → left < a → (a ≡ 1) × (left ≡ 0)
reached true line a left (inl (none, blank)) less = absurd (omega (arith, none, less))
reached true line a left (inr (one, dark)) less = (one, omega (arith, one, less))
reached false line a left one less = (one, omega (arith, one, less))
