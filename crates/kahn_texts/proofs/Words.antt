-- The words of an input text: what spells a number or a name is ASCII.
use Rattle.kahn_texts.proofs.Common.{nat_le, ◌&&◌, ◌≤◌, Option, Some, None, MatchOption, Bor, arith, ◌≡◌, ◌≢◌, ◌==◌, ◌||◌, ◌⊎◌, ◌<◌, inl, inr, ℕ, ℤ, suc, List, [], ◌∷◌, length, drop, get_or, slice_index, Bool, true, false, cond, All, refl, sym, subst, eqb-true, is_ascii_alphabetic, is_ascii_alphanumeric, leb-true, IsUtf8, IsAscii, AllDigits, without_leading_sign, IsAscii-from_digits, Integer, IsValue, IsName, is_blank, is_word_byte}
use Rattle.std.specs.Int.{is_in_range}
use Rattle.std.proofs.{lemmas.Str.IsUtf8-from_ascii, lemmas.Str.Ascii.IsAscii-nil, lemmas.Str.Ascii.IsAscii-cons}

signed : (b : ℕ) (bs : List ℕ) (m p : Bool) → (b == 45) ≡ m → (b == 43) ≡ p → b ≢ 43 → AllDigits 10 (cond m bs (drop (cond p 1 0) (b ∷ bs))) → IsAscii (b ∷ bs)
signed b bs true p e f first digits =
    let is : b ≡ 45 = eqb-true b 45 e in
    IsAscii-cons b bs (omega (arith, is)) (IsAscii-from_digits bs digits)
signed b bs false true e f first digits = absurd (first (eqb-true b 43 f))
signed b bs false false e f first digits = IsAscii-from_digits (b ∷ bs) digits

number_ascii : (word : List ℕ) → slice_index word 0 ≢ 43 → AllDigits 10 (without_leading_sign word) → IsAscii word
number_ascii [] first digits = IsAscii-nil
number_ascii (b ∷ bs) first digits = signed b bs (b == 45) (b == 43) refl refl first digits

-- what spells a number is a text
pub number_utf8 : (word : List ℕ) (n : ℤ) → IsValue word (Integer n) → IsUtf8 word
number_utf8 word n (first, numeral, fits, is) = IsUtf8-from_ascii word (number_ascii word first numeral.1)

never : false ≡ true → ⊥
never h = cc

pub not_true : (v : Bool) → (v ≡ true → ⊥) → v ≡ false
not_true true h = absurd (h refl)
not_true false h = refl

either : (b : ℕ) (m n : Bool) → (b == 32) ≡ m → (b == 9) ≡ n → (m || n) ≡ true → (b ≡ 32) ⊎ (b ≡ 9)
either b true n e f h = inl (eqb-true b 32 e)
either b false true e f h = inr (eqb-true b 9 f)
either b false false e f h = absurd (never h)

blank_is : (b : ℕ) → is_blank b ≡ true → (b ≡ 32) ⊎ (b ≡ 9)
blank_is b h = either b (b == 32) (b == 9) refl refl h

-- a letter is no blank
pub letter_dark : (a : ℕ) → is_ascii_alphabetic a ≡ true → is_blank a ≡ false
letter_dark a letter = not_true (is_blank a) (λ h. elim (blank_is a h) [ inl e ↦ never (subst (λ n. is_ascii_alphabetic n ≡ true) e letter) | inr e ↦ never (subst (λ n. is_ascii_alphabetic n ≡ true) e letter) ])

-- a blank is no byte of a word
pub blank_apart : (w : ℕ) → is_blank w ≡ true → is_word_byte w ≡ false
blank_apart w blank = elim (blank_is w blank) [ inl e ↦ subst (λ n. is_word_byte n ≡ false) (sym e) refl | inr e ↦ subst (λ n. is_word_byte n ≡ false) (sym e) refl ]

one_true : (m n : Bool) → (m || n) ≡ true → (m ≡ true) ⊎ (n ≡ true)
one_true true n h = inl refl
one_true false n h = inr h

last_true : (m n : Bool) → (m && n) ≡ true → n ≡ true
last_true true n h = h
last_true false n h = absurd (never h)

below_end : (low high b : ℕ) → is_in_range low high b ≡ true → high < 128 → b < 128
below_end low high b h ascii =
    let most : b ≤ high = leb-true b high (last_true (nat_le low b) (nat_le b high) h) in
    omega (arith, most, ascii)

-- a letter, a digit and `_` are ASCII
word_byte_ascii : (b : ℕ) → is_word_byte b ≡ true → b < 128
word_byte_ascii b h =
    elim (one_true (is_ascii_alphanumeric b) (b == 95) h) [
      | inl some ↦ elim (one_true (is_in_range 48 57 b || is_in_range 65 90 b) (is_in_range 97 122 b) some) [
        | inl upper ↦ elim (one_true (is_in_range 48 57 b) (is_in_range 65 90 b) upper) [
          | inl digit ↦ below_end 48 57 b digit (omega arith)
          | inr letter ↦ below_end 65 90 b letter (omega arith)
        ]
        | inr lower ↦ below_end 97 122 b lower (omega arith)
      ]
      | inr line ↦ let is : b ≡ 95 = eqb-true b 95 line in omega (arith, is)
    ]

get_below : (xs : List ℕ) → ((k : ℕ) (d : ℕ) → k < length xs → get_or xs k d < 128) → IsAscii xs
get_below [] h = IsAscii-nil
get_below (x ∷ xs) h = IsAscii-cons x xs (h 0 x (omega arith)) (get_below xs (λ k d below. h (suc k) d (omega (arith, below))))

-- a word is a text
pub word_utf8 : (xs : List ℕ) → All (λ b. is_word_byte b ≡ true) xs → IsUtf8 xs
word_utf8 xs all = IsUtf8-from_ascii xs (get_below xs (λ k d below. word_byte_ascii (get_or xs k d) (all k d below)))

-- a name is a text, so what gives the text of a word gives the name
pub named : (text : Option (Bor (List ℕ))) (word : List ℕ) → IsName word → MatchOption text (¬ IsUtf8 word) (λ t. t.now ≡ word)
    → MatchOption text (IsName word → ⊥) (λ t. IsName word × (t.now ≡ word))
named None word name given = absurd (given (word_utf8 word name.1))
named (Some t) word name given = (name, given)
