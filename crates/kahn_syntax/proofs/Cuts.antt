-- Where a text may be cut: behind blanks, comments and lexemes.
use Rattle.kahn_syntax.proofs.Common.{cases_lt, ⊎_elim, ◌≡◌, ℕ, suc, ◌+◌, ◌-◌, ◌≤◌, ◌<◌, ◌⊎◌, ◌++◌, List, [], ◌∷◌, length, get_or, drop, refl, sym, ap, subst, ◌∙◌, arith, inl, inr, add-one, IsUtf8, IsCharBoundary, All, drop-cons, get_or_past, IsUtf8-drop, IsCharBoundary-after_ascii, IsCharBoundary-past_char, nat_tests, All-nil, All-cons, Lexeme, Class, Sign, Becomes, Unequal, AtMost, AtLeast, Not, IsBlank, IsLetter, IsWordByte, IsWord, IsRun, IsSign, IsOfClass, IsSlice, IsLexemeAt, Gap, no_gap, then_blank, then_comment, Lexed, Number, SignClass}
use Rattle.std.proofs.Math.Utf8.{encode}
use Rattle.kahn_syntax.proofs.OneList.{form_grows}

-- behind an ASCII byte
pub cut_after : (text : List ℕ) (i b : ℕ) → IsUtf8 text → i + 1 ≡ b → i < length text → get_or text i 0 < 128 → IsCharBoundary text b
cut_after text i b utf8 e inside ascii = subst (IsCharBoundary text) e (IsCharBoundary-after_ascii text i utf8 inside ascii)

-- behind a run of digits
pub run_cut : (text : List ℕ) (a b : ℕ) → IsUtf8 text → b ≤ length text → IsRun text a b → IsCharBoundary text b
run_cut text a b utf8 inside run =
    let some : a < b = run.0 in
    let last : (48 ≤ get_or text (b - 1) 0) × (get_or text (b - 1) 0 ≤ 57) = run.1 (b - 1) (omega arith) (omega arith) in
    cut_after text (b - 1) b utf8 (omega arith) (omega arith) (omega arith)

letter_ascii : (b : ℕ) → IsLetter b → b < 128
letter_ascii b (inl p) = omega arith
letter_ascii b (inr p) = omega arith

word_byte_ascii : (b : ℕ) → IsWordByte b → b < 128
word_byte_ascii b (inl p) = letter_ascii b p
word_byte_ascii b (inr (inl p)) = omega arith
word_byte_ascii b (inr (inr p)) = omega arith

one_or_more : (a b : ℕ) → a < b → (a + 1 ≡ b) ⊎ (a < b - 1)
one_or_more a b h = grind (arith, nat_tests)

-- behind a word
pub word_cut : (text : List ℕ) (a b : ℕ) → IsUtf8 text → b ≤ length text → IsWord text a b → IsCharBoundary text b
word_cut text a b utf8 inside word =
    ⊎_elim (λ e. cut_after text a b utf8 e (omega arith) (letter_ascii _ word.1))
    (λ more. cut_after text (b - 1) b utf8 (omega arith) (omega arith) (word_byte_ascii _ (word.2 (b - 1) more (omega arith)))) (one_or_more a b word.0)

-- behind U+00AC
not_cut : (text : List ℕ) (a : ℕ) → IsUtf8 text → IsCharBoundary text a → a + 1 < length text → get_or text a 0 ≡ 0xC2 → get_or text (a + 1) 0 ≡ 0xAC →
    IsCharBoundary text (a + 2)
unfolding encode
not_cut text a utf8 cut inside first second =
    let begins : drop a text ≡ get_or text a 0 ∷ drop (suc a) text = drop-cons text a 0 (omega arith) in
    let goes_on : drop (suc a) text ≡ get_or text (suc a) 0 ∷ drop (suc (suc a)) text = drop-cons text (suc a) 0 (omega arith) in
    let next : get_or text (suc a) 0 ≡ 0xAC = ap (λ i. get_or text i 0) (sym (add-one a)) ∙ second in
    let bytes : encode 0xAC ≡ 0xC2 ∷ 0xAC ∷ [] = refl in
    let split : drop a text ≡ encode 0xAC ++ drop (suc (suc a)) text =
    begins ∙ (ap (λ (xs : List ℕ). get_or text a 0 ∷ xs) goes_on
    ∙ (ap (λ c. c ∷ get_or text (suc a) 0 ∷ drop (suc (suc a)) text) first ∙ ap (λ c. 0xC2 ∷ c ∷ drop (suc (suc a)) text) next)) in
    IsCharBoundary-past_char text (drop (suc (suc a)) text) a 0xAC (omega arith) (IsUtf8-drop text a utf8 cut) split

-- behind a sign
sign_cut : (text : List ℕ) (s : Sign) (a b : ℕ) → IsUtf8 text → IsCharBoundary text a → b ≤ length text → IsSign text s a b → IsCharBoundary text b
sign_cut text Becomes a b utf8 cut inside h = cut_after text (a + 1) b utf8 (omega arith) (omega arith) (omega arith)
sign_cut text Unequal a b utf8 cut inside h = cut_after text (a + 1) b utf8 (omega arith) (omega arith) (omega arith)
sign_cut text AtMost a b utf8 cut inside h = cut_after text (a + 1) b utf8 (omega arith) (omega arith) (omega arith)
sign_cut text AtLeast a b utf8 cut inside h = cut_after text (a + 1) b utf8 (omega arith) (omega arith) (omega arith)
sign_cut text Not a b utf8 cut inside h =
    let e : a + 2 ≡ b = omega arith in
    subst (IsCharBoundary text) e (not_cut text a utf8 cut (omega arith) h.0 h.1.0)
sign_cut text _ a b utf8 cut inside h = cut_after text a b utf8 (omega arith) (omega arith) (omega arith)

class_cut : (text : List ℕ) (u : Class) (a b : ℕ) → IsUtf8 text → IsCharBoundary text a → b ≤ length text → IsOfClass text u a b → IsCharBoundary text b
class_cut text (Number n) a b utf8 cut inside h = run_cut text a b utf8 inside h.0
class_cut text (SignClass s) a b utf8 cut inside h = sign_cut text s a b utf8 cut inside h
class_cut text _ a b utf8 cut inside h = word_cut text a b utf8 inside h.0

-- behind a lexeme
pub lexeme_cut : (text : List ℕ) (x : Lexeme) → IsUtf8 text → IsCharBoundary text x.span.from → IsLexemeAt text x → IsCharBoundary text x.span.to
lexeme_cut text x utf8 cut stands = class_cut text x.what x.span.from x.span.to utf8 cut stands.longest.inside stands.class

blank_ascii : (b : ℕ) → IsBlank b → (0 < b) × (b < 128)
blank_ascii b (inl e) = (omega arith, omega arith)
blank_ascii b (inr (inl e)) = (omega arith, omega arith)
blank_ascii b (inr (inr (inl e))) = (omega arith, omega arith)
blank_ascii b (inr (inr (inr e))) = (omega arith, omega arith)

read_inside : (text : List ℕ) (i : ℕ) → 0 < get_or text i 0 → i < length text
read_inside text i some = ⊎_elim (λ h. h) (λ h. let e : get_or text i 0 ≡ 0 = get_or_past text i 0 h in absurd (omega arith)) (cases_lt i (length text))

-- behind blanks and comments
gap_cut : (text : List ℕ) (a b : ℕ) → IsUtf8 text → IsCharBoundary text a → Gap text a b → IsCharBoundary text b
gap_cut text a b utf8 cut no_gap = cut
gap_cut text a c utf8 cut (then_blank {b = b} g blank) =
    let ascii : (0 < get_or text b 0) × (get_or text b 0 < 128) = blank_ascii _ blank in
    cut_after text b (b + 1) utf8 refl (read_inside text b ascii.0) ascii.1
gap_cut text a b utf8 cut (then_comment g c) = cut_after text c.3.0 b utf8 (sym c.3.1) c.3.3 (omega (arith, c.3.4))

-- each lexeme may be cut out
pub lexed_slices : (text : List ℕ) (a b : ℕ) (xs : List Lexeme) → IsUtf8 text → IsCharBoundary text a → Lexed text a b xs → All (IsSlice text) xs
lexed_slices text a b [] utf8 cut gap = All-nil (IsSlice text)
lexed_slices text a b (x ∷ xs) utf8 cut (gap, stands, rest) =
    let before : IsCharBoundary text x.span.from = gap_cut text a x.span.from utf8 cut gap in
    let behind : IsCharBoundary text x.span.to = lexeme_cut text x utf8 before stands in
    let slice : IsSlice text x = (form_grows text x.span.from x.span.to stands.longest.form, stands.longest.inside, before, behind) in
    All-cons (IsSlice text) x xs slice (lexed_slices text x.span.to b xs utf8 behind rest)

-- behind all of them
pub lexed_cut : (text : List ℕ) (a b : ℕ) (xs : List Lexeme) → IsUtf8 text → IsCharBoundary text a → Lexed text a b xs → IsCharBoundary text b
lexed_cut text a b [] utf8 cut gap = gap_cut text a b utf8 cut gap
lexed_cut text a b (x ∷ xs) utf8 cut (gap, stands, rest) =
    lexed_cut text x.span.to b xs utf8 (lexeme_cut text x utf8 (gap_cut text a x.span.from utf8 cut gap) stands) rest
