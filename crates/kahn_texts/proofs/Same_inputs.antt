-- One text spells one list of entries, and they give one input.
use Rattle.kahn_texts.proofs.Common.{arith, codes, nat_lt, ◌≡◌, ◌≢◌, inl, inr, ◌+◌, ◌<◌, ◌==◌, ℕ, ℤ, suc, List, [], ◌∷◌, ◌++◌, length, slice_index, Bool, true, false, cond, refl, sym, ap, ◌∙◌, subst, eqb-true, drop, if◌then◌else◌, lt-ltb, to_ascii_lowercase, slice_split, str_eq_ignore_ascii_case, str_to_ascii_lowercase, AllDigits, Program, Value, channel_names, Integer, Logical, Entry, IsInputOf, list_for, Lists, inputs_of, IsName, AreBlanks, IsValue, SpellsValues, AreValues, IsEntry, AreEntries, is_blank, content}
use mathlib.Core.Path.{fun_ext}
use Rattle.std.proofs.lemmas.Str.Parse.{digit_from_value}
use Rattle.kahn_streams.specs.View.{Scope, place_of}
use Rattle.kahn_streams.proofs.Handed.{bytes_true}
use Rattle.kahn_texts.proofs.{Scanned.scanned, Scanned.same_tail, Words.letter_dark}

-- ---- a word is at most one value

first_by : (b : ℕ) (bs : List ℕ) (m p : Bool) → (b == 45) ≡ m → (b == 43) ≡ p → b ≢ 43 → 0 < length (cond m bs (drop (cond p 1 0) (b ∷ bs)))
    → AllDigits 10 (cond m bs (drop (cond p 1 0) (b ∷ bs))) → b < 65
first_by b bs true p e f first some digits = let is : b ≡ 45 = eqb-true b 45 e in omega (arith, is)
first_by b bs false true e f first some digits = absurd (first (eqb-true b 43 f))
first_by b bs false false e f first some digits = let h = digit_from_value b digits.0 in omega (arith, h.1)

-- a number begins with a minus or a digit
number_first : (b : ℕ) (bs : List ℕ) (n : ℤ) → IsValue (b ∷ bs) (Integer n) → b < 65
number_first b bs n (first, numeral, fits, is) = first_by b bs (b == 45) (b == 43) refl refl first numeral.0 numeral.1

lower_same : (b : ℕ) → b < 65 → to_ascii_lowercase b ≡ b
lower_same b below = ap (λ v. cond v b (cond (nat_lt b 91) (b + 32) b)) (lt-ltb b 65 below)

word_first : (b : ℕ) (bs word : List ℕ) → str_eq_ignore_ascii_case (b ∷ bs) word ≡ true → to_ascii_lowercase b ≡ slice_index (str_to_ascii_lowercase word) 0
word_first b bs word e = ap (λ l. slice_index l 0) (bytes_true (str_to_ascii_lowercase (b ∷ bs)) (str_to_ascii_lowercase word) e)

no_truth : {X : Type 0} (b : ℕ) (bs : List ℕ) (n : ℤ) (truth : Bool) → IsValue (b ∷ bs) (Integer n) → IsValue (b ∷ bs) (Logical truth) → X
no_truth b bs n true h g =
    let low = number_first b bs n h in
    let is : to_ascii_lowercase b ≡ 116 = word_first b bs (codes "true") g in
    let same = lower_same b low in
    absurd (omega (arith, low, is, same))
no_truth b bs n false h g =
    let low = number_first b bs n h in
    let is : to_ascii_lowercase b ≡ 102 = word_first b bs (codes "false") g in
    let same = lower_same b low in
    absurd (omega (arith, low, is, same))

no_both : {X : Type 0} (b : ℕ) (bs : List ℕ) → IsValue (b ∷ bs) (Logical true) → IsValue (b ∷ bs) (Logical false) → X
no_both b bs h g =
    let is : to_ascii_lowercase b ≡ 116 = word_first b bs (codes "true") h in
    let other : to_ascii_lowercase b ≡ 102 = word_first b bs (codes "false") g in
    absurd (omega (arith, is, other))

one_value : (b : ℕ) (bs : List ℕ) (v w : Value) → IsValue (b ∷ bs) v → IsValue (b ∷ bs) w → v ≡ w
one_value b bs (Integer n) (Integer m) h g = ap Integer (h.3 ∙ sym g.3)
one_value b bs (Integer n) (Logical t) h g = no_truth b bs n t h g
one_value b bs (Logical t) (Integer n) h g = no_truth b bs n t g h
one_value b bs (Logical true) (Logical false) h g = no_both b bs h g
one_value b bs (Logical false) (Logical true) h g = no_both b bs g h
one_value b bs v w h g = refl

one_spelling : (parts : List (List ℕ)) (vs ws : List Value) → SpellsValues parts vs → SpellsValues parts ws → vs ≡ ws
one_spelling [] [] [] h g = refl
one_spelling [] [] (w ∷ ws) h g = absurd g
one_spelling [] (v ∷ vs) ws h g = absurd h
one_spelling ([] ∷ parts) vs ws h g = one_spelling parts vs ws h g
one_spelling ((b ∷ bs) ∷ parts) [] ws h g = absurd h
one_spelling ((b ∷ bs) ∷ parts) (v ∷ vs) [] h g = absurd g
one_spelling ((b ∷ bs) ∷ parts) (v ∷ vs) (w ∷ ws) h g =
    ap (λ x. x ∷ vs) (one_value b bs v w h.0 g.0) ∙ ap (λ l. w ∷ l) (one_spelling parts vs ws h.1 g.1)

-- ---- a line is blank or one entry

blank_behind : (xs ys : List ℕ) → AreBlanks (xs ++ ys) → AreBlanks ys
blank_behind [] ys h = h
blank_behind (x ∷ xs) ys h = blank_behind xs ys (λ k d below. h (suc k) d (omega (arith, below)))

no_name : (name more : List ℕ) → AreBlanks (name ++ more) → IsName name → ⊥
no_name [] more blank named = never named.0
  where
    never : false ≡ true → ⊥
    never e = cc
no_name (a ∷ others) more blank named = never (sym (letter_dark a named.0) ∙ blank 0 a (omega arith))
  where
    never : false ≡ true → ⊥
    never e = cc

no_entry : {X : Type 0} (line : List ℕ) (e : Entry) → AreBlanks line → IsEntry line e → X
no_entry line e blank (rest, (before, between, whole, blanks, named, more), values) =
    absurd (no_name e.0 (between ++ (58 ∷ rest)) (blank_behind before (e.0 ++ (between ++ (58 ∷ rest))) (subst AreBlanks whole blank)) named)

one_entry : (line : List ℕ) (e f : Entry) → IsEntry line e → IsEntry line f → e ≡ f
one_entry line e f (r, head, values) (q, other, more) =
    let a = scanned line _ _ _ _ e.0 r refl refl refl refl head in
    let b = scanned line _ _ _ _ f.0 q refl refl refl refl other in
    let rests : r ≡ q = same_tail (sym a.1 ∙ b.1) in
    let ends : e.1 ≡ f.1 = one_spelling (slice_split is_blank r) e.1 f.1 values (subst (λ l. AreValues l f.1) (sym rests) more) in
    ap (λ (n : List ℕ). (n, e.1)) (a.0 ∙ sym b.0) ∙ ap (λ (v : List Value). (f.0, v)) ends

pub one_list : (lines : List (List ℕ)) (es fs : List Entry) → AreEntries lines es → AreEntries lines fs → es ≡ fs
one_list [] [] [] h g = refl
one_list [] [] (f ∷ fs) h g = absurd g
one_list [] (e ∷ es) fs h g = absurd h
one_list (line ∷ lines) [] [] h g = refl
one_list (line ∷ lines) [] (f ∷ fs) h (inl k) = one_list lines [] (f ∷ fs) h.1 k.1
one_list (line ∷ lines) [] (f ∷ fs) h (inr k) = no_entry (content line) f h.0 k.0
one_list (line ∷ lines) (e ∷ es) [] (inl h) g = one_list lines (e ∷ es) [] h.1 g.1
one_list (line ∷ lines) (e ∷ es) [] (inr h) g = no_entry (content line) e g.0 h.0
one_list (line ∷ lines) (e ∷ es) (f ∷ fs) (inl h) (inl g) = one_list lines (e ∷ es) (f ∷ fs) h.1 g.1
one_list (line ∷ lines) (e ∷ es) (f ∷ fs) (inl h) (inr g) = no_entry (content line) f h.0 g.0
one_list (line ∷ lines) (e ∷ es) (f ∷ fs) (inr h) (inl g) = no_entry (content line) e g.0 h.0
one_list (line ∷ lines) (e ∷ es) (f ∷ fs) (inr h) (inr g) =
    ap (λ x. x ∷ es) (one_entry (content line) e f h.0 g.0) ∙ ap (λ l. f ∷ l) (one_list lines es fs h.1 g.1)

-- ---- the lists that entries give

one_for : (t u : Program) → channel_names t ≡ channel_names u → (es : List Entry) (c : ℕ) → list_for t es c ≡ list_for u es c
one_for t u names [] c = refl
one_for t u names (e ∷ es) c =
    ap (λ (n : Scope). if place_of n e.0 == c then e.1 else list_for t es c) names
    ∙ ap (λ (l : List Value). if place_of (channel_names u) e.0 == c then e.1 else l) (one_for t u names es c)

pub one_input : (t u : Program) (es fs : List Entry) (i j : Lists) → channel_names t ≡ channel_names u → es ≡ fs → IsInputOf t es i → IsInputOf u fs j → inputs_of i ≡ inputs_of j
one_input t u es fs i j names same h g =
    fun_ext (λ c. h.lists c ∙ one_for t u names es c ∙ ap (λ l. list_for u l c) same ∙ sym (g.lists c))
