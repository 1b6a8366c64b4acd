-- A line read from the left: blanks, a word, blanks, a colon.
use Rattle.kahn_texts.proofs.Common.{inl, inr, le_antisymm, Some, None, nat_lt, ◌≤◌, arith, ◌≡◌, ◌∙◌, ◌+◌, ◌<◌, ℕ, zero, suc, List, [], ◌∷◌, ◌++◌, length, take, drop, Bool, true, false, not, cond, All, refl, sym, ap, subst, take-append-drop, position, position_or_len, prefix_len, unwrap_or, leb_tells, lt-ltb, take-append_seam, drop-append_seam, HasHead, IsName, AreBlanks, is_blank, is_word_byte}
use Rattle.std.proofs.lemmas.List.Sums.{prefix_len-le-length}
use Rattle.kahn_texts.proofs.Words.{letter_dark, blank_apart}

-- the place of the first byte that fails a test
abbrev pub stop : (ℕ → Bool) → List ℕ → ℕ
stop p bytes = position_or_len (λ b. not (p b)) bytes

all_tail : (P : ℕ → Type 0) (x : ℕ) (xs : List ℕ) → All P (x ∷ xs) → All P xs
all_tail P x xs h k d below = h (suc k) d (omega (arith, below))

all_cons : (P : ℕ → Type 0) (x : ℕ) (xs : List ℕ) → P x → All P xs → All P (x ∷ xs)
all_cons P x xs first h zero d below = first
all_cons P x xs first h (suc k) d below = h k d (omega (arith, below))

all_none : (P : ℕ → Type 0) → All P []
all_none P k d below = absurd (omega (arith, below))

one_on : (n : ℕ) → 1 + n ≡ suc n
one_on n = omega arith

run_stop : (p : ℕ → Bool) (xs : List ℕ) (y : ℕ) (ys : List ℕ) → All (λ b. p b ≡ true) xs → p y ≡ false → stop p (xs ++ (y ∷ ys)) ≡ length xs
run_stop p [] y ys all fails = ap (λ v. cond (not (not v)) (1 + prefix_len (λ b. not (not (p b))) ys) 0) fails
run_stop p (x ∷ xs) y ys all fails =
    ap (λ v. cond (not (not v)) (1 + stop p (xs ++ (y ∷ ys))) 0) (all 0 x (omega arith))
    ∙ ap (λ n. 1 + n) (run_stop p xs y ys (all_tail (λ b. p b ≡ true) x xs all) fails) ∙ one_on (length xs)

-- bytes that pass, and then one that fails: where the reading stops
pub stopped : (p : ℕ → Bool) (line xs : List ℕ) (y : ℕ) (ys : List ℕ) → line ≡ xs ++ (y ∷ ys) → All (λ b. p b ≡ true) xs → p y ≡ false
    → (take (stop p line) line ≡ xs) × (drop (stop p line) line ≡ y ∷ ys)
stopped p line xs y ys e all fails =
    subst (λ l. (take (stop p l) l ≡ xs) × (drop (stop p l) l ≡ y ∷ ys)) (sym e)
    (subst (λ n. (take n (xs ++ (y ∷ ys)) ≡ xs) × (drop n (xs ++ (y ∷ ys)) ≡ y ∷ ys)) (sym (run_stop p xs y ys all fails))
    (take-append_seam xs (y ∷ ys), drop-append_seam xs (y ∷ ys)))

-- what is passed passes
pub all_passed : (p : ℕ → Bool) (xs : List ℕ) → All (λ b. p b ≡ true) (take (stop p xs) xs)
all_passed p [] = all_none (λ b. p b ≡ true)
all_passed p (x ∷ xs) =
    let rest = all_passed p xs in
    let by : (v : Bool) → p x ≡ v → All (λ b. p b ≡ true) (take (cond (not (not v)) (1 + stop p xs) 0) (x ∷ xs)) = λ v e. passed_by p x xs v e rest in
    by (p x) refl
  where
    passed_by : (p : ℕ → Bool) (x : ℕ) (xs : List ℕ) (v : Bool) → p x ≡ v → All (λ b. p b ≡ true) (take (stop p xs) xs)
        → All (λ b. p b ≡ true) (take (cond (not (not v)) (1 + stop p xs) 0) (x ∷ xs))
    passed_by p x xs true e rest =
        subst (λ n. All (λ b. p b ≡ true) (take n (x ∷ xs))) (sym (one_on (stop p xs))) (all_cons (λ b. p b ≡ true) x (take (stop p xs) xs) e rest)
    passed_by p x xs false e rest = all_none (λ b. p b ≡ true)

-- the parts that were read, put together
pub found : (line text word after tail rest : List ℕ) → text ≡ drop (stop is_blank line) line → word ≡ take (stop is_word_byte text) text
    → after ≡ drop (stop is_word_byte text) text → tail ≡ drop (stop is_blank after) after → tail ≡ 58 ∷ rest → IsName word → HasHead line word rest
found line text word after tail rest is_text is_word is_after is_tail colon name =
    let n = stop is_blank line in
    let k = stop is_blank after in
    let last : after ≡ take k after ++ (58 ∷ rest) = sym (take-append-drop k after) ∙ ap (λ l. take k after ++ l) (sym is_tail ∙ colon) in
    let middle : text ≡ word ++ after = sym (take-append-drop (stop is_word_byte text) text) ∙ ap (λ l. l ++ drop (stop is_word_byte text) text) (sym is_word) ∙ ap (λ l. word ++ l) (sym is_after) in
    let whole : line ≡ take n line ++ (word ++ (take k after ++ (58 ∷ rest))) =
    sym (take-append-drop n line) ∙ ap (λ l. take n line ++ l) (sym is_text ∙ middle ∙ ap (λ l. word ++ l) last) in
    (take n line, take k after, whole, all_passed is_blank line, name, all_passed is_blank after)

-- the word stops at what follows it
word_stopped : (text name between rest : List ℕ) → text ≡ name ++ (between ++ (58 ∷ rest)) → All (λ b. is_word_byte b ≡ true) name → AreBlanks between
    → (take (stop is_word_byte text) text ≡ name) × (drop (stop is_word_byte text) text ≡ between ++ (58 ∷ rest))
word_stopped text name [] rest e word blank = stopped is_word_byte text name 58 rest e word refl
word_stopped text name (w ∷ ws) rest e word blank = stopped is_word_byte text name w (ws ++ (58 ∷ rest)) e word (blank_apart w (blank 0 w (omega arith)))

-- the blanks before a name stop at it
name_stopped : (line before name more : List ℕ) → line ≡ before ++ (name ++ more) → AreBlanks before → IsName name → drop (stop is_blank line) line ≡ name ++ more
name_stopped line before [] more e blank (letter, word, short) = absurd (false_is letter)
  where
    false_is : false ≡ true → ⊥
    false_is h = cc
name_stopped line before (a ∷ others) more e blank (letter, word, short) = (stopped is_blank line before a (others ++ more) e blank (letter_dark a letter)).1

-- a line has no other head than what was read
pub scanned : (line text word after tail name rest : List ℕ) → text ≡ drop (stop is_blank line) line → word ≡ take (stop is_word_byte text) text
    → after ≡ drop (stop is_word_byte text) text → tail ≡ drop (stop is_blank after) after → HasHead line name rest
    → (name ≡ word) × (tail ≡ 58 ∷ rest) × IsName name
scanned line text word after tail name rest is_text is_word is_after is_tail (before, between, whole, blank, named, blanks) =
    let here : text ≡ name ++ (between ++ (58 ∷ rest)) = is_text ∙ name_stopped line before name (between ++ (58 ∷ rest)) whole blank named in
    let (this, next) = word_stopped text name between rest here named.1 blanks in
    let end = stopped is_blank after between 58 rest (is_after ∙ next) blanks refl in
    (sym this ∙ sym is_word, is_tail ∙ end.1, named)

never : false ≡ true → ⊥
never h = cc

by_test : (n m : ℕ) (b : Bool) → (n < m → b ≡ true) → n ≤ m → unwrap_or (cond b (Some n) None) m ≡ n
by_test n m true told below = refl
by_test n m false told below = elim (leb_tells m n) [ inl (told_so, h) ↦ le_antisymm h below | inr (told_not, less) ↦ absurd (never (told less)) ]

-- where no byte fails the test, the reading stops at the end
pub stop_of : (q : ℕ → Bool) (xs : List ℕ) → unwrap_or (position q xs) (length xs) ≡ position_or_len q xs
stop_of q xs = by_test (position_or_len q xs) (length xs) (nat_lt (position_or_len q xs) (length xs)) (lt-ltb (position_or_len q xs) (length xs)) (prefix_len-le-length (λ b. not (q b)) xs)

-- what follows the same first byte
pub same_tail : {b : ℕ} {xs ys : List ℕ} → (b ∷ xs) ≡ (b ∷ ys) → xs ≡ ys
same_tail e = ap (drop 1) e
