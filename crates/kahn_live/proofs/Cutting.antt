-- Where lines are cut.
use Rattle.kahn_live.proofs.Common.{[], ◌≡◌, ◌≢◌, ◌∙◌, ℕ, zero, suc, ◌+◌, ◌-◌, ◌<◌, ◌≤◌, min, eqb, cond, not, eqb-true, eq-eqb, false, true≢false, get_or, List, ◌∷◌, ◌++◌, ◌==◌, All, None, Some, Option, IfSome, Result, Ok, Err, IfOk, is_ok, is_err, if◌then◌else◌, take_all, ⊎_elim, length, take, arith, refl, sym, ap, append_assoc, append-nil, length-append, length-take, All-append, take_more, Consumes, IsAtEnd, Keeps, DropsThrough, drop_through, position_or_len, CutsLine}
use Rattle.std.proofs.{BufReadLemmas.drop_through-append, lemmas.Bool.cases_lt, lemmas.Bool.ne_eqb, lemmas.List.get_or-take, lemmas.List.nil_from_length, lemmas.List.Elements.All-head, lemmas.List.Elements.All-tail, lemmas.List.Sums.fails_before_first, lemmas.List.Sums.passes_at_first}
use Rattle.std.specs.List.{before_first}

-- what is kept of a text may be cut on the way
pub kept_more : (n : ℕ) (xs ys : List ℕ) → take n (take n xs ++ ys) ≡ take n (xs ++ ys)
kept_more zero xs ys = refl
kept_more (suc n) [] ys = refl
kept_more (suc n) (x ∷ xs) ys = ap (λ l. x ∷ l) (kept_more n xs ys)

take_min : (n k : ℕ) (xs : List ℕ) → k ≡ min n (length xs) → take k xs ≡ take n xs
take_min n k xs is = ⊎_elim (λ lt. ap (λ i. take i xs) (omega (arith, is, lt)))
    (λ ge. let all : length xs ≤ k = omega (arith, is, ge) in take_all k xs all ∙ sym (take_all n xs ge)) (cases_lt n (length xs))

-- a list that is filled up to a length
pub kept_front : (n : ℕ) (xs ys : List ℕ) (k : ℕ) → k ≡ min (n - length xs) (length ys) → length xs ≤ n → xs ++ take k ys ≡ take n (xs ++ ys)
kept_front n [] ys k is fits = take_min n k ys (omega (arith, is))
kept_front zero (x ∷ xs) ys k is fits = absurd (omega (arith, fits))
kept_front (suc n) (x ∷ xs) ys k is fits = ap (λ l. x ∷ l) (kept_front n xs ys k (omega (arith, is)) (omega (arith, fits)))

-- what a list becomes where memory wasn't refused
pub kept_where : {X E : Type 0} (r : Result X E) (old more new whole : List ℕ) → new ≡ (if is_ok r then old ++ more else old) → old ++ more ≡ whole → IfOk r (λ x. new ≡ whole)
kept_where (Ok x) old more new whole is e = is ∙ e
kept_where (Err x) old more new whole is e = tt

pub ok_where : {X E : Type 0} (r : Result X E) (P : Type 0) → IfOk r (λ x. P) → is_err r ≡ false → P
ok_where (Ok x) P p ok = p
ok_where (Err x) P p ok = absurd (true≢false ok)

-- no line feed stands before the first one, and it is the next
pub no_feed : (bytes : List ℕ) (n : ℕ) → n ≡ position_or_len (λ b. b == 10) bytes → All (λ b. b ≢ 10) (take n bytes)
no_feed bytes n is k d below = λ same.
    let within : k < n = omega (arith, below, length-take n bytes) in
    true≢false (sym (eq-eqb _ 10 same) ∙ ap (λ x. eqb x 10) (get_or-take n bytes k d within) ∙ fails_before_first (λ b. b == 10) bytes k d (omega (arith, within, is)))

pub through_feed : (bytes : List ℕ) (n : ℕ) → n ≡ position_or_len (λ b. b == 10) bytes → n < length bytes → take (n + 1) bytes ≡ take n bytes ++ (10 ∷ [])
through_feed bytes n is below = take_more bytes n 0 below
    ∙ ap (λ b. take n bytes ++ (b ∷ [])) (eqb-true _ 10 (ap (λ k. eqb (get_or bytes k 0) 10) is ∙ passes_at_first (λ b. b == 10) bytes 0 (omega (arith, below, is))))

-- bytes without a line feed stand before the first one
before : (front rest : List ℕ) → All (λ x. x ≢ 10) front → before_first (λ b. b == 10) (front ++ rest) ≡ front ++ before_first (λ b. b == 10) rest
before [] rest all = refl
before (x ∷ front) rest all =
    let n = position_or_len (λ b. b == 10) (front ++ rest) in
    let next : 1 + n ≡ suc n = omega arith in
    ap (λ b. take (cond (not b) (1 + n) 0) (x ∷ (front ++ rest))) (ne_eqb x 10 (All-head (λ y. y ≢ 10) x front all))
    ∙ ap (λ k. take k (x ∷ (front ++ rest))) next ∙ ap (λ l. x ∷ l) (before front rest (All-tail (λ y. y ≢ 10) x front all))

cut : (x front rest left : List ℕ) → All (λ y. y ≢ 10) front → x ≡ front ++ rest → 0 < length x → before_first (λ b. b == 10) rest ≡ [] → left ≡ drop_through 10 rest
    → CutsLine front (Some x) (Some left)
cut x front rest left all is some none drops = (
  (some, sym (ap (before_first (λ b. b == 10)) is ∙ before front rest all ∙ ap (λ l. front ++ l) none ∙ append-nil front)),
  ap Some (drops ∙ sym (ap (drop_through 10) is ∙ drop_through-append 10 front rest all)),
)

-- bytes without a line feed, and then a line feed
pub whole_line : (a b c : Option (List ℕ)) (line bytes : List ℕ) → All (λ x. x ≢ 10) line → All (λ x. x ≢ 10) bytes
    → Consumes a b line → Consumes b c (bytes ++ (10 ∷ [])) → CutsLine (line ++ bytes) a c
whole_line None b c line bytes all more p q = (tt, tt)
whole_line (Some x) None c line bytes all more p q = absurd p
whole_line (Some x) (Some y) None line bytes all more p q = absurd q
whole_line (Some x) (Some y) (Some z) line bytes all more p q =
    let is : x ≡ (line ++ bytes) ++ (10 ∷ z) = p ∙ ap (λ l. line ++ l) (q ∙ append_assoc bytes (10 ∷ []) z) ∙ sym (append_assoc line bytes (10 ∷ z)) in
    cut x (line ++ bytes) (10 ∷ z) z (All-append (λ x. x ≢ 10) line bytes all more) is (omega (arith, ap length is, length-append (line ++ bytes) (10 ∷ z))) refl refl

-- bytes without a line feed, and then the end
pub last_line : (a b c : Option (List ℕ)) (line : List ℕ) → All (λ x. x ≢ 10) line → Consumes a b line → IsAtEnd b → Keeps b c → 0 < length line → CutsLine line a c
last_line None b c line all p end kept some = (tt, tt)
last_line (Some x) None c line all p end kept some = absurd p
last_line (Some x) (Some y) None line all p end kept some = absurd kept
last_line (Some x) (Some y) (Some z) line all p end kept some =
    cut x line [] z all (p ∙ ap (λ l. line ++ l) end) (omega (arith, ap length p, length-append line y, some)) refl (kept ∙ end)

-- nothing was read, and there is nothing
pub at_end : (a b : Option (List ℕ)) (line : List ℕ) → Consumes a b line → IsAtEnd b → line ≡ [] → IsAtEnd a
at_end None b line p end none = tt
at_end (Some x) None line p end none = absurd p
at_end (Some x) (Some y) line p end none = p ∙ ap (λ l. l ++ y) none ∙ end

-- a line of which some was read, and the rest passed over
pub passed : (a b c d : Option (List ℕ)) (line : List ℕ) → All (λ x. x ≢ 10) line → Consumes a b line → IfSome b (λ text. 0 < length text) → Keeps b c → DropsThrough c d 10
    → (whole : List ℕ) × CutsLine whole a d
passed None b c d line all p some kept drops = ([], (tt, tt))
passed (Some x) None c d line all p some kept drops = absurd p
passed (Some x) (Some y) None d line all p some kept drops = absurd kept
passed (Some x) (Some y) (Some z) d line all p some kept drops = (
  before_first (λ b. b == 10) x,
  ((omega (arith, ap length p, length-append line y, some), refl), drops ∙ ap (λ l. Some (drop_through 10 l)) kept ∙ ap Some (sym (ap (drop_through 10) p ∙ drop_through-append 10 line y all))),
)

-- what is kept of a line that has some bytes, or none
pub kept_some : (n : ℕ) (line kept : List ℕ) → kept ≡ take n line → (length kept == 0) ≡ false → 0 < length line
kept_some n line [] is some = absurd (true≢false some)
kept_some n line (x ∷ kept) is some = omega (arith, ap length is, length-take n line)

pub kept_none : (n : ℕ) (line kept : List ℕ) → 0 < n → kept ≡ take n line → length kept ≡ 0 → line ≡ []
kept_none n line kept many is none = nil_from_length line (omega (arith, many, ap length is, length-take n line, none))
