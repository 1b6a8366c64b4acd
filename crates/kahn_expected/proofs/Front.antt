-- The lexemes before a fault.
use Rattle.kahn_expected.proofs.Common.{AreLexemes, AreWanted, BeginsWithin, Expected, IsAtFault, IsFault, IsInstead, IsLexFault, IsPlace, IsTextFault, Lexeme, List, More, Nothing, Other, Some, Span, Spells, StandsBehind, Unexpected, What, [], add-one, ap, append-nil, append_assoc, arith, drop, drop-cons, get_or, get_or-append_seam, get_or_from_slice_get, le_or, length, length-append, same_lexemes, slice_get, slice_get-get_or, slice_get_past, slice_get_within, subst, sym, take, take-append-drop, take-append-le, take_all, terminals, terminals_append, ℕ, ⊎_elim, ◌++◌, ◌+◌, ◌<◌, ◌∙◌, ◌∷◌, ◌≡◌, ◌≤◌}

-- what begins with more within the limit begins with less
within_front : (text : List ℕ) (n : ℕ) (before : List Lexeme) → BeginsWithin (terminals text before) → BeginsWithin (terminals text (take n before))
within_front text n before (t, after, h, small) =
    let e : terminals text before ≡ terminals text (take n before) ++ terminals text (drop n before) =
    ap (terminals text) (sym (take-append-drop n before)) ∙ terminals_append text (take n before) (drop n before) in
    (t, terminals text (drop n before) ++ after, subst (Spells t) (ap (λ l. l ++ after) e ∙ append_assoc _ _ after) h, small)

pub within_first : (text : List ℕ) (xs : List Lexeme) (span : Span) (n : ℕ) → StandsBehind text xs span
    → ((k : ℕ) (d : Lexeme) → k < n → (get_or xs k d).span ≡ span → ⊥) → BeginsWithin (terminals text (take n xs))
within_first text xs span n (before, x, after, e, is, within) first =
    let few : n ≤ length before = ⊎_elim (λ h. h) (λ h. absurd (first (length before) x h (ap (λ (y : Lexeme). y.span) (ap (λ l. get_or l (length before) x) e ∙ get_or-append_seam before x after x) ∙ sym is))) (le_or n (length before)) in
    subst (λ l. BeginsWithin (terminals text l)) (sym (ap (take n) e ∙ take-append-le n before (x ∷ after) few)) (within_front text n before within)

pub below_all : (text : List ℕ) (xs : List Lexeme) (span : Span) (n : ℕ) → StandsBehind text xs span
    → ((k : ℕ) (d : Lexeme) → k < n → (get_or xs k d).span ≡ span → ⊥) → n ≤ length xs → n < length xs
below_all text xs span n (before, x, after, e, is, within) first most =
    let many : length xs ≡ length before + (length after + 1) = ap length e ∙ length-append before (x ∷ after) ∙ omega arith in
    ⊎_elim (λ h. omega (arith, h, many, most))
    (λ h. absurd (first (length before) x h (ap (λ (y : Lexeme). y.span) (ap (λ l. get_or l (length before) x) e ∙ get_or-append_seam before x after x) ∙ sym is))) (le_or n (length before))

-- the fault of a text is that of its lexemes
pub of_lexemes : (text : List ℕ) (ys : List Lexeme) (span : Span) (what : What) → AreLexemes text ys → IsTextFault text (Expected span what) → IsFault text ys (Expected span what)
of_lexemes text ys span what a h =
    ⊎_elim (λ (f : IsLexFault text (Expected span what)). absurd f.2) (λ r. subst (λ l. IsFault text l (Expected span what)) (same_lexemes text 0 (length text) r.0 ys r.1.1 a.1) r.2) h

pub at_end : (text : List ℕ) (ys : List Lexeme) (span : Span) → IsFault text ys (Expected span More) → BeginsWithin (terminals text ys)
at_end text ys span h = h.2

pub at_other : (text : List ℕ) (ys : List Lexeme) (span : Span) → IsFault text ys (Expected span Other) → StandsBehind text ys span
at_other text ys span (before, x, after, e, is, h) = (before, x, after, e, is, h.0)

pub at_nothing : (text : List ℕ) (ys : List Lexeme) (span : Span) → IsFault text ys (Expected span Nothing) → StandsBehind text ys span
at_nothing text ys span (before, x, after, e, is, ((t, h, small), none)) = (before, x, after, e, is, (t, [], subst (Spells t) (sym (append-nil _)) h, small))

pub cut_at : (xs : List Lexeme) (n : ℕ) (d : Lexeme) → n < length xs → xs ≡ take n xs ++ get_or xs n d ∷ drop (n + 1) xs
cut_at xs n d below =
    let e : drop n xs ≡ get_or xs n d ∷ drop (n + 1) xs = rw add-one (drop-cons xs n d below) in
    sym (take-append-drop n xs) ∙ ap (λ l. take n xs ++ l) e

-- the lexeme with the span is found
pub found_there : (text : List ℕ) (xs : List Lexeme) (span : Span) (n : ℕ) → StandsBehind text xs span
    → ((k : ℕ) (d : Lexeme) → k < n → (get_or xs k d).span ≡ span → ⊥) → n ≤ length xs → ((d : Lexeme) → n < length xs → (get_or xs n d).span ≡ span)
    → (x : Lexeme) × (slice_get xs n ≡ Some x) × (span ≡ x.span)
found_there text xs span n (before, x, after, e, is, within) first most found =
    let below : n < length xs = below_all text xs span n (before, x, after, e, is, within) first most in
    (get_or xs n x, slice_get-get_or xs n x below, sym (found x below))

-- a lexeme that stands there
instead : (text : List ℕ) (xs : List Lexeme) (span : Span) (n : ℕ) (u : Unexpected) (x : Lexeme) → slice_get xs n ≡ Some x → span ≡ x.span → u.found ≡ slice_get xs n
    → AreWanted (terminals text (take n xs)) u.wanted → IsInstead text xs span u
instead text xs span n u x there same found wanted = (take n xs, x, drop (n + 1) xs, subst (λ y. xs ≡ take n xs ++ y ∷ drop (n + 1) xs) (get_or_from_slice_get xs n x x there) (cut_at xs n x (slice_get_within xs n x there)), same, found ∙ there, wanted)

-- what stands where lexemes go wrong
pub at_place : (text : List ℕ) (xs : List Lexeme) (span : Span) (what : What) (n : ℕ) (u : Unexpected) → IsPlace xs span what n → u.found ≡ slice_get xs n
    → AreWanted (terminals text (take n xs)) u.wanted → IsAtFault text xs span what u
at_place text xs span More n u is found wanted =
    (found ∙ ap (slice_get xs) is ∙ slice_get_past xs (length xs) (omega arith), subst (λ l. AreWanted (terminals text l) u.wanted) (ap (λ k. take k xs) is ∙ take_all (length xs) xs (omega arith)) wanted)
at_place text xs span Nothing n u (x, there, same) found wanted = instead text xs span n u x there same found wanted
at_place text xs span Other n u (x, there, same) found wanted = instead text xs span n u x there same found wanted
