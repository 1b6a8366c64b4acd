-- The characters of a line, one after another.
use Rattle.kahn_texts.proofs.Characters.{none_left}
use Rattle.kahn_diagnostic.proofs.Common.{◌≡◌, ◌==◌, ◌<◌, ◌≤◌, ⊎_elim, ℕ, ◌+◌, zero, suc, List, [], ◌∷◌, ◌++◌, length, refl, sym, ap, ◌∙◌, add-one, append_assoc, append-nil, arith, chars, encode_utf8, flat_map, IsUtf8, chars-nil, chars-append, encodes-chars, encode_utf8_all, false, if◌then◌else◌, length-append, length-encode, len_utf8_bounds, Row, is_within, near_piece, piece_of, shown_character, shown_row, with_places, times_over, cases_lt, column_of, count_by, line_of, min, not, suffix_len, take, take_all}
use Rattle.std.proofs.lemmas.{Bool.Decides.nat_tests, List.Concat.flat_map-append}
use Rattle.kahn_streams.specs.declared.span.Span.{Span}
use Rattle.std.specs.Prelude.{decimal, drop}
use Rattle.kahn_diagnostic.proofs.Common.{IsCharBoundary, IsUtf8-take}
use Rattle.std.proofs.lemmas.List.{length-take, take-append-drop}
use Rattle.kahn_diagnostic.specs.Marks.{begun_within, heading, marked_as, near_of, rows_text}

-- what is written of characters, the first of which begins at `at`
abbrev pub written : Row → Span → Span → ℕ → List ℕ → List ℕ
written row near part at cs = flat_map (λ p. piece_of row near part p.0 p.1) (with_places at cs)

-- one character more
pub moved : (row : Row) (from bytes : Span) (here at next c : ℕ) (cs ds old new all : List ℕ) → here ≡ at → cs ≡ c ∷ ds → next ≡ at + length (encode_utf8 c)
    → new ≡ old ++ piece_of row from bytes here c → old ++ written row from bytes at cs ≡ all → new ++ written row from bytes next ds ≡ all
moved row from bytes here at next c cs ds old new all same is step added before =
    ap (λ l. l ++ written row from bytes next ds) (added ∙ ap (λ n. old ++ piece_of row from bytes n c) same)
    ∙ append_assoc old (piece_of row from bytes at c) (written row from bytes next ds)
    ∙ ap (λ n. old ++ (piece_of row from bytes at c ++ written row from bytes n ds)) step
    ∙ ap (λ l. old ++ written row from bytes at l) (sym is)
    ∙ before

-- and none
pub done : (row : Row) (from bytes : Span) (at : ℕ) (rest text all : List ℕ) → length rest ≡ 0 → text ++ written row from bytes at (chars rest) ≡ all → text ≡ all
done row from bytes at rest text all none before =
    sym (append-nil text) ∙ ap (λ l. text ++ written row from bytes at l) (sym (ap chars (none_left rest none) ∙ chars-nil)) ∙ before

-- nothing is shown of characters before what is shown, and nothing behind it
hidden : (row : Row) (near part : Span) (at c : ℕ) → is_within near at ≡ false → piece_of row near part at c ≡ []
hidden row near part at c out = ap (λ b. if b then near_piece row part at c else []) out

before_it : (near : Span) (at : ℕ) → at < near.from → is_within near at ≡ false
before_it near at h = grind (arith, nat_tests, h)

behind_it : (near : Span) (at : ℕ) → near.to ≤ at → is_within near at ≡ false
behind_it near at h = grind (arith, nat_tests, h)

pub none_before : (row : Row) (near part : Span) (at : ℕ) (cs : List ℕ) → at + length (encode_utf8_all cs) ≤ near.from → written row near part at cs ≡ []
none_before row near part at [] h = refl
none_before row near part at (c ∷ cs) h =
    let room = length-append (encode_utf8 c) (encode_utf8_all cs) in
    let one = (len_utf8_bounds c).0 in
    let size = length-encode c in
    ap (λ l. l ++ written row near part (at + length (encode_utf8 c)) cs) (hidden row near part at c (before_it near at (omega (arith, h, room, one, size))))
    ∙ none_before row near part (at + length (encode_utf8 c)) cs (omega (arith, h, room))

pub none_behind : (row : Row) (near part : Span) (at : ℕ) (cs : List ℕ) → near.to ≤ at → written row near part at cs ≡ []
none_behind row near part at [] h = refl
none_behind row near part at (c ∷ cs) h =
    ap (λ l. l ++ written row near part (at + length (encode_utf8 c)) cs) (hidden row near part at c (behind_it near at h))
    ∙ none_behind row near part (at + length (encode_utf8 c)) cs (omega (arith, h))

places-append : (at : ℕ) (xs ys : List ℕ) → with_places at (xs ++ ys) ≡ with_places at xs ++ with_places (at + length (encode_utf8_all xs)) ys
places-append at [] ys = ap (λ n. with_places n ys) (add_none at)
  where
    add_none : (n : ℕ) → n ≡ n + 0
    add_none n = omega arith
places-append at (x ∷ xs) ys =
    ap (λ l. (at, x) ∷ l) (places-append (at + length (encode_utf8 x)) xs ys
    ∙ ap (λ n. with_places (at + length (encode_utf8 x)) xs ++ with_places n ys) (omega (arith, length-append (encode_utf8 x) (encode_utf8_all xs))))

-- a row is that of the characters from a boundary on that isn't behind the beginning of what is shown
pub from_front : (row : Row) (near part : Span) (text front rest : List ℕ) (first : ℕ) → IsUtf8 front → text ≡ front ++ rest → length front ≡ first → first ≤ near.from
    → shown_row row text near part ≡ written row near part first (chars rest)
from_front row near part text front rest first utf8 is size low =
    let same = encodes-chars front utf8 in
    let long = ap length same in
    ap (λ l. written row near part 0 (chars l)) is
    ∙ ap (λ l. written row near part 0 l) (chars-append front rest utf8)
    ∙ ap (λ l. flat_map (λ p. piece_of row near part p.0 p.1) l) (places-append 0 (chars front) (chars rest))
    ∙ flat_map-append (λ p. piece_of row near part p.0 p.1) (with_places 0 (chars front)) (with_places (0 + length (encode_utf8_all (chars front))) (chars rest))
    ∙ ap (λ l. l ++ written row near part (0 + length (encode_utf8_all (chars front))) (chars rest)) (none_before row near part 0 (chars front) (omega (arith, long, size, low)))
    ∙ ap (λ n. written row near part n (chars rest)) (omega (arith, long, size))

pub begun : (row : Row) (near part : Span) (text remains old : List ℕ) (first offset : ℕ) → IsUtf8 text → IsCharBoundary text first → first ≤ near.from → remains ≡ drop first text → offset ≡ 0
    → old ++ written row near part (first + offset) (chars remains) ≡ old ++ shown_row row text near part
begun row near part text remains old first offset utf8 cut low is none =
    let front = take first text in
    let size : length front ≡ first = omega (arith, length-take first text, cut.0) in
    ap (λ l. old ++ written row near part (first + offset) (chars l)) is
    ∙ ap (λ n. old ++ written row near part n (chars (drop first text))) (omega (arith, none))
    ∙ ap (λ l. old ++ l) (sym (from_front row near part text front (drop first text) first (IsUtf8-take text first utf8 cut) (sym (take-append-drop first text)) size low))

-- the row is whole where what is left is behind what is shown
pub cut : (row : Row) (near part : Span) (at here : ℕ) (rest text all : List ℕ) → here ≡ at → near.to ≤ here → text ++ written row near part at (chars rest) ≡ all → text ≡ all
cut row near part at here rest text all same far before =
    sym (append-nil text) ∙ ap (λ l. text ++ l) (sym (none_behind row near part at (chars rest) (omega (arith, same, far)))) ∙ before

-- the lines of a part, by what was found of its place
pub marked : (text source number : List ℕ) (span near : Span) (line from : ℕ) → source ≡ text → number ≡ decimal line → line ≡ line_of text span.from → from ≡ min span.from (length source)
    → near ≡ near_of text from → rows_text source number near (record { from = from; to = span.to }) ≡ rows_text text (decimal (line_of text span.from)) (near_of text (min span.from (length text))) (begun_within text span)
marked text source number span near line from e0 e1 e2 e3 e4 =
    let place : from ≡ min span.from (length text) = e3 ∙ ap (λ l. min span.from (length l)) e0 in
    ap (λ l. rows_text l number near (record { from = from; to = span.to })) e0
    ∙ ap (λ l. rows_text text l near (record { from = from; to = span.to })) (e1 ∙ ap decimal e2)
    ∙ ap (λ l. rows_text text (decimal (line_of text span.from)) l (record { from = from; to = span.to })) e4
    ∙ ap (λ n. rows_text text (decimal (line_of text span.from)) (near_of text n) (record { from = n; to = span.to })) place

pub marked_more : (old mid new sort path words text source number : List ℕ) (span near : Span) (line from : ℕ) → source ≡ text → number ≡ decimal line → line ≡ line_of text span.from
    → from ≡ min span.from (length source) → near ≡ near_of text from → mid ≡ old ++ heading sort path text span.from words
    → new ≡ mid ++ rows_text source number near (record { from = from; to = span.to }) → new ≡ old ++ marked_as sort path text span words
marked_more old mid new sort path words text source number span near line from e0 e1 e2 e3 e4 first more =
    more ∙ ap (λ l. l ++ rows_text source number near (record { from = from; to = span.to })) first
    ∙ append_assoc old (heading sort path text span.from words) (rows_text source number near (record { from = from; to = span.to }))
    ∙ ap (λ l. old ++ (heading sort path text span.from words ++ l)) (marked text source number span near line from e0 e1 e2 e3 e4)
