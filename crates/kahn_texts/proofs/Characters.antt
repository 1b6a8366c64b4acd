-- What is shown of a text, one character after another, and places beyond its end.
use Rattle.std.proofs.Common.{◌≡◌, ◌<◌, ◌≤◌, ◌==◌, ⊎_elim, ℕ, ◌+◌, zero, suc, List, [], ◌∷◌, ◌++◌, length, length-append, refl, sym, subst, ap, ◌∙◌, add-one, append_assoc, append-nil, arith, chars, encode_utf8, flat_map, count_by, min, not, take, true, false, if◌then◌else◌}
use Rattle.std.proofs.lemmas.Str.{chars-nil}
use Rattle.std.proofs.lemmas.{Bool.cases_lt, List.take_all}
use Rattle.std.specs.List.{suffix_len}
use Rattle.kahn_streams.specs.Place.{column_of, line_of}
use Rattle.kahn_texts.specs.Shown.{ends_before, shown_character, shown_length, times_over}

pub none_left : (xs : List ℕ) → length xs ≡ 0 → xs ≡ []
none_left [] e = refl
none_left (x ∷ xs) e = absurd (omega (arith, e))

-- of a text that is shown, one character more
pub shown_more : (c : ℕ) (cs ds old new all : List ℕ) → cs ≡ c ∷ ds → new ≡ old ++ shown_character c → old ++ flat_map shown_character cs ≡ all
    → new ++ flat_map shown_character ds ≡ all
shown_more c cs ds old new all is added before =
    ap (λ l. l ++ flat_map shown_character ds) added ∙ append_assoc old (shown_character c) (flat_map shown_character ds)
    ∙ ap (λ l. old ++ flat_map shown_character l) (sym is) ∙ before

-- and none
pub shown_whole : (rest text all : List ℕ) → length rest ≡ 0 → text ++ flat_map shown_character (chars rest) ≡ all → text ≡ all
shown_whole rest text all none before =
    sym (append-nil text) ∙ ap (λ l. text ++ flat_map shown_character l) (sym (ap chars (none_left rest none) ∙ chars-nil)) ∙ before

-- once more, at the end
pub once_more : (n : ℕ) (piece : List ℕ) → times_over (suc n) piece ≡ times_over n piece ++ piece
once_more zero piece = append-nil piece
once_more (suc n) piece = ap (λ l. piece ++ l) (once_more n piece) ∙ sym (append_assoc piece (times_over n piece) piece)

pub repeated_more : (n : ℕ) (piece old mid new : List ℕ) → mid ≡ old ++ times_over n piece → new ≡ mid ++ piece → new ≡ old ++ times_over (n + 1) piece
repeated_more n piece old mid new before added =
    added ∙ ap (λ l. l ++ piece) before ∙ append_assoc old (times_over n piece) piece
    ∙ ap (λ l. old ++ l) (sym (once_more n piece)) ∙ ap (λ k. old ++ times_over k piece) (sym (add-one n))

-- the place of a byte that a text hasn't is that of its end
same_take : (l : List ℕ) (n m : ℕ) → m ≡ min n (length l) → take m l ≡ take n l
same_take l n m e = ⊎_elim within past (cases_lt n (length l))
  where
    within : n < length l → take m l ≡ take n l
    within lt = let same : m ≡ n = omega (arith, e, lt) in ap (λ k. take k l) same

    past : length l ≤ n → take m l ≡ take n l
    past le = let more : length l ≤ m = omega (arith, e, le) in take_all m l more ∙ sym (take_all n l le)

pub same_line : (l : List ℕ) (n m : ℕ) → m ≡ min n (length l) → line_of l m ≡ line_of l n
same_line l n m e = ap (λ x. count_by (λ b. b == 10) x + 1) (same_take l n m e)

pub same_column : (l : List ℕ) (n m : ℕ) → m ≡ min n (length l) → column_of l m ≡ column_of l n
same_column l n m e = ap (λ x. suffix_len (λ b. not (b == 10)) x + 1) (same_take l n m e)

none_more : (at c : ℕ) (ds : List ℕ) → ends_before at c ≡ true → shown_length at (c ∷ ds) ≡ 0
none_more at c ds stop = ap (λ b. if b then 0 else length (encode_utf8 c) + shown_length (at + length (encode_utf8 c)) ds) stop

one_more : (at c : ℕ) (ds : List ℕ) → ends_before at c ≡ false → shown_length at (c ∷ ds) ≡ length (encode_utf8 c) + shown_length (at + length (encode_utf8 c)) ds
one_more at c ds on = ap (λ b. if b then 0 else length (encode_utf8 c) + shown_length (at + length (encode_utf8 c)) ds) on

-- it ends here
pub ends : (whole here at c : ℕ) (cs ds : List ℕ) → whole ≡ here + shown_length here cs → cs ≡ c ∷ ds → at ≡ here → ends_before at c ≡ true → at ≡ whole
ends whole here at c cs ds before is same stop =
    omega (arith, before, ap (shown_length here) is, none_more here c ds (subst (λ n. ends_before n c ≡ true) same stop), same)

-- or a character further on
pub goes_on : (whole here at next c : ℕ) (cs ds : List ℕ) → whole ≡ here + shown_length here cs → cs ≡ c ∷ ds → at ≡ here → next ≡ here + length (encode_utf8 c)
    → ends_before at c ≡ false → whole ≡ next + shown_length next ds
goes_on whole here at next c cs ds before is same step on =
    omega (arith, before, ap (shown_length here) is, one_more here c ds (subst (λ n. ends_before n c ≡ false) same on), step, ap (λ n. shown_length n ds) step)

pub same_end : (end here next c : ℕ) (rest behind : List ℕ) → here + length rest ≡ end → rest ≡ encode_utf8 c ++ behind → next ≡ here + length (encode_utf8 c)
    → next + length behind ≡ end
same_end end here next c rest behind before is step = omega (arith, before, ap length is, length-append (encode_utf8 c) behind, step)

-- or at the end of the text
pub at_end : (whole end here : ℕ) (rest : List ℕ) → here + length rest ≡ end → whole ≡ here + shown_length here (chars rest) → length rest ≡ 0 → end ≡ whole
at_end whole end here rest before is none =
    omega (arith, before, is, none, ap (shown_length here) (ap chars (none_left rest none) ∙ chars-nil))
