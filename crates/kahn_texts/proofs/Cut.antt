-- Values that are cut into pieces.
use Rattle.std.proofs.lemmas.{List.take_at, Option.same_Some}
use Rattle.kahn_texts.proofs.Common.{◌≡◌, ℕ, zero, suc, ◌+◌, ◌≤◌, Some, slice_get, take, take-append-drop, length-take-le, List, [], ◌∷◌, ◌++◌, length, drop, flat_map, ap, sym, ◌∙◌, append_assoc, arith, length-append, flat_map-append, flat_map_more, Value, spaced_text, piece_text}

-- one piece more, and the values behind it
pub one_piece : (pieces more : List (List Value)) (rest first after : List Value) (all : List ℕ) → more ≡ pieces ++ first ∷ [] → rest ≡ first ++ after
    → flat_map piece_text pieces ++ piece_text rest ≡ all → flat_map piece_text more ++ piece_text after ≡ all
one_piece pieces more rest first after all pushed split whole =
    let before = flat_map piece_text pieces in
    ap (λ l. l ++ piece_text after) (ap (flat_map piece_text) pushed ∙ sym (flat_map_more piece_text [] pieces first))
    ∙ append_assoc before (piece_text first) (piece_text after)
    ∙ ap (λ l. before ++ l) (sym (ap piece_text split ∙ flat_map-append spaced_text first after))
    ∙ whole

-- the first of a list, and some more
pub taken_on : {X : Type 0} (xs first rest : List X) (k : ℕ) → k ≤ length xs → drop k xs ≡ first ++ rest → take (k + length first) xs ≡ take k xs ++ first
taken_on xs first rest k le e =
    let whole : xs ≡ (take k xs ++ first) ++ rest = sym (take-append-drop k xs) ∙ ap (λ l. take k xs ++ l) e ∙ sym (append_assoc (take k xs) first rest) in
    let long : length (take k xs ++ first) ≡ k + length first = omega (arith, length-append (take k xs) first, length-take-le k xs le) in
    ap (take (k + length first)) whole ∙ take_at (take k xs ++ first) rest (k + length first) long

-- one of a list and those behind it
pub drop_on : {X : Type 0} (xs : List X) (k : ℕ) (x : X) → slice_get xs k ≡ Some x → drop k xs ≡ x ∷ drop (suc k) xs
drop_on [] k x e = absurd cc
drop_on (y ∷ xs) zero x e = ap (λ z. z ∷ xs) (same_Some y x e)
drop_on (y ∷ xs) (suc k) x e = drop_on xs k x e
