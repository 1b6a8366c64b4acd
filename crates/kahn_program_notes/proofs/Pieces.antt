-- What may stand at a place, piece by piece.
use Rattle.kahn_program_notes.proofs.Common.{◌≡◌, ◌<◌, ◌+◌, ◌-◌, ◌∙◌, ℕ, List, [], ◌++◌, ap, append-nil, append_assoc, arith, drop, get_or, length, length-append, map, refl, sym, at_drop_more, length-drop, length-map, listed, text_end_words, separator}
use Rattle.std.specs.List.{concat}
use Rattle.kahn_syntax.specs.{declared.fault.What.What, declared.fault.What.TheVariants.More, declared.fault.What.TheVariants.Nothing, declared.fault.What.TheVariants.Other}

-- one on, where others come behind these
pub listed_on : {A : Type 0} (f : A → List ℕ) (xs : List A) (i : ℕ) (d : A) (rest : List (List ℕ)) (left : ℕ) (old new all piece sep : List ℕ) → i < length xs
    → left ≡ length xs - i - 1 + length rest → piece ≡ f (get_or xs i d) → sep ≡ separator left → new ≡ old ++ (piece ++ (sep ++ []))
    → old ++ listed (map f (drop i xs) ++ rest) ≡ all → new ++ listed (map f (drop (i + 1) xs) ++ rest) ≡ all
listed_on f xs i d rest left old new all piece sep below count is what grown so_far =
    let x = f (get_or xs i d) in
    let more = map f (drop (i + 1) xs) ++ rest in
    let few : length (map f (drop (i + 1) xs)) ≡ length xs - (i + 1) = length-map (drop (i + 1) xs) f ∙ length-drop (i + 1) xs in
    let many : length more ≡ left = length-append (map f (drop (i + 1) xs)) rest ∙ omega (arith, few, count, below) in
    let step : listed (map f (drop i xs) ++ rest) ≡ x ++ (separator (length more) ++ listed more) = at_drop_more (λ l. listed (map f l ++ rest)) xs i d below in
    ap (λ l. l ++ listed more) (grown ∙ ap (λ l. old ++ (l ++ (sep ++ []))) is ∙ ap (λ l. old ++ (x ++ l)) (append-nil sep ∙ what ∙ ap separator (sym many)))
    ∙ append_assoc old (x ++ separator (length more)) (listed more)
    ∙ ap (λ l. old ++ l) (append_assoc x (separator (length more)) (listed more) ∙ sym step)
    ∙ so_far

-- the last of them
pub last_listed : (w : What) → listed (text_end_words w) ≡ concat (text_end_words w)
last_listed Nothing = refl
last_listed More = refl
last_listed Other = refl

-- three parts of a piece
pub regrouped : (old a b c sep : List ℕ) → old ++ (a ++ (b ++ (c ++ sep))) ≡ old ++ ((a ++ (b ++ c)) ++ sep)
regrouped old a b c sep = ap (λ l. old ++ l) (sym (append_assoc a (b ++ c) sep ∙ ap (λ l. a ++ l) (append_assoc b c sep)))
