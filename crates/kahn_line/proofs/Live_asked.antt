-- What a parse of the words gives the options of the program that is fed line by line.
use Rattle.kahn_line.proofs.Common.{[], ◌≡◌, ◌∙◌, List, ◌∷◌, map, None, Option, Some, refl, sym, ap, unwrap_or, option_map, Bor, matched_of, raw_values, Text, Found, raw_values-rows, columns_given, found_texts, set_line}

pub given : {a b c d e f : Option Text} → a ≡ b → c ≡ d → e ≡ f → columns_given a c e ≡ columns_given b d f
given p q r = rw (p, q, r) refl

-- all texts that were found for a name, as they are lent
abbrev Lent : Type 0
Lent = Option (Bor (List (Bor Text)))

abbrev pub lent_texts : Lent → Option (List Text)
lent_texts = option_map (λ s. map (λ v. v.now) s.now)

pub found_lent : (f : Found) (name : Text) (o : Lent) → lent_texts o ≡ option_map raw_values (matched_of f name) → found_texts f name ≡ unwrap_or (lent_texts o) []
found_lent f name o is = ap (λ (ts : Option (List Text)). unwrap_or ts []) (sym (raw_values-rows f name) ∙ sym is)

-- those that were found, or none
pub or_none : (o : Lent) (d w : Bor (List (Bor Text))) → w ≡ unwrap_or o d → d.now ≡ [] → map (λ v. v.now) w.now ≡ unwrap_or (lent_texts o) []
or_none None d w is none = ap (λ (b : Bor (List (Bor Text))). map (λ v. v.now) b.now) is ∙ ap (map (λ v. v.now)) none
or_none (Some x) d w is none = ap (λ (b : Bor (List (Bor Text))). map (λ v. v.now) b.now) is

-- the lines of words, by the words that are lent
pub lines_lent : (input : Option Text) (words : List (Bor Text)) → map (λ w. set_line input w.now) words ≡ map (set_line input) (map (λ v. v.now) words)
lines_lent input [] = refl
lines_lent input (w ∷ words) = ap (λ l. set_line input w.now ∷ l) (lines_lent input words)
