-- Pieces that are added, one after another.
use Rattle.kahn_diagnostic.proofs.Common.{◌≡◌, ◌∙◌, List, ℕ, [], ◌++◌, ap, append-nil, append_assoc, string_bytes, sym}
use Rattle.kahn_diagnostic.specs.{Marks.marked_as, Notes.fix_text, Notes.sort_words, declared.rendering.Note.Note}
unfoldable use Rattle.kahn_diagnostic.specs.Notes.{head_text}

-- three of them
pub three_pieces : (old mid more new a b c : List ℕ) → mid ≡ old ++ a → more ≡ mid ++ b → new ≡ more ++ c → new ≡ old ++ (a ++ (b ++ (c ++ [])))
three_pieces old mid more new a b c first second third =
    third ∙ ap (λ l. l ++ c) (second ∙ ap (λ l. l ++ b) first) ∙ append_assoc (old ++ a) b c ∙ append_assoc old a (b ++ c)
    ∙ ap (λ l. old ++ (a ++ (b ++ l))) (sym (append-nil c))

-- the place of a note, and the change
pub headed : (path text : List ℕ) (n : Note) (old mid new sort words : List ℕ) → sort ≡ sort_words n.sort → words ≡ string_bytes n.words
    → mid ≡ old ++ marked_as sort path text n.span words → new ≡ mid ++ fix_text text n.span n.fix → new ≡ old ++ head_text path text n
unfolding head_text
headed path text n old mid new sort words s w first second =
    second ∙ ap (λ l. l ++ fix_text text n.span n.fix) (first ∙ (λ i. old ++ marked_as (s i) path text n.span (w i)))
    ∙ append_assoc old (marked_as (sort_words n.sort) path text n.span (string_bytes n.words)) (fix_text text n.span n.fix)
