-- Believed. A note as lines: its place with what is said there, the change, sentences, and other places; and a text with a change.
use Rattle.std.specs.Prelude.{◌≡◌, ℕ, List, ◌∷◌, [], ◌++◌, Option, Some, None, codes, decimal, flat_map, length, string_bytes}
use Rattle.std.specs.{List.concat, declared.alloc.Global.Global, declared.string.String.String}
use Rattle.kahn_streams.specs.{Place.line_of, declared.span.Span.Span}
use Rattle.kahn_diagnostic.specs.{Fixes.applied_text, Fixes.fix_words, declared.rendering.Sort.Sort, declared.rendering.Fix.Fix, declared.rendering.Other.Other, declared.rendering.Note.Note, Marks.marked_as}
use Rattle.kahn_texts.specs.Shown.{shown_text, times_over}
use Rattle.kahn_diagnostic.specs.declared.rendering.Sort.TheVariants as sort

-- how a sort is called
abbrev pub sort_words : Sort → List ℕ
sort_words sort.Error = codes "error"
sort_words sort.Warning = codes "warning"
sort_words sort.Note = codes "note"

-- a line below the carets; as many columns as the number of the source line takes are left free
abbrev pub line_below : List ℕ → Span → List ℕ → List ℕ
line_below text span words = concat (codes " " ∷ times_over (length (decimal (line_of text span.from))) (codes " ") ∷ codes " = " ∷ shown_text words ∷ codes "\n" ∷ [])

abbrev pub below_text : List ℕ → Span → String Global → List ℕ
below_text text span sentence = line_below text span (string_bytes sentence)

-- another place, with what is said there
abbrev pub other_text : List ℕ → List ℕ → Other → List ℕ
other_text path text o = marked_as (codes "note") path text o.span (string_bytes o.words)

-- the line of the change, if there is one
abbrev pub fix_text : List ℕ → Span → Option Fix → List ℕ
fix_text text span (Some f) = line_below text span (fix_words text span f)
fix_text text span None = []

-- the place of a note with its words, and the change
unfoldable pub head_text : List ℕ → List ℕ → Note → List ℕ
head_text path text n = marked_as (sort_words n.sort) path text n.span (string_bytes n.words) ++ fix_text text n.span n.fix

-- the lines of a note: nothing of a text gets into them but as it is shown
abbrev pub note_text : List ℕ → List ℕ → Note → List ℕ
note_text path text n =
    head_text path text n ++ flat_map (below_text text n.span) n.below.items ++ flat_map (other_text path text) n.others.items

abbrev pub IsRendered : List ℕ → List ℕ → Note → List ℕ → Type 0
IsRendered path text n lines = lines ≡ note_text path text n

-- a text with a change
abbrev pub IsApplied : List ℕ → Fix → List ℕ → Type 0
IsApplied text f new = new ≡ applied_text text f
