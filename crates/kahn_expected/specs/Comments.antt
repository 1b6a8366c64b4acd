-- Believed. The comments of a text.
use Rattle.std.specs.Prelude.{◌≡◌, ℕ, ◌+◌, ◌≤◌, ◌<◌, List, [], ◌∷◌, Some, length, slice_get, slice_index}
use Rattle.kahn_syntax.specs.{Texts.IsBlank, Texts.IsComment, Texts.IsLexemeAt, declared.lexeme.Lexeme.Lexeme}
use Rattle.kahn_streams.specs.declared.span.Span.{Span}

abbrev pub span_of : ℕ → ℕ → Span
span_of a b = record { from = a; to = b }

-- from byte a on the text is blanks, comments and lexemes, and these are its comments, in order
pub data AreComments (text : List ℕ) : ℕ → List Span → Type 0 where
  at_the_end : AreComments text (length text) []
  behind_a_blank : {a : ℕ} {cs : List Span} → IsBlank (slice_index text a) → AreComments text (a + 1) cs → AreComments text a cs
  behind_a_lexeme : {cs : List Span} (x : Lexeme) → IsLexemeAt text x → AreComments text x.span.to cs → AreComments text x.span.from cs
  behind_a_comment : {a b : ℕ} {cs : List Span} → IsComment text a b → AreComments text b cs → AreComments text a (span_of a b ∷ cs)

-- a line ends between bytes a and b
abbrev pub EndsLine : List ℕ → ℕ → ℕ → Type 0
EndsLine text a b = (e : ℕ) × (a ≤ e) × (e < b) × (slice_get text e ≡ Some 10)
