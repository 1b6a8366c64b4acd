-- Inner. The comments of a text while it is read, from the left.
use Rattle.std.specs.Prelude.{ℕ, List, ◌++◌}
use Rattle.kahn_streams.specs.declared.span.Span.{Span}
use Rattle.kahn_expected.specs.Comments.{AreComments}

-- whoever finds the comments from byte b on has with these all from byte a on
abbrev pub Passed : List ℕ → ℕ → List Span → ℕ → Type 0
Passed text a cs b = (more : List Span) → AreComments text b more → AreComments text a (cs ++ more)
