-- Believed. Comments that go on over a line's end, and have the beginning of a statement behind that.
use Rattle.std.specs.Prelude.{◌≡◌, ℕ, All, Contains, List}
use Rattle.kahn_streams.specs.declared.span.Span.{Span}
use Rattle.kahn_expected.specs.Comments.{AreComments, EndsLine}
use Rattle.kahn_warnings.specs.{declared.program.Warning.Warning, declared.program.WarningKind.TheVariants.LongComment}

-- of one of these comments, in which a line ends
abbrev pub IsCommentWarning : List ℕ → List Span → Warning → Type 0
IsCommentWarning text cs w = (w.kind ≡ LongComment) × Contains cs w.span × EndsLine text w.span.from w.span.to

-- warnings of comments of a text
abbrev pub AreCommentWarnings : List ℕ → List Warning → Type 0
AreCommentWarnings text ws = (cs : List Span) × AreComments text 0 cs × All (IsCommentWarning text cs) ws
