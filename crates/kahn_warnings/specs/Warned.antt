-- Believed. A warning of a part of the text.
use Rattle.std.specs.Prelude.{List, [], ◌∷◌, Option, Some, None}
use Rattle.kahn_streams.specs.declared.span.Span.{Span}
use Rattle.kahn_warnings.specs.declared.program.{Warning.Warning, WarningKind.WarningKind}

-- of this part; none where there is nothing to warn of, or the part stands nowhere
abbrev pub warned : Option WarningKind → Option Span → List Warning
warned None at = []
warned (Some k) None = []
warned (Some k) (Some at) = record { kind = k; span = at } ∷ []
