-- Inner. Which lexemes may stand behind others.
use Rattle.std.specs.Prelude.{◌≡◌, List, [], ◌∷◌, ◌++◌, ℕ, ℤ, All, Contains}
use Rattle.kahn_streams.specs.declared.span.Span.{Span}
use Rattle.kahn_syntax.specs.{declared.lexeme.Class.Class, declared.lexeme.Lexeme.Lexeme, Grammar.Terminal, Texts.terminals, Texts.Begins, Texts.BeginsWithin}
use Rattle.kahn_expected.specs.inner.Walk.{terminal_with}

-- behind these terminals each terminal of this class may stand, and one of it may
abbrev pub AllMayCome : List Terminal → Class → Type 0
AllMayCome ks c = (n : List ℕ) (z : ℤ) → Begins (ks ++ terminal_with n z c ∷ [])

abbrev pub OneMayCome : List Terminal → Class → Type 0
OneMayCome ks c = (n : List ℕ) × (z : ℤ) × Begins (ks ++ terminal_with n z c ∷ [])

abbrev pub IsToldIfItComes : List Terminal → List Class → Class → Type 0
IsToldIfItComes ks ws c = OneMayCome ks c → Contains ws c

-- of some classes just those are told that may come
abbrev pub AreOf : List Terminal → List Class → List Class → Type 0
AreOf ks some ws = All (AllMayCome ks) ws × All (IsToldIfItComes ks ws) some

-- the lexeme with this span stands behind others that begin a program within the limit
abbrev pub StandsBehind : List ℕ → List Lexeme → Span → Type 0
StandsBehind text xs span = (before : List Lexeme) × (x : Lexeme) × (after : List Lexeme) × (xs ≡ before ++ x ∷ after) × (span ≡ x.span) × BeginsWithin (terminals text before)
