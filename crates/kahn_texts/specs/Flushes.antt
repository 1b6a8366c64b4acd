-- Believed. How often a writer is flushed.
use Rattle.std.specs.Prelude.{◌≡◌, ℕ, ◌+◌, ◌≤◌, MatchResult, Result}

-- one flush, or after a fault at most one
abbrev pub FlushesOnce : {X E : Type 0} → Result X E → ℕ → ℕ → Type 0
FlushesOnce r old new = MatchResult r (λ _. new ≡ old + 1) (λ _. new ≤ old + 1)
