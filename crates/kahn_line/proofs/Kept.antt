-- A call that failed left all bytes as they were.
use Rattle.std.specs.Prelude.{ℕ, List, MatchResult, Option, Result, Ok, Err, IsErr}
use Rattle.std.specs.Io.KnownBytes.{Keeps}
use Rattle.std.proofs.KnownBytes.{Keeps-trans}

pub none_done : {X E : Type 0} (P : X → Type 0) (a b c : Option (List ℕ)) (r : Result X E) → Keeps a b → IsErr r → MatchResult r P (λ _. Keeps b c) → Keeps a c
none_done P a b c (Ok x) kept failed done = absurd cc
none_done P a b c (Err e) kept failed done = Keeps-trans a b c kept done
