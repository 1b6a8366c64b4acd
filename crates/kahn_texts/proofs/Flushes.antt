-- Calls that flush a writer once.
use Rattle.std.proofs.Common.{◌≡◌, ℕ, ◌+◌, Result, Ok, Err, IsErr, arith}
use Rattle.kahn_texts.specs.Flushes.{FlushesOnce}

-- one that failed before it flushed
pub unflushed : {X E : Type 0} (r : Result X E) (old : ℕ) → IsErr r → FlushesOnce r old old
unflushed (Ok x) old failed = absurd cc
unflushed (Err e) old failed = omega arith

-- one that flushed last
pub flushed_once : {X E : Type 0} (r : Result X E) (old new : ℕ) → new ≡ old + 1 → FlushesOnce r old new
flushed_once (Ok x) old new one = one
flushed_once (Err e) old new one = omega (arith, one)
