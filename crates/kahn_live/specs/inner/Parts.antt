-- Inner. What is read of a line at a time, and a line of a row.
use Rattle.std.specs.Prelude.{◌≡◌, ◌≢◌, ◌⊎◌, ℕ, ◌<◌, ⊤, List, [], ◌∷◌, ◌++◌, length, take, All, Option, None, Some, IfSome, Result, Ok, Err}
use Rattle.std.specs.{Io.KnownBytes.Consumes, Io.KnownBytes.IsAtEnd, Io.KnownBytes.Keeps, declared.alloc.Global.Global, declared.vec.Vec.Vec}
use Rattle.kahn_live.specs.{Lines.most_kept, Rows.bytes_in, declared.lines.Next.Next}
use Rattle.kahn_session.specs.{Live.IsMeantLine, Live.IsUnfedBy, Live.Live, declared.refusal.TakeFault.TakeFault, declared.refusal.TakeFault.TheVariants.NoMemory as NoMemoryTake}
use Rattle.kahn_live.specs.declared.lines.Next.TheVariants as next

-- bytes without a line feed were read, and kept within the limit
abbrev pub WasKept : Option (List ℕ) → Option (List ℕ) → List ℕ → List ℕ → List ℕ → Type 0
WasKept old new before after behind =
    (bytes : List ℕ) × All (λ b. b ≢ 10) bytes × Consumes old new (bytes ++ behind) × (after ≡ take most_kept (before ++ bytes))

-- what a read made of the bytes that are left, and of those that were kept
abbrev pub IsLinePart : Option (List ℕ) → Option (List ℕ) → List ℕ → List ℕ → Option Next → Type 0
IsLinePart old new before after None = WasKept old new before after []
IsLinePart old new before after (Some next.Line) = WasKept old new before after (10 ∷ [])
IsLinePart old new before after (Some next.End) = IsAtEnd old × Keeps old new × (after ≡ before)
IsLinePart old new before after (Some next.Failed) = ⊤
IsLinePart old new before after (Some next.NoMemory) = IfSome old (λ text. 0 < length text) × Keeps old new

-- a line of a row is meant for an input channel; or why not, and the line, or nothing where memory was refused for it
abbrev pub IsTriedCell : Live → List ℕ → Result (Vec ℕ Global) (TakeFault × Vec ℕ Global) → Type 0
IsTriedCell s cell (Ok line) = (bytes_in line ≡ cell) × IsMeantLine (bytes_in line) s.flow.run.network
IsTriedCell s cell (Err r) = ((r.0 ≡ NoMemoryTake) × (bytes_in r.1 ≡ [])) ⊎ ((bytes_in r.1 ≡ cell) × IsUnfedBy (bytes_in r.1) s.flow r.0)
