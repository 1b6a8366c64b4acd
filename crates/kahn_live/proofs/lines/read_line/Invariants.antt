-- What was read so far has no line feed, and no more of it is kept than the most.
use Rattle.kahn_live.proofs.Common.{◌≡◌, ◌≢◌, ℕ, List, All, take, vec_items, Consumes, most_kept}
use Rattle.kahn_live.proofs.lines.read_line.Given as goal

abbrev pub invariant-loop : goal.invariant-loop
invariant-loop g l = (line : List ℕ) × All (λ b. b ≢ 10) line × Consumes (g.B.Read.remaining l.initial.reader) (g.B.Read.remaining l.reader) line
    × (vec_items l.line ≡ take most_kept line)
