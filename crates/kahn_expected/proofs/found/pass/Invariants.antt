-- What the lexeme does is what it does at the parts that are left.
use Rattle.kahn_expected.proofs.Common.{List, awaited_parts, length, step, terminal_with, ℕ, ℤ, ◌≡◌}
use Rattle.kahn_expected.proofs.found.pass.Given as goal

abbrev pub invariant-parts : goal.invariant-parts
invariant-parts l =
    (n : List ℕ) (z : ℤ) → step (awaited_parts l.stack.items) (terminal_with n z l.class) ≡ step (awaited_parts l.initial.stack.items) (terminal_with n z l.class)

abbrev pub decreases-parts : goal.decreases-parts
decreases-parts l = length l.stack.items
