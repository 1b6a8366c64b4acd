-- None of the rules so far has it.
use Rattle.kahn_expected.proofs.Common.{List, drop, enters, rules_as, terminal_with, ℕ, ℤ, ◌≡◌}
use Rattle.kahn_expected.proofs.grammar.by_rules.Given as goal

abbrev pub invariant-loop-rule : goal.invariant-loop-rule
invariant-loop-rule l =
    (n : List ℕ) (z : ℤ) → enters (rules_as l.from (drop l.rule-index l.rules)) (terminal_with n z l.class) ≡ enters (rules_as l.from l.rules) (terminal_with n z l.class)
