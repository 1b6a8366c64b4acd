use Rattle.kahn_syntax.proofs.Common.{◌≤◌, ◌-◌, length, Lexed}
use Rattle.kahn_syntax.proofs.lexer.lex.Given as goal

abbrev pub invariant-text : goal.invariant-text
invariant-text l = record { inside : l.at ≤ length l.text; lexed : Lexed l.text 0 l.at l.found.items }

abbrev pub decreases-text : goal.decreases-text
decreases-text l = length l.text - l.at
