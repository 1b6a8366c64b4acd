-- The lexemes so far are passed, with what stands before them.
use Rattle.kahn_expected.proofs.Common.{Lexed, Passed, drop, length}
use Rattle.kahn_expected.proofs.comments.comments_of.Given as goal

abbrev pub invariant-loop-lexeme : goal.invariant-loop-lexeme
invariant-loop-lexeme l = Lexed l.text l.at (length l.text) (drop l.lexeme-index l.lexeme-items) × Passed l.text 0 l.comments.items l.at
