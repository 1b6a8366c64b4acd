-- The lexemes that are left lead from here to where all lead.
use Rattle.kahn_expected.proofs.Common.{List, ProgramPart, [], awaited_parts, drop, terminals, walked, ℕ, ◌∷◌, ◌≡◌}
use Rattle.kahn_expected.proofs.found.awaited_behind.Given as goal

abbrev pub invariant-loop-lexeme : goal.invariant-loop-lexeme
invariant-loop-lexeme l =
    (text : List ℕ) → walked (awaited_parts l.stack.items) (terminals text (drop l.lexeme-index l.lexemes)) ≡ walked (ProgramPart ∷ []) (terminals text l.lexemes)
