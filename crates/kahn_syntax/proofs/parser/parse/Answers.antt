use Rattle.kahn_syntax.proofs.Parsing.{AreLexemes, Lexeme, List, ProgramTree, Spells, SyntaxFault, length, nesting, same_lexemes, subst, sym, terminals, ℕ, ◌≡◌, ◌≤◌}
use Rattle.kahn_syntax.specs.declared.fault.SyntaxFault.TheVariants.{NoMemory}
use Rattle.kahn_syntax.proofs.parser.parse.Goals as goal

-- A text has one list of lexemes, so what is said of the list that was read is said of the text.
found_of : (text : List ℕ) (ls : List Lexeme) (e : SyntaxFault) → AreLexemes text ls → ((t : ProgramTree) → Spells t (terminals text ls) → nesting t ≤ 64 → e ≡ NoMemory) →
    (xs : List Lexeme) (t : ProgramTree) → AreLexemes text xs → Spells t (terminals text xs) → nesting t ≤ 64 → e ≡ NoMemory
found_of text ls e a f xs t b s l = f t (subst (λ ys. Spells t (terminals text ys)) (same_lexemes text 0 (length text) xs ls b.1 a.1) s) l

pub returns-in-Ok-clause-spells : goal.returns-in-Ok-clause-spells
returns-in-Ok-clause-spells c =
    (c.deref.result.now, subst (AreLexemes c.args.text.now) (sym c.deref.ensures.value) c.in_ok-lexemes.ensures.lexed, c.in-Ok.ensures.read.1)

pub returns-clause-found : goal.returns-clause-found
returns-clause-found c =
    found_of c.args.text.now c.deref-in-Err.result.now c.fault_of.result (subst (AreLexemes c.args.text.now) (sym c.deref-in-Err.ensures.value) c.in_ok-lexemes.ensures.lexed) c.fault_of.ensures.found
