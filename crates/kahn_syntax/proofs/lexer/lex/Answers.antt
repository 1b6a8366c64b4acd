use Rattle.kahn_syntax.proofs.Common.{List, arith, sym, subst, Lexeme, Lexed, no_gap, IsCharBoundary-start}
use Rattle.kahn_syntax.proofs.{Cuts.lexed_cut, Cuts.lexed_slices}
use Rattle.kahn_syntax.proofs.lexer.lex.Goals as goal

pub text-init : goal.text-init
text-init c =
    record { inside = omega arith; lexed = subst (λ (xs : List Lexeme). Lexed c.args.text.now 0 0 xs) (sym c.new-found.ensures.items) no_gap }

pub item_at-requires-clause-cut : goal.item_at-requires-clause-cut
item_at-requires-clause-cut c =
    let text = c.args.text.now in
    lexed_cut text 0 c.text.at c.text.found.items c.utf8.text (IsCharBoundary-start text c.utf8.text) c.text.invariant.lexed

pub returns-clause-slices : goal.returns-clause-slices
returns-clause-slices c =
    let text = c.args.text.now in
    lexed_slices text 0 c.text.at c.text.found.items c.utf8.text (IsCharBoundary-start text c.utf8.text) c.text.invariant.lexed
