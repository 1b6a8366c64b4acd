use Rattle.kahn_syntax.proofs.Common.{subst, sym, arith, Keyword, letters_of, IsSpelled}
use Rattle.kahn_syntax.proofs.Keywords.{placed}
use Rattle.kahn_syntax.proofs.lexeme.Keyword.named.Goals as goal

pub returns-clause-none : goal.returns-clause-none
returns-clause-none c k spelled =
    let p = placed k in
    c.keywords.invariant.passed p.place (omega (arith, p.below))
    (subst (λ (x : Keyword). IsSpelled (letters_of x) c.args.word.now) (sym p.is) spelled)
