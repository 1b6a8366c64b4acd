use Rattle.kahn_explain.proofs.Common.{◌≡◌, ◌∙◌, refl, subst, sym, iff_false, Given, network_of, source, IsFirstNeeding}
use Rattle.kahn_explain.proofs.Firsts.{same_search}
use Rattle.kahn_explain.proofs.needing.add_first.Goals as goal

pub returns-then-is_given-clause-end : goal.returns-then-is_given-clause-end
returns-then-is_given-clause-end c = ((λ made. absurd (made (c.is_given.ensures.0 c.if-is_given.true))), λ e. refl)

pub seeker_on-requires-clause-written : goal.seeker_on-requires-clause-written
seeker_on-requires-clause-written c = iff_false c.is_given.ensures c.if-is_given.false

pub first_needing-requires-clause-first : goal.first_needing-requires-clause-first
first_needing-requires-clause-first c = c.in_ok-seeker.ensures.3

pub first_needing-requires-clause-given : goal.first_needing-requires-clause-given
first_needing-requires-clause-given c = subst (λ t. source (network_of t) c.args.question.0 ≡ Given) (sym c.in_ok-seeker.ensures.0) c.requires.given

pub returns-clause-end : goal.returns-clause-end
returns-clause-end c =
    let (k, f) = c.in_ok-first.first in
    let e = c.in_ok-seeker.ensures in (
      (λ made. (k, (f, same_search (λ N I l. IsFirstNeeding N I l c.args.question.0 c.args.question.1 k f) e.0 e.1 e.2 c.in_ok-first.ensures.first, c.found_end.ensures))),
      λ given. absurd (iff_false c.is_given.ensures c.if-is_given.false given),
    )

pub returns-clause-last : goal.returns-clause-last
returns-clause-last c =
    let e = c.in_ok-seeker.ensures in
    let s = c.in_ok-first.ensures.same in
    (s.0 ∙ e.0, s.1 ∙ e.1)
