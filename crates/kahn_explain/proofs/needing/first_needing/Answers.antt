use Rattle.kahn_explain.proofs.Common.{arith, refl, ◌∙◌, iff_false, inputs_of, network_of, AreNeedsFound}
use Rattle.kahn_explain.proofs.Firsts.{first_is, not_more, same_search}
use Rattle.kahn_explain.proofs.needing.first_needing.Goals as goal

pub loop-place-init : goal.loop-place-init
loop-place-init c = let e = c.requires.first in record { same = (refl, refl, refl, refl); next = omega (arith, e); before = λ i l. absurd (omega (arith, l)) }

pub loop-place-preserved : goal.loop-place-preserved
loop-place-preserved c =
    let i = c.loop-place.invariant in
    let s = c.in_ok-found.ensures.same in
    let o = c.args.seeker.now in
    let k = c.loop-place.place in
    let f = c.in_ok-found.found in
    let e = s.3 in
    record {
      same = (s.0 ∙ i.same.0, s.1 ∙ i.same.1, s.2 ∙ i.same.2, refl);
      next = omega (arith, e);
      before = not_more (network_of o.network) (inputs_of o.input) o.line c.args.wanted k c.args.input f c.requires.given
          (same_search (λ N I d. AreNeedsFound N I d k f) i.same.0 i.same.1 i.same.2 c.in_ok-found.ensures.found)
          (iff_false c.ends_search.ensures c.if-ends_search.false) i.before;
    }

pub returns-then-ends_search-clause-same : goal.returns-then-ends_search-clause-same
returns-then-ends_search-clause-same c =
    let i = c.loop-place.invariant in
    let s = c.in_ok-found.ensures.same in
    (s.0 ∙ i.same.0, s.1 ∙ i.same.1)

pub returns-then-ends_search-clause-first : goal.returns-then-ends_search-clause-first
returns-then-ends_search-clause-first c =
    let i = c.loop-place.invariant in
    let o = c.args.seeker.now in
    let k = c.loop-place.place in
    let f = c.in_ok-found.found in
    first_is (network_of o.network) (inputs_of o.input) o.line c.args.wanted k c.args.input f
    (same_search (λ N I d. AreNeedsFound N I d k f) i.same.0 i.same.1 i.same.2 c.in_ok-found.ensures.found) (c.ends_search.ensures.0 c.if-ends_search.true) i.before
