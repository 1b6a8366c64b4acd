use Rattle.kahn_explain.proofs.Common.{refl, arith, ◌∙◌, inputs_of, network_of, AreNeedsFound}
use Rattle.kahn_needs.specs.declared.needs.Found.TheVariants as found
use Rattle.kahn_explain.proofs.Firsts.{rows_more, same_search}
use Rattle.kahn_explain.proofs.Pieces.{later_front, none_sent, sent_more}
use Rattle.std.proofs.lemmas.Result.{err_from_is_err_and}
use Rattle.kahn_explain.proofs.rows.put_rows.Goals as goal

pub loop-place-init : goal.loop-place-init
loop-place-init g c = let e = c.requires in record { same = (refl, refl, refl, refl); next = omega (arith, e); sent = none_sent _; rows = λ k l. absurd (omega (arith, l)) }

pub loop-place-preserved : goal.loop-place-preserved
loop-place-preserved g c =
    let i = c.loop-place.invariant in
    let s = c.in_ok-found.ensures.same in
    let o = c.args.seeker.now in
    let k = c.loop-place.place in
    let x = c.in-Needs.needs in
    let e = s.3 in
    record {
      same = (s.0 ∙ i.same.0, s.1 ∙ i.same.1, s.2 ∙ i.same.2, refl);
      next = omega (arith, e);
      sent = sent_more _ _ _ i.sent c.in_ok-put-in-Needs.ensures;
      rows = rows_more (network_of o.network) (inputs_of o.input) o.line k x i.rows
          (same_search (λ N I l. AreNeedsFound N I l k (found.Needs x)) i.same.0 i.same.1 i.same.2 (rw c.in-Needs.is at c.in_ok-found.ensures.found));
    }

pub returns-in_err-put-in-Needs-clause-put : goal.returns-in_err-put-in-Needs-clause-put
returns-in_err-put-in-Needs-clause-put g c =
    let p = err_from_is_err_and c.from_residual-in_err-put-in-Needs.result c.from_residual-in_err-put-in-Needs.ensures.1 in
    rw p.1 (later_front _ _ _ c.loop-place.invariant.sent c.in_err-put-in-Needs.ensures)

pub returns-in-Never-clause-rows : goal.returns-in-Never-clause-rows
returns-in-Never-clause-rows g c =
    let i = c.loop-place.invariant in
    let k = c.loop-place.place in
    (k, i.rows, same_search (λ N I l. AreNeedsFound N I l k found.Never) i.same.0 i.same.1 i.same.2 (rw c.in-Never.is at c.in_ok-found.ensures.found), tt)

pub returns-in-Ring-clause-rows : goal.returns-in-Ring-clause-rows
returns-in-Ring-clause-rows g c =
    let i = c.loop-place.invariant in
    let k = c.loop-place.place in
    (k, i.rows, same_search (λ N I l. AreNeedsFound N I l k found.Ring) i.same.0 i.same.1 i.same.2 (rw c.in-Ring.is at c.in_ok-found.ensures.found), tt)

pub returns-in-Bound-clause-rows : goal.returns-in-Bound-clause-rows
returns-in-Bound-clause-rows g c = let i = c.loop-place.invariant in (c.loop-place.place, i.rows, tt, tt)
