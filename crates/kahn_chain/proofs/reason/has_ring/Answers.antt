use Rattle.kahn_chain.proofs.Common.{◌≡◌, ⊎_elim, arith, false, map, subst, cases_eq, length-map, slice_get_within, network_of, IsRingMark, LeadsOn, stands}
use Rattle.kahn_chain.proofs.reason.has_ring.Goals as goal

pub loop-instance-preserved : goal.loop-instance-preserved
loop-instance-preserved c p below on =
    let N = network_of c.args.network.now in
    let ss = map stands c.args.ends.now in
    let i = c.loop-instance.instance in
    let off : IsRingMark N ss i false = subst (IsRingMark N ss i) c.if-cause_of.false c.cause_of.ensures.ring in
    ⊎_elim (λ (e : p ≡ i). off (subst (λ q. LeadsOn N ss q q) e on)) (λ ne. c.loop-instance.invariant p (omega (arith, below, ne)) on) (cases_eq p i)

pub returns : goal.returns
returns c p on =
    let l = slice_get_within (map stands c.args.ends.now) p _ on.2.0 in
    let n = length-map c.args.ends.now stands in
    c.loop-instance.invariant p (omega (arith, c.loop-instance-test.false, l, n)) on
