use Rattle.kahn_sequential.proofs.Common.{arith, ◌+◌, ◌<◌, refl, subst, sym, handed_within, sight_of, IsReadyBehind, IsReadyBy, IsReadyByFirst}
use Rattle.kahn_sequential.proofs.{Emptied.fresh_within, Noted.nobody_woken, Noted.ready_next, Noted.woken_as, Noted.woken_on}
use Rattle.kahn_sequential.proofs.bench.Sequential.wake_readers.Goals as goal

pub loop-parameter-init : goal.loop-parameter-init
loop-parameter-init c = nobody_woken (IsReadyByFirst c.args.self.now c.args.instance 0) c.args.woken.now (λ p h. let l = h.1 in absurd (omega (arith, l)))

pub loop-parameter-preserved : goal.loop-parameter-preserved
loop-parameter-preserved c =
    let b = c.args.self.now in
    let r = c.args.instance in
    let k = c.loop-parameter.parameter in
    woken_on (IsReadyByFirst b r k) (IsReadyBy b r k) (IsReadyByFirst b r (k + 1)) c.args.woken.now c.loop-parameter.woken c.wake_behind.new.woken c.loop-parameter.invariant c.wake_behind.ensures
    (ready_next b r k)

pub returns : goal.returns
returns c =
    let b = c.args.self.now in
    let r = c.args.instance in
    woken_as (IsReadyByFirst b r c.loop-parameter.parameter) (IsReadyBehind b r) c.args.woken.now c.loop-parameter.woken c.loop-parameter.invariant
    (λ p h.
    let there = (handed_within (sight_of b).network r h.0 h.1.0 (rw h.1.1 refl)).1 in
    let few = fresh_within c.self.inside.taps.items c.self.view_is c.self.invariant r c.requires c.index.ensures h.0 there in
    let below = subst (λ n. h.0 < n) (sym c.parameters-count.ensures.number) few in
    (h.0, omega (arith, below, c.loop-parameter-test.false), h.1))
