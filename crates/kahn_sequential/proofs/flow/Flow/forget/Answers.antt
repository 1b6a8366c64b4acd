use Rattle.kahn_sequential.proofs.Common.{inr, length, sym, subst, ap, AreEnded, Flowing, HasLetGo, Table, flow_of, AreNoted}
use Rattle.kahn_sequential.proofs.Flowed.{emptied_flow, emptied_state, flow_stays, none_lent}
use Rattle.kahn_sequential.proofs.flow.Flow.forget.Goals as goal

pub invariant_of-self : goal.invariant_of-self
invariant_of-self c =
    let i = c.self.inside in
    let d = c.forget.new.self in
    let h = c.forget.ensures in
    let ended = subst (λ s. AreEnded s i.plan.bound i.budget i.ends.items i.verdict) (sym (emptied_state i.bench d h)) c.self.invariant.ended in
    flow_stays c.self.invariant d (ap (λ (x : Table). x.network) h.rest) (ap (λ (x : Table). x.watch) h.rest) h.seen i.verdict ended i.woken
    (subst (λ s. AreNoted s i.woken i.ends.items) (sym (emptied_state i.bench d h)) c.self.invariant.noted) c.forget.new.turned (λ known p. inr (h.spent p)) c.clear.new.self.items (none_lent d c.clear.new.self.items c.clear.ensures)

pub returns : goal.returns
returns c =
    let i = c.self.inside in
    let d = c.forget.new.self in
    let ts = c.clear.new.self.items in
    subst (λ (f : Flowing). HasLetGo f (flow_of d i.plan i.verdict (length ts))) c.self.view_is
    (emptied_flow i.bench d c.forget.ensures i.plan i.verdict (length i.given.items) ts c.clear.ensures)
