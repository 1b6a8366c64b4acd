use Rattle.kahn_sequential.proofs.Common.{arith, ◌+◌, Some, length, subst, Flowing, IsRunOn, flow_of}
use Rattle.kahn_sequential.proofs.{Flowed.flow_after, Flowed.flowed_on, Righted.events_seen}
use Rattle.kahn_sequential.proofs.flow.Flow.resume.Goals as goal

pub run_on-part-requires-clause-bound : goal.run_on-part-requires-clause-bound
run_on-part-requires-clause-bound g c =
    omega (arith, c.self.invariant.left, c.self.invariant.few, c.if-self-more.false, events_seen c.self.inside.bench.cells)

pub invariant_of-self : goal.invariant_of-self
invariant_of-self g c =
    let e = c.run_on-part.ensures in
    flow_after c.self.invariant c.run_on-part.new.bench e.worked c.args.more c.if-self-more.false c.run_on-part.result e.concluded e.room c.run_on-part.new.woken e.noted c.run_on-part.new.turned e.spent

pub returns : goal.returns
returns g c =
    let i = c.self.inside in
    let d = c.run_on-part.new.bench in
    let v = c.run_on-part.result.verdict in
    let e = c.run_on-part.ensures in
    let s = c.stood.ensures in
    let z = c.stood-2.ensures in
    let n = length i.given.items in
    subst (λ (x : Flowing). IsRunOn c.args.more x (flow_of d (record i.plan { bound = i.plan.bound + c.args.more }) (Some v) n) v) c.self.view_is
    (flowed_on c.self.invariant d e.worked c.args.more c.if-self-more.false c.run_on-part.result e.concluded s.laid z.laid s.each z.each n)
