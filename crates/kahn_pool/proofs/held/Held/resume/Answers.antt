use Rattle.kahn_pool.proofs.Common.{arith, rules, ◌≡◌, ◌+◌, ◌<◌, ◌^◌, Some, None, refl, ◌∙◌, subst, HasResumed, HeldRun, IsResumed, run_of, planned}
use Rattle.kahn_pool.proofs.{Held_runs.few, Held_runs.resumed, Held_runs.resumed_ok, Held_runs.several, Held_runs.still_holding, Held_runs.still_same, Held_jobs.held_more}
use Rattle.kahn_pool.proofs.held.Held.resume.Goals as goal

pub run_part-stopped-requires-clause-part : goal.run_part-stopped-requires-clause-part
run_part-stopped-requires-clause-part g c κs within =
    let h = c.self.invariant.0 in
    let b = h.few in
    let f = c.if-self-more.false in
    let e : c.replace-idles.result.items ≡ c.self.inside.idles.items = search rules in
    record {
      crew = c.self.invariant.1.0;
      few = omega (arith, b, f);
      held = rw e (held_more h.held c.args.more refl);
    }

pub invariant_of-self : goal.invariant_of-self
invariant_of-self g c =
    let i = c.self.inside in (
      still_holding i.network.now i.input (planned i.crew i.bound) i.idles.items i.verdict c.self.invariant.0 c.args.more c.run_part-stopped.ensures (search rules)
          c.if-self-more.false (search rules),
      c.self.invariant.1,
    )

pub returns-in-Err-NoMemory : goal.returns-in-Err-NoMemory
returns-in-Err-NoMemory g c =
    let i = c.self.inside in
    let more = c.args.more in
    let same : c.replace-idles.result.items ≡ i.idles.items = search rules in (
      still_same i.network.now i.input (planned i.crew i.bound) i.idles.items i.verdict c.self.invariant.0 more c.run_part-stopped.ensures same c.if-self-more.false (search rules) ∙ c.self.view_is,
      subst (λ (h : HeldRun). h.bound + more < 2 ^ 48) c.self.view_is
          (few i.network.now i.input (planned i.crew i.bound) i.idles.items i.verdict c.self.invariant.0 more c.run_part-stopped.ensures same c.if-self-more.false),
    )

pub returns-in-Ok : goal.returns-in-Ok
returns-in-Ok g c =
    let i = c.self.inside in
    let more = c.args.more in
    let v = c.in-Ok.verdict in
    subst (λ (h : HeldRun). IsResumed more h (run_of i.network.now i.input (planned i.crew (i.bound + more)) c.run_part-stopped.result.idles.items (Some v)) v) c.self.view_is
    (resumed_ok i.network.now i.input (planned i.crew i.bound) i.idles.items i.verdict c.self.invariant.0 more c.run_part-stopped.ensures (search rules)
    c.if-self-more.false v c.in-Ok.is)

pub returns-in-Err : goal.returns-in-Err
returns-in-Err g c =
    let i = c.self.inside in
    let more = c.args.more in
    let same : c.replace-idles.result.items ≡ i.idles.items = search rules in (
      subst (λ (h : HeldRun). HasResumed more h (run_of i.network.now i.input (planned i.crew (i.bound + more)) c.run_part-stopped.result.idles.items None)) c.self.view_is
          (resumed i.network.now i.input (planned i.crew i.bound) i.idles.items i.verdict c.self.invariant.0 more c.run_part-stopped.ensures same c.if-self-more.false None),
      refl,
      subst (λ (h : HeldRun). 1 < h.workers) c.self.view_is
          (several i.network.now i.input (planned i.crew i.bound) i.idles.items i.verdict c.self.invariant.0 more c.run_part-stopped.ensures same c.if-self-more.false (search rules)),
    )
