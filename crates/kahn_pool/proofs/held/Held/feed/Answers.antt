use Rattle.kahn_pool.proofs.Common.{ap, refl, subst, None, err_from_is_err_and, HasFed, HeldRun, IsUnfed, run_of, planned}
use Rattle.kahn_pool.proofs.Held_runs.{goes_on_fed, holding_fed}
use Rattle.kahn_pool.proofs.held.Held.feed.Goals as goal

pub invariant_of-self-2 : goal.invariant_of-self-2
invariant_of-self-2 c =
    let i = c.self.inside in (
      holding_fed i.network.now i.input (planned i.crew i.bound) i.idles.items i.verdict c.self.invariant.0 c.extend.new.self c.extend.ensures.grown c.extend.ensures.size,
      c.self.invariant.1,
    )

pub returns-in_err-extend : goal.returns-in_err-extend
returns-in_err-extend c =
    let i = c.self.inside in
    let (same, unwelcome) = c.in_err-extend.ensures.fed in
    let left =
    subst
    (λ (h : HeldRun). IsUnfed (c.args.channel.now, c.args.values.items) h
    (run_of i.network.now c.extend.new.self (planned i.crew i.bound) i.idles.items i.verdict) c.in_err-extend.field-0.0)
    c.self.view_is
    (ap (λ lists. run_of i.network.now lists (planned i.crew i.bound) i.idles.items i.verdict) same, unwelcome) in
    let p = err_from_is_err_and c.from_residual.result c.from_residual.ensures.1 in
    rw (p.1, p.2) left

pub returns : goal.returns
returns c =
    let i = c.self.inside in
    subst
    (λ (h : HeldRun). HasFed (c.args.channel.now, c.args.values.items) h
    (run_of i.network.now c.extend.new.self (planned i.crew i.bound) i.idles.items None))
    c.self.view_is
    (record {
      fed = c.in_ok-extend.ensures.fed;
      rest = refl;
      goes_on = goes_on_fed i.network.now i.input (planned i.crew i.bound) i.idles.items i.verdict c.self.invariant.0 c.extend.new.self c.extend.ensures.grown;
    })
