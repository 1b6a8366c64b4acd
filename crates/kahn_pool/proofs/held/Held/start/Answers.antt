use Rattle.kahn_pool.proofs.Common.{arith, refl, sym, ap, subst, Crewing, IsAsConfigured, IsCrew, cells_of, IsWatched, none_done}
use Rattle.kahn_pool.proofs.held.Held.start.Goals as goal

pub invariant_of-result : goal.invariant_of-result
invariant_of-result c =
    let p = c.in_ok-plan.ensures in
    let a = p.allowed in (
      record {
        code = c.in_ok-code.ensures;
        fits = c.requires.fits;
        few = rw p.rest.1 a.4;
        held = c.in_ok-idles.ensures.held _;
        ended = tt;
      },
      subst (λ (k : Crewing). IsCrew k × IsAsConfigured k) (sym c.of-crew.ensures) ((a.0, omega arith, a.1, a.2), (refl, refl)),
    )

pub returns : goal.returns
returns c =
    let p = c.in_ok-plan.ensures in
    let none = (c.in_ok-idles.ensures.held c.in_ok-plan.plan.bound).events in
    record {
      allowed = p.allowed;
      watched = subst (IsWatched c.args.network.now c.args.config.watch) (sym (ap (λ (k : Crewing). k.watch) c.of-crew.ensures)) p.watched;
      network = refl;
      input = refl;
      workers = ap (λ (k : Crewing). k.workers) c.of-crew.ensures;
      quantum = ap (λ (k : Crewing). k.quantum) c.of-crew.ensures;
      bound = p.rest.1;
      none = none_done (cells_of c.in_ok-idles.idles.items) (omega (arith, none));
      unsettled = refl;
    }
