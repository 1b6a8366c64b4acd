use Rattle.kahn_sequential.proofs.Common.{ℕ, Option, Some, arith, rules, ◌≡◌, ◌≤◌, slice_get, length, vec_capacity, refl, sym, ◌∙◌, subst, Program, Lists, IsInRange, IsWatched, network_of, inputs_of, AreAllGiven, stream_lines, HoldNumbers}
use Rattle.kahn_sequential.proofs.{Flowed.all_lent, Flowed.none_let_go, Righted.events_seen, Righted.none_done, Named.line_declared}
use Rattle.kahn_sequential.proofs.flow.Flow.start.Goals as goal

pub numbers_of-requires : goal.numbers_of-requires
numbers_of-requires c j d at =
    line_declared (network_of c.args.network.now) c.in_ok-plan.plan.watch j d (subst (λ l. slice_get l j ≡ Some d) (c.deref.ensures.value ∙ c.in_ok-lines.ensures) at)

pub invariant_of-result : goal.invariant_of-result
invariant_of-result c =
    let p = c.in_ok-plan.ensures in
    let plan = c.in_ok-plan.plan in
    let r : IsInRange plan.workers plan.quantum plan.bound = rw (p.workers, p.rest.0, p.rest.1) p.allowed in
    let b = c.in_ok-bench.bench in
    let e = c.in_ok-bench.ensures in
    let ts = c.in_ok-given.given.items in
    let all = subst (λ (x : Program × Lists × Option ℕ). AreAllGiven (network_of x.0) (inputs_of x.1) x.2 ts) (λ i. (sym e.names.0 i, sym e.names.1 i, sym e.names.2 i))
    c.in_ok-given.ensures in record {
      network = e.names.0;
      watch = e.names.2;
      some = let q = r.2 in omega (arith, q);
      left = let s = events_seen b.cells in omega (arith, e.fresh, s);
      few = r.4;
      enough = subst (λ t. length (network_of t).instances ≤ vec_capacity c.in_ok-ends.ends) (sym e.names.0) c.in_ok-ends.ensures;
      ended = tt;
      noted = λ known. absurd (let unknown = c.in_ok-woken.ensures in cc);
      spent = λ known. absurd (let unknown = c.in_ok-turned.ensures in cc);
      numbered = subst (λ (x : Program × Option ℕ). HoldNumbers (network_of x.0) (stream_lines (network_of x.0) x.1) c.in_ok-numbers.numbers.items) (λ i. (sym e.names.0 i, sym e.names.2 i))
          (subst (λ l. HoldNumbers (network_of c.args.network.now) l c.in_ok-numbers.numbers.items) (c.deref.ensures.value ∙ c.in_ok-lines.ensures) c.in_ok-numbers.ensures);
      lent = all_lent b (length (network_of c.args.network.now).instances) e.whole ts all;
    }

pub returns : goal.returns
returns c =
    let p = c.in_ok-plan.ensures in
    let b = c.in_ok-bench.bench in
    let e = c.in_ok-bench.ensures in
    let ts = c.in_ok-given.given.items in
    let all = subst (λ (x : Program × Lists × Option ℕ). AreAllGiven (network_of x.0) (inputs_of x.1) x.2 ts) (λ i. (sym e.names.0 i, sym e.names.1 i, sym e.names.2 i))
    c.in_ok-given.ensures in
    record {
      run = record {
        allowed = p.allowed;
        watched = subst (IsWatched c.args.network.now c.args.config.watch) (sym e.names.2) p.watched;
        network = e.names.0;
        input = e.names.1;
        workers = p.workers;
        quantum = p.rest.0;
        bound = p.rest.1;
        none = none_done b.cells (events_seen b.cells ∙ e.fresh);
        unsettled = refl;
      };
      out = none_let_go b (length (network_of c.args.network.now).instances) e.whole ts all;
    }
