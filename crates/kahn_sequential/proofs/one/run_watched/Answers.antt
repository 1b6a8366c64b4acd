use Rattle.kahn_sequential.proofs.Common.{ℕ, arith, sym, subst, length, replicate, ap, ◌∙◌, Option, Program, Lists, network_of, nothing_gone, IsRightAlone}
use Rattle.kahn_sequential.proofs.one.run_watched.Goals as goal

pub run_on_alone-requires-clause-wide : goal.run_on_alone-requires-clause-wide
run_on_alone-requires-clause-wide g c =
    let b = c.in_ok-bench.ensures in
    record {
      whole = b.whole ∙ ap (λ t. replicate (length (network_of t).instances) nothing_gone) (sym b.names.0);
      may = c.new-round.ensures.may;
      total = omega (arith, b.fresh, c.new-round.ensures.same.1);
    }

pub run_on_alone-requires-clause-ready : goal.run_on_alone-requires-clause-ready
run_on_alone-requires-clause-ready g c = let b = c.in_ok-bench.ensures in rw (b.names.0, b.names.1, b.names.2) c.in_ok-streams.ensures

pub returns : goal.returns
returns g c =
    let n = c.in_ok-bench.ensures.names in
    subst (λ (x : Program × Lists × Option ℕ). IsRightAlone x.0 x.1 x.2 c.args.plan.bound c.run_on_alone.result) (λ i. (n.0 i, n.1 i, n.2 i)) c.run_on_alone.ensures
