use Rattle.kahn_sequential.proofs.Common.{ℕ, arith, length, replicate, sym, ap, ◌∙◌, subst, Option, Program, Lists, network_of, nothing_gone, IsRightAlone, IsPartEnd}
use Rattle.kahn_sequential.proofs.one.run_on_alone.Goals as goal

pub run_until_wide-run-requires-clause-bound : goal.run_until_wide-run-requires-clause-bound
run_until_wide-run-requires-clause-bound g c =
    omega (arith, c.requires.wide.total, c.requires.bound)

pub run_until_wide-run-requires-clause-room : goal.run_until_wide-run-requires-clause-room
run_until_wide-run-requires-clause-room g c = c.requires.wide.may.room

pub answered-requires : goal.answered-requires
answered-requires g c =
    let end = c.in-Ok.ensures in
    let w = end.worked in
    let wide = c.requires.wide in
    record {
      ended = subst (λ n. IsPartEnd c.run_until_wide-run.new.bench n c.in-Ok.part) wide.total end.concluded;
      whole = w.gone ∙ wide.whole ∙ ap (λ t. replicate (length (network_of t).instances) nothing_gone) (sym w.network);
      ready = rw (w.network, w.input, w.watch) c.requires.ready;
    }

pub returns : goal.returns
returns g c =
    let w = c.in-Ok.ensures.worked in
    subst (λ (x : Program × Lists × Option ℕ). IsRightAlone x.0 x.1 x.2 c.args.plan.bound c.answered.result) (λ i. (w.network i, w.input i, w.watch i)) c.answered.ensures
