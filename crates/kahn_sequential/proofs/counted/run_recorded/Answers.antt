use Rattle.kahn_sequential.proofs.Common.{subst, inputs_of, network_of, IsKeptAlone}
use Rattle.kahn_sequential.proofs.counted.run_recorded.Goals as goal

pub returns : goal.returns
returns c =
    let plan = c.in_ok-plan.ensures in
    let watch = c.in_ok-plan.plan.watch in
    let run = c.in_ok-counted.counted in
    let all = subst (λ n. IsKeptAlone c.args.network.now c.args.input watch n run c.run_kept.new.recording) plan.rest.1 c.in_ok-counted.ensures in
    record {
      told = (plan.allowed, (watch, plan.watched, (all.0, all.1, all.2 c.in-Some.channels c.in-Some.is)));
      exact = c.finished_exactly.ensures.settles (network_of c.args.network.now) (inputs_of c.args.input) c.args.config.bound watch run.answer all.0;
    }
