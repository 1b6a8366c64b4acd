use Rattle.kahn_pool.proofs.Settled.{says_ran, settles_ran}
use Rattle.kahn_pool.proofs.held.ask.Goals as goal

pub returns : goal.returns
returns g c =
    let y = c.run-pause.new.self in
    settles_ran c.args.task.now y c.requires.going c.run-pause.ensures.continues c.run-pause.ensures.events
    (record {
      says = says_ran y.work y.standing c.run-pause.result _ _ c.run-pause.ensures.standing c.run-pause.ensures.paused;
      job = c.parameters-parameters.ensures.job;
      fed = c.fed.ensures;
    })
