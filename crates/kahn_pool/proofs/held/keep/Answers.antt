use Rattle.kahn_pool.proofs.Settled.{says_still}
use Rattle.kahn_pool.proofs.held.keep.Goals as goal

pub returns : goal.returns
returns c =
    let x = c.args.task.now in
    record {
      says = says_still x.work x.standing c.requires c.standing-standing.ensures.said;
      job = c.parameters-parameters.ensures.job;
      fed = c.fed.ensures;
    }
