use Rattle.kahn_sequential.proofs.Common.{◌-◌, subst, IsMarked}
use Rattle.kahn_sequential.proofs.rounds.Round.mark_turn.Goals as goal

pub returns-clause-marked : goal.returns-clause-marked
returns-clause-marked c = subst (λ n. IsMarked (n - c.args.before) c.args.stopped c.args.self.now c.mark.new.self) c.events.ensures c.mark.ensures
