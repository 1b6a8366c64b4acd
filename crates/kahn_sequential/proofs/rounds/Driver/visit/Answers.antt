use Rattle.kahn_sequential.proofs.Common.{inl, inr, subst, IsPaused, events_at, sight_of, exec_on}
use Rattle.kahn_sequential.proofs.Turns.{told_as, told_dry}
use Rattle.kahn_sequential.proofs.rounds.Driver.visit.Goals as goal
use Rattle.kahn_sequential.proofs.rounds.Driver.visit.Goals.{in-Spent, in-NoMemory, in-Ended, in-Fault, in-Dry}

pub returns : goal.returns
returns g c =
    let s = sight_of c.take_turn-stopped.new.bench in
    let p = c.args.instance in
    let h = c.take_turn-stopped.ensures.ran.paused in
    let o = (exec_on s.network (events_at s p) p h.stood.tapes).outcome in
    record {
      stopped = c.take_turn-stopped.result;
      turn = c.take_turn-stopped.ensures;
      rests = record {
        stood = h.stood;
        count = c.events-events.ensures;
        told = elim c.match-stopped.branch [
          | in-Spent w ↦ told_as s p o _ _ _ _ w.in-Spent.is w.outcome-is h.is (λ y. y)
          | in-NoMemory w ↦ told_as s p o _ _ _ _ w.in-NoMemory.is w.outcome-is h.is (λ y. inl y)
          | in-Ended w ↦ told_as s p o _ _ _ _ w.in-Ended.is w.outcome-is h.is (λ y. y)
          | in-Fault w ↦ told_as s p o _ _ _ _ w.in-Fault.is w.outcome-is h.is (λ y. y)
          | in-Dry w ↦ told_as s p o _ _ _ _ w.in-Dry.is w.outcome-is h.is (λ y. told_dry s p o w.in-Dry.parameter w.channel.result w.channel.ensures y)
        ];
      };
      more = elim c.match-stopped.branch [
        | in-Spent w ↦ λ e. inl w.in-Spent.is
        | in-NoMemory w ↦ λ e. inr w.in-NoMemory.is
        | in-Ended w ↦ λ e. absurd (let o = w.outcome-is in cc (e, o))
        | in-Fault w ↦ λ e. absurd (let o = w.outcome-is in cc (e, o))
        | in-Dry w ↦ λ e. absurd (let o = w.outcome-is in cc (e, o))
      ];
    }

pub channel-requires : goal.channel-requires
channel-requires g c =
    let s = sight_of c.take_turn-stopped.new.bench in
    let p = c.args.instance in
    let h = c.take_turn-stopped.ensures.ran.paused in
    let told = subst (λ z. IsPaused s p z (exec_on s.network (events_at s p) p h.stood.tapes).outcome) c.in-Dry.is h.is in
    (told.0, told.1)
