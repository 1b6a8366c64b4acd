use Rattle.std.proofs.Common.{refl, rules}
use Rattle.kahn_sequential.proofs.Turns.{begun, moved_on}
use Rattle.kahn_sequential.proofs.rounds.Driver.brief_round.Goals as goal

pub pass_or_turn-requires-clause-may : goal.pass_or_turn-requires-clause-may
pass_or_turn-requires-clause-may g c = c.loop-instance.invariant.moved.may

pub loop-instance-preserved : goal.loop-instance-preserved
loop-instance-preserved g c =
    let i = c.loop-instance.invariant in
    let v = c.pass_or_turn.ensures in
    record { moved = moved_on i.moved v; count = search rules }

pub loop-instance-init : goal.loop-instance-init
loop-instance-init g c = record { moved = begun c.requires (record { quantum = refl; left = refl; memory = refl; room = refl }); count = search rules }
