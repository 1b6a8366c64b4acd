use Rattle.kahn_expected.proofs.Classes.{group_more, group_same}
use Rattle.kahn_expected.proofs.groups.find_groups.Goals as goal
use Rattle.kahn_expected.proofs.groups.find_groups.Goals.{then-are_within+then-not-are_within+in_ok-push+in_ok-extend_from_slice, else-are_within}

pub loop-group-preserved : goal.loop-group-preserved
loop-group-preserved c =
    elim c.if-are_within.branch [
      | then-are_within+then-not-are_within+in_ok-push+in_ok-extend_from_slice w ↦
          group_more c.args.classes.now c.loop-group.told.items c.if-are_within.told.items c.loop-group.groups.items c.if-are_within.groups.items _ c.members-members.result.now
          c.members-members.ensures (cc (w.groups-is, w.in_ok-push.ensures.items)) (cc (w.told-is, w.in_ok-extend_from_slice.ensures.items))
          w.if-are_within.ensures c.loop-group.invariant
      | else-are_within w ↦
          group_same c.args.classes.now c.loop-group.told.items c.if-are_within.told.items c.loop-group.groups.items c.if-are_within.groups.items
          (cc (w.told-is)) (cc (w.groups-is)) c.loop-group.invariant
    ]
