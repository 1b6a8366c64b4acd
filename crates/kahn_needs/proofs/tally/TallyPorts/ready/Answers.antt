use Rattle.kahn_needs.proofs.Tallied.{tally_same}
use Rattle.kahn_needs.proofs.tally.TallyPorts.ready.Goals as goal

pub invariant_of-self : goal.invariant_of-self
invariant_of-self c =
    let e = c.ready-is_ready.ensures in
    tally_same c.self.inside.queues c.ready-is_ready.new.self c.self.inside.taken.items c.self.invariant e.site e.others c.counted.ensures e.next
