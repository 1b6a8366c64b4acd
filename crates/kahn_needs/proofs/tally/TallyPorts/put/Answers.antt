use Rattle.kahn_code.specs.Standing.{DoesWrite}
use Rattle.kahn_needs.proofs.Tallied.{as_seen, site_of_lines, tally_put}
use Rattle.kahn_needs.proofs.tally.TallyPorts.put.Goals as goal

pub invariant_of-self : goal.invariant_of-self
invariant_of-self c =
    let i = c.self.inside in
    let e = c.put.ensures in
    let writes = as_seen i.queues i.taken.items (λ l. DoesWrite (site_of_lines l) c.args.parameter c.args.channel) c.self.view_is c.requires.writes in
    tally_put i.queues c.put.new.self i.taken.items c.self.invariant e.site e.others c.counted.ensures c.args.parameter c.args.channel writes e.moved
