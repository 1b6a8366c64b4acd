use Rattle.kahn_needs.proofs.Common.{arith, ◌+◌, ◌<◌, ◌^◌, ◌∙◌, ap, get_or_default}
use Rattle.kahn_code.specs.Standing.{DoesRead}
use Rattle.kahn_needs.proofs.Tallied.{as_seen, next_of, read_at, site_of_lines, tally_more, tally_same}
use Rattle.kahn_needs.proofs.tally.TallyPorts.take.Goals as goal

pub take-requires : goal.take-requires
take-requires c =
    let i = c.self.inside in
    record {
      reads = as_seen i.queues i.taken.items (λ l. DoesRead (site_of_lines l) c.args.parameter c.args.channel) c.self.view_is c.requires.reads;
      bound = as_seen i.queues i.taken.items (λ l. next_of l c.args.parameter < 2 ^ 48) c.self.view_is c.requires.bound;
    }

pub index_mut-requires : goal.index_mut-requires
index_mut-requires c =
    let i = c.self.inside in
    let reads = as_seen i.queues i.taken.items (λ l. DoesRead (site_of_lines l) c.args.parameter c.args.channel) c.self.view_is c.requires.reads in
    omega (arith, (read_at i.queues i.taken.items c.self.invariant c.args.parameter c.args.channel reads).0, i.taken.ok.0)

pub overflow_add-index_mut : goal.overflow_add-index_mut
overflow_add-index_mut c =
    let i = c.self.inside in
    let reads = as_seen i.queues i.taken.items (λ l. DoesRead (site_of_lines l) c.args.parameter c.args.channel) c.self.view_is c.requires.reads in
    let few = as_seen i.queues i.taken.items (λ l. next_of l c.args.parameter < 2 ^ 48) c.self.view_is c.requires.bound in
    let at = read_at i.queues i.taken.items c.self.invariant c.args.parameter c.args.channel reads in
    omega (arith, c.index_mut.ensures.value ∙ get_or_default i.taken.items c.args.channel c.index_mut.result.now 0 at.0, at.1, few)

pub invariant_of-self : goal.invariant_of-self
invariant_of-self c =
    let i = c.self.inside in
    let e = c.take.ensures in
    let reads = as_seen i.queues i.taken.items (λ l. DoesRead (site_of_lines l) c.args.parameter c.args.channel) c.self.view_is c.requires.reads in
    let at = read_at i.queues i.taken.items c.self.invariant c.args.parameter c.args.channel reads in
    tally_more i.queues c.take.new.self i.taken.items c.self.invariant e.site e.others c.counted.ensures c.args.parameter c.args.channel (c.index_mut.result.now + 1) reads
    (ap (λ n. n + 1) (c.index_mut.ensures.value ∙ get_or_default i.taken.items c.args.channel c.index_mut.result.now 0 at.0)) c.in-Some.ensures.moved

pub invariant_of-self-in-None : goal.invariant_of-self-in-None
invariant_of-self-in-None c =
    let i = c.self.inside in
    let e = c.take.ensures in
    tally_same i.queues c.take.new.self i.taken.items c.self.invariant e.site e.others c.counted-in-None.ensures c.in-None.ensures.stays
