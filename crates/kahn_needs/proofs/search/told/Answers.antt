use Rattle.kahn_needs.proofs.Common.{subst, IsPausedAt}
use Rattle.kahn_needs.proofs.Searching.{ended, faulted, waits_for}
use Rattle.kahn_needs.proofs.search.told.Goals as goal

pub returns-in-Dry-clause-told : goal.returns-in-Dry-clause-told
returns-in-Dry-clause-told c =
    let b = c.args.bench.now in
    let r = c.requires in
    waits_for b c.laid.ensures c.args.root.line c.args.root.place c.args.demand.line c.args.demand.place r.demanded c.args.instance r.writer c.sent.result c.sent.ensures c.if-sent-demand.false
    c.in-Dry.parameter c.channel.result (subst (IsPausedAt b c.args.instance) c.in-Dry.is r.paused) c.channel.ensures

pub returns-in-Ended-clause-told : goal.returns-in-Ended-clause-told
returns-in-Ended-clause-told c =
    let b = c.args.bench.now in
    let r = c.requires in
    ended b c.laid.ensures c.args.root.line c.args.root.place c.args.demand.line c.args.demand.place r.demanded c.args.instance r.writer c.sent.result c.sent.ensures c.if-sent-demand.false
    (subst (IsPausedAt b c.args.instance) c.in-Ended.is r.paused)

pub returns-in-Fault-clause-told : goal.returns-in-Fault-clause-told
returns-in-Fault-clause-told c =
    let b = c.args.bench.now in
    let r = c.requires in
    faulted b c.laid.ensures c.args.root.line c.args.root.place c.args.demand.line c.args.demand.place r.demanded c.args.instance r.writer c.sent.result c.sent.ensures c.if-sent-demand.false
    _ (subst (IsPausedAt b c.args.instance) c.in-Fault.is r.paused)

pub returns-in-Spent-clause-told : goal.returns-in-Spent-clause-told
returns-in-Spent-clause-told c = absurd (c.requires.unspent c.in-Spent.is)
