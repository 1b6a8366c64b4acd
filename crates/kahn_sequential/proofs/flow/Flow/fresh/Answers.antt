use Rattle.kahn_sequential.proofs.Common.{◌≡◌, ◌<◌, length, sym, subst, Given, Written, Writes, channel_source, network_of, instance_at, actual_at, IsLineOf, AreNew, Flowing}
use Rattle.kahn_sequential.proofs.{Flowed.line_here, Flowed.new_given, Flowed.new_kept, Flowed.new_printed, Named.HasLine}
use Rattle.kahn_sequential.proofs.flow.Flow.fresh.Goals as goal

pub writer-requires : goal.writer-requires
writer-requires c =
    let i = c.self.inside in
    let here = line_here i.bench i.plan i.verdict c.args.line (subst (λ (f : Flowing). IsLineOf f.run c.args.line) (sym c.self.view_is) c.requires) in
    subst (λ t. c.in-Channel.channel < length (network_of t).channels) c.self.invariant.network (subst (HasLine (network_of i.bench.network) i.bench.watch) c.in-Channel.is here).0

pub fresh-requires : goal.fresh-requires
fresh-requires c =
    let side = c.in-Some.side in
    record {
      here = subst (λ t. side.instance < length (network_of t).instances) (sym c.self.invariant.network) c.in-Some.ensures.only.0.0.0;
      parameter = subst (λ t. side.parameter < length (instance_at (network_of t) side.instance).actuals) (sym c.self.invariant.network) c.in-Some.ensures.only.0.0.1;
    }

pub fresh_prints-requires : goal.fresh_prints-requires
fresh_prints-requires c =
    let i = c.self.inside in
    let here = line_here i.bench i.plan i.verdict c.args.line (subst (λ (f : Flowing). IsLineOf f.run c.args.line) (sym c.self.view_is) c.requires) in
    subst (HasLine (network_of i.bench.network) i.bench.watch) c.in-Print.is here

pub returns-in-Some : goal.returns-in-Some
returns-in-Some c =
    let i = c.self.inside in
    let t = sym c.self.invariant.network in
    let p = c.in-Some.side.instance in
    let q = c.in-Some.side.parameter in
    let d = c.in-Channel.channel in
    let ts = c.fresh.result.now.items in
    subst (λ (f : Flowing). AreNew f c.args.line ts) c.self.view_is
    (new_kept i.bench i.plan i.verdict (length i.given.items) c.stood.ensures.laid c.args.line d p q ts c.in-Channel.is
    (subst (λ x. channel_source (network_of x) d ≡ Written p) t c.in-Some.ensures.source)
    (subst (λ x. actual_at (instance_at (network_of x) p) q ≡ Writes d) t c.in-Some.ensures.only.0.1) c.fresh.ensures)

pub returns-in-None : goal.returns-in-None
returns-in-None c =
    let i = c.self.inside in
    let b = i.bench in
    let d = c.in-Channel.channel in
    let here = line_here b i.plan i.verdict c.args.line (subst (λ (f : Flowing). IsLineOf f.run c.args.line) (sym c.self.view_is) c.requires) in
    subst (λ (f : Flowing). AreNew f c.args.line i.given.items) c.self.view_is
    (new_given b i.plan i.verdict c.args.line d i.given.items c.in-Channel.is
    (subst (λ x. channel_source (network_of x) d ≡ Given) (sym c.self.invariant.network) c.in-None.ensures.source) here c.self.invariant.lent)

pub returns-in-Print : goal.returns-in-Print
returns-in-Print c =
    let i = c.self.inside in
    let ts = c.fresh_prints.result.now.items in
    subst (λ (f : Flowing). AreNew f c.args.line ts) c.self.view_is
    (new_printed i.bench i.plan i.verdict (length i.given.items) c.args.line c.in-Print.instance ts c.in-Print.is c.fresh_prints.ensures)
