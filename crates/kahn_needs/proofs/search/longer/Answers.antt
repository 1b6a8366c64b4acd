use Rattle.kahn_needs.proofs.Common.{onward}
use Rattle.kahn_needs.proofs.Searching.{chain_longer, no_later}
use Rattle.kahn_needs.proofs.search.longer.Goals as goal

pub returns : goal.returns
returns c =
    let b = c.args.bench.now in
    let x = c.args.chain in
    let d = c.args.demand in
    let r = c.requires in
    record {
      demanded = r.awaited.0;
      marked = r.chain.marked;
      led = r.chain.led;
      leads = onward r.chain.leads r.awaited.2;
      later = no_later b x.mark.line x.mark.place d.line d.place
          (chain_longer b x.mark.line x.mark.place x.demand.line x.demand.place d.line d.place r.chain.later r.awaited.1);
    }
