use Rattle.kahn_needs.proofs.Common.{stays}
use Rattle.kahn_needs.proofs.Searching.{chain_begun}
use Rattle.kahn_needs.proofs.search.begun.Goals as goal

pub returns : goal.returns
returns c = record {
  demanded = c.requires;
  led = c.requires.led;
  leads = stays;
  marked = c.requires.wanted;
  later = chain_begun c.args.bench.now c.args.root.line c.args.root.place c.args.demand.line c.args.demand.place c.requires;
}
