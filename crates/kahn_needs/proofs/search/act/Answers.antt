use Rattle.std.proofs.Common.{arith, refl}
use Rattle.kahn_needs.proofs.Searching.{acted_none, acted_one, demand_on, done_seen, forced_on, none_given, not_spent, paused_at}
use Rattle.kahn_needs.proofs.search.act.Goals as goal

pub returns-in_default : goal.returns-in_default
returns-in_default g c = record {
  same = (refl, refl, refl);
  forced = c.requires.forced;
  told = none_given c.args.bench.now c.args.root.line c.args.root.place c.args.demand.line c.args.demand.place c.requires.demanded c.in_default.ensures.writer;
  counted = omega arith;
}

pub returns-then-events-before : goal.returns-then-events-before
returns-then-events-before g c = record {
  same = c.act-pause.ensures.same;
  forced = forced_on c.args.bench.now c.laid.ensures c.args.root.line c.args.root.place c.args.demand.line c.args.demand.place c.requires.demanded c.in-Some.instance c.in-Some.ensures.writer
      c.sent.result c.sent.ensures c.if-sent-demand.false c.requires.forced c.act-pause.new.self c.act-pause.result c.act-pause.ensures;
  told = tt;
  counted = acted_one c.args.bench.now c.act-pause.new.self c.laid.ensures c.in-Some.instance c.act-pause.result c.act-pause.ensures
      c.events-before.result c.events.result c.events-before.ensures c.events.ensures c.if-events-before.true;
}

pub returns-then-before-most : goal.returns-then-before-most
returns-then-before-most g c = record {
  same = (refl, refl, refl);
  forced = c.requires.forced;
  told = (c.in-Some.instance, omega (arith, done_seen c.args.bench.now c.laid.ensures c.in-Some.instance, c.events-before.ensures, c.if-before-most.true));
  counted = omega arith;
}

pub told-requires-clause-unspent : goal.told-requires-clause-unspent
told-requires-clause-unspent g c =
    not_spent c.args.bench.now c.act-pause.new.self c.laid.ensures c.in-Some.instance c.act-pause.result c.act-pause.ensures
    c.events-before.result c.events.result c.events-before.ensures c.events.ensures c.if-events-before.false

pub told-requires-clause-demanded : goal.told-requires-clause-demanded
told-requires-clause-demanded g c = demand_on c.args.bench.now c.act-pause.new.self c.act-pause.ensures.same c.args.root.line c.args.root.place c.args.demand.line c.args.demand.place c.requires.demanded

pub told-requires-clause-paused : goal.told-requires-clause-paused
told-requires-clause-paused g c = paused_at c.args.bench.now c.act-pause.new.self c.in-Some.instance c.act-pause.result c.laid.ensures c.act-pause.ensures

pub returns : goal.returns
returns g c = record {
  same = c.act-pause.ensures.same;
  forced = forced_on c.args.bench.now c.laid.ensures c.args.root.line c.args.root.place c.args.demand.line c.args.demand.place c.requires.demanded c.in-Some.instance c.in-Some.ensures.writer
      c.sent.result c.sent.ensures c.if-sent-demand.false c.requires.forced c.act-pause.new.self c.act-pause.result c.act-pause.ensures;
  told = c.told.ensures.told;
  counted = acted_none c.args.bench.now c.act-pause.new.self c.laid.ensures c.in-Some.instance c.act-pause.result c.act-pause.ensures
      c.events-before.result c.events.result c.events-before.ensures c.events.ensures c.if-events-before.false _ c.told.ensures.still;
}
