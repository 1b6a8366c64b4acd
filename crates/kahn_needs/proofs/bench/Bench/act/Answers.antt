use Rattle.kahn_needs.proofs.Common.{arith, refl, sym, ap, ◌∙◌, subst, HasActed, Seats, events_seen, length, network_of, seats_of, slice_get}
use Rattle.kahn_needs.proofs.Benched as Benched
use Rattle.kahn_needs.proofs.Searching.{done_listed}
use Rattle.kahn_needs.proofs.bench.Bench.act.Goals as goal

pub run-pause-requires : goal.run-pause-requires
run-pause-requires g c =
    let here = Benched.found c.self.view_is c.self.invariant c.args.instance c.requires.here c.index_mut-cell.ensures.value in
    record {
      code = Benched.code_is c.self.invariant c.args.instance here;
      ports = Benched.ports_are c.self.invariant c.args.instance here c.at.new.self.lines c.at.ensures.lines;
      at = Benched.at_is c.self.invariant c.args.instance here c.at.new.self.lines c.at.ensures.lines;
      events = omega (arith, ap (λ (x : Seats). events_seen (slice_get x.cells c.args.instance)) (sym c.self.view_is) ∙ ap events_seen here, c.requires.bound);
    }

pub invariant_of-self : goal.invariant_of-self
invariant_of-self g c =
    let at = Benched.found c.self.view_is c.self.invariant c.args.instance c.requires.here c.index_mut-cell.ensures.value in
    let e = c.run-pause.ensures.ran in
    Benched.laid_now c.self.invariant c.args.instance at c.run-pause.new.self c.events.result c.events.ensures c.at.new.self.lines c.run-pause.new.ports c.at.ensures.lines
    e.names e.ports e.at c.run-pause.ensures.served.1 c.counted.ensures 1 c.run-pause.result e.paused

pub returns : goal.returns
returns g c =
    let i = c.self.inside in
    let b : Seats = seats_of i.network.now i.input.now i.watch i.code.network.value i.cells.items i.ports i.done.items in
    let at = Benched.found c.self.view_is c.self.invariant c.args.instance c.requires.here c.index_mut-cell.ensures.value in
    let e = c.run-pause.ensures.ran in
    subst (λ (x : Seats). HasActed x (Benched.ran b c.args.instance c.run-pause.new.self c.run-pause.new.ports c.events.result) c.args.instance c.run-pause.result) c.self.view_is
    (Benched.acted c.self.invariant c.args.instance at c.run-pause.new.self c.events.result c.events.ensures c.at.new.self.lines c.run-pause.new.ports c.at.ensures.lines
    e.names e.ports e.at c.run-pause.ensures.served.1 c.counted.ensures 1 c.run-pause.result e.paused e.events refl)

pub index_mut-requires : goal.index_mut-requires
index_mut-requires g c =
    let i = c.self.inside in
    let b : Seats = seats_of i.network.now i.input.now i.watch i.code.network.value i.cells.items i.ports i.done.items in
    let n = ap (λ (x : Seats). length (network_of x.network).instances) c.self.view_is in
    omega (arith, c.self.inside.done.ok.0, done_listed b c.self.invariant c.args.instance (omega (arith, n, c.requires.here)))
