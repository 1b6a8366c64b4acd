use Rattle.kahn_sequential.proofs.Common.{arith}
use Rattle.kahn_sequential.proofs.Benched
use Rattle.kahn_sequential.proofs.Tapping as Tapping
use Rattle.kahn_sequential.proofs.bench.Sequential.run.Goals as goal

pub run-pause-requires : goal.run-pause-requires
run-pause-requires g c =
    let taps = c.self.inside.taps.items in
    let here = Tapping.found taps c.self.view_is c.self.invariant c.args.instance c.requires.here c.index_mut.ensures.value in
    record {
      code = Benched.code_is c.self.invariant c.args.instance here;
      ports = Benched.ports_are c.self.invariant c.args.instance here c.at.new.self c.at.ensures;
      at = Benched.at_is c.self.invariant c.args.instance here c.at.new.self c.at.ensures;
      events = omega (arith, Tapping.events_here taps c.self.view_is c.self.invariant c.args.instance c.requires.here c.index_mut.ensures.value, c.requires.bound);
    }

pub invariant_of-self : goal.invariant_of-self
invariant_of-self g c =
    let taps = c.self.inside.taps.items in
    let at = Tapping.found taps c.self.view_is c.self.invariant c.args.instance c.requires.here c.index_mut.ensures.value in
    let new = c.run-pause.new.self in
    let ports = c.run-pause.new.ports in
    let e = c.run-pause.ensures.ran in
    Tapping.ran_laid taps c.self.view_is c.self.invariant c.args.instance c.requires.here c.index_mut.ensures.value new c.run-pause.ensures.gone ports
    (Benched.laid_now c.self.invariant c.args.instance at new.told c.at.new.self ports c.at.ensures e.names e.ports e.at c.run-pause.ensures.served.1)

pub returns : goal.returns
returns g c =
    let taps = c.self.inside.taps.items in
    let laid = c.self.invariant in
    let at = Tapping.found taps c.self.view_is laid c.args.instance c.requires.here c.index_mut.ensures.value in
    let new = c.run-pause.new.self in
    let ports = c.run-pause.new.ports in
    let e = c.run-pause.ensures.ran in
    let served = c.run-pause.ensures.served.1 in
    let z = c.run-pause.result in
    Tapping.run_worked taps c.self.view_is laid c.args.instance c.requires.here c.index_mut.ensures.value new c.run-pause.ensures.gone ports c.args.quantum z
    (Benched.laid_now laid c.args.instance at new.told c.at.new.self ports c.at.ensures e.names e.ports e.at served)
    (Benched.ran_now laid c.args.instance at new.told c.at.new.self ports c.at.ensures e.names e.ports e.at served c.counted.ensures c.args.quantum z e.paused e.events e.still)
