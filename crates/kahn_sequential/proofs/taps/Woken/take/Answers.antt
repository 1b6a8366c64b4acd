use Rattle.std.proofs.Common.{arith, refl}
use Rattle.kahn_sequential.proofs.{Benched.within_get, Noted.popped}
use Rattle.kahn_sequential.proofs.taps.Woken.take.Goals as goal

pub returns-in-Some-clause-taken : goal.returns-in-Some-clause-taken
returns-in-Some-clause-taken c = (refl, popped c.args.self.now.instances.items c.pop.new.self.items c.in-Some.instance c.in-Some.ensures.items)

pub returns-in-None-clause-taken : goal.returns-in-None-clause-taken
returns-in-None-clause-taken c = (
  refl,
  λ p w.
      absurd (omega (arith, c.in-None.ensures.cases.0, within_get c.args.self.now.instances.items w.0 p w.1, c.args.self.now.instances.ok.0)),
)
