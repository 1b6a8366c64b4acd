use Rattle.kahn_sequential.proofs.Common.{◌<◌, ◌≡◌, length, refl, rules, subst, sym, Schema, sight_of, AreNoted, AreNotedBut}
use Rattle.kahn_sequential.proofs.{Noted.noted_one, Noted.spent_one, Turns.as_well, Turns.turned}
use Rattle.kahn_sequential.proofs.rounds.Driver.settle_one.Goals as goal

pub wake_readers-requires : goal.wake_readers-requires
wake_readers-requires g c =
    let below : c.args.instance < length (sight_of c.args.bench.now).network.instances = search rules in
    subst (λ (N : Schema). c.args.instance < length N.instances) (sym c.visit-end.ensures.turn.ran.same.0) below

pub returns-then-matches-clause-advanced : goal.returns-then-matches-clause-advanced
returns-then-matches-clause-advanced g c =
    let below : c.args.instance < length (sight_of c.args.bench.now).network.instances = search rules in
    turned c.requires.may below c.visit-end.ensures.turn

pub returns : goal.returns
returns g c =
    let below : c.args.instance < length (sight_of c.args.bench.now).network.instances = search rules in
    record {
      advanced = as_well (record { quantum = refl; left = refl; memory = refl; room = refl }) (turned c.requires.may below c.visit-end.ensures.turn);
      noted = λ yes.
          let v = c.visit-end.ensures in
          let i = c.args.instance in
          let w = c.args.woken.now in
          let ends = c.visit-end.new.round.ends.items in
          noted_one c.args.bench.now c.visit-end.new.bench c.args.round.now c.visit-end.new.round i c.visit-end.result c.stood.ensures.laid c.stood.ensures.counted v (search rules) w c.wake_readers.new.woken ends
          (subst (λ e. AreNotedBut (λ p. p ≡ i) (sight_of c.args.bench.now) w e.items) (sym v.turn.marked.ends) c.requires.noted) c.wake_readers.ensures;
      spent = spent_one c.args.bench.now c.visit-end.new.bench c.args.round.now c.visit-end.new.round c.args.instance c.visit-end.result c.visit-end.ensures c.args.turned.now c.add_once.new.self
          c.requires.spent c.add_once.ensures;
    }

pub returns-then-matches-clause-spent : goal.returns-then-matches-clause-spent
returns-then-matches-clause-spent g c =
    spent_one c.args.bench.now c.visit-end.new.bench c.args.round.now c.visit-end.new.round c.args.instance c.visit-end.result c.visit-end.ensures c.args.turned.now c.add_once.new.self c.requires.spent c.add_once.ensures
