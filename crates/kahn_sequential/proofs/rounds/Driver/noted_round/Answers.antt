use Rattle.kahn_sequential.proofs.Common.{◌≡◌, ◌<◌, ◌∙◌, [], add-one, ap, arith, length, refl, rules, slice_get, Some, subst, sym, vec_capacity, Program, network_of, sight_of, TakesTurns}
use Rattle.kahn_sequential.proofs.{Recording.turn_short, Recording.turns_of, Turns.begun, Turns.noted}
use Rattle.kahn_sequential.proofs.rounds.Driver.noted_round.Goals as goal

pub loop-instance-init : goal.loop-instance-init
loop-instance-init g c =
    record {
      inside = record {
        advanced = begun c.requires.may (record { quantum = refl; left = refl; memory = refl; room = c.clear.ensures.capacity });
        size = ap length c.clear.ensures.items;
        still = λ f k y h. absurd (let e : slice_get [] k ≡ Some y = rw c.clear.ensures.items at h in cc);
      };
      count = search rules;
      recorded = c.requires.recorded;
    }

pub visit-end-requires-clause-may : goal.visit-end-requires-clause-may
visit-end-requires-clause-may g c = c.loop-instance.invariant.inside.advanced.may

pub stood_at-requires-in-loop-instance : goal.stood_at-requires-in-loop-instance
stood_at-requires-in-loop-instance g c =
    let here : c.loop-instance.instance < length (sight_of c.loop-instance.bench).network.instances = search rules in
    subst (λ n. c.loop-instance.instance < length n.instances) (sym c.visit-end.ensures.turn.ran.same.0) here

pub push_reserved-requires : goal.push_reserved-requires
push_reserved-requires g c =
    let i = c.loop-instance.invariant.inside in
    let here : c.loop-instance.instance < length (sight_of c.loop-instance.bench).network.instances = search rules in
    let ends = c.visit-end.ensures.turn.marked.ends in
    omega (arith, here, i.size, i.advanced.may.room, ap (λ e. length e.items) ends, ap vec_capacity ends)

pub keep_sent-requires : goal.keep_sent-requires
keep_sent-requires g c v e =
    let turn = c.visit-end.ensures.turn in
    let old = c.loop-instance.invariant.recorded v e in
    turn_short c.stood_at.ensures.laid c.stood_at-in-loop-instance.ensures.laid turn.ran turn.worked c.stood_at.ensures.stood
    (turns_of (network_of c.loop-instance.bench.network) c.loop-instance.round old.1) v.items old.0

pub loop-instance-preserved : goal.loop-instance-preserved
loop-instance-preserved g c =
    let i = c.loop-instance.invariant.inside in
    let v = c.visit-end.ensures in
    let here : c.loop-instance.instance < length (sight_of c.loop-instance.bench).network.instances = search rules in
    record {
      inside = rw (add-one c.loop-instance.instance)
          (noted i.advanced.may here v.turn v.rests v.more i
          (record { quantum = refl; left = refl; memory = refl; room = c.push_reserved.ensures.capacity })
          (rw c.push_reserved.ensures.items (rw v.turn.marked.ends refl)));
      count = c.loop-instance.invariant.count ∙ ap (λ n. length n.instances) (sym v.turn.ran.same.0);
      recorded = λ w e.
          let f = c.keep_sent.ensures.kept w e in (
            c.keep_sent.ensures.recorded w e,
            subst (λ (k : Program). TakesTurns (network_of k) c.visit-end.new.round.quantum) (sym v.turn.worked.network)
                (subst (TakesTurns (network_of c.loop-instance.bench.network)) (sym v.turn.marked.quantum) (c.loop-instance.invariant.recorded f.0 f.1).1),
          );
    }
