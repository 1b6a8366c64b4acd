use Rattle.kahn_sequential.proofs.Common.{◌≡◌, ◌+◌, ◌∙◌, ap, false, inl, refl, rules, true, all_events, sight_of}
use Rattle.kahn_sequential.proofs.{Benched.within, Noted.noted_after}
use Rattle.kahn_sequential.proofs.flow.run_on.Goals as goal

pub returns-then-settle-clause-concluded : goal.returns-then-settle-clause-concluded
returns-then-settle-clause-concluded g c =
    let a = c.settle.ensures.advanced in
    let rest = c.settle.ensures.rest c.if-settle.true in (
      false,
      record {
        last = record {
          known = a.may.known;
          total = a.total ∙ ap (λ n. all_events (sight_of c.args.bench.now) + n) c.new-round.ensures.same.1;
          size = rest.size;
          ends = λ p x at. let k = rest.each p x at in (k.0, λ m. absurd (k.1 m));
        };
        rule = (refl, λ p x at. (rest.each p x at).1);
        within = within _ c.stood.ensures.laid c.stood.ensures.counted;
      },
      λ e. absurd (let f : false ≡ true = e in cc),
    )

pub returns-then-settle-clause-noted : goal.returns-then-settle-clause-noted
returns-then-settle-clause-noted g c known = let rest = c.settle.ensures.rest c.if-settle.true in (rest.size, λ p x at. inl (inl (rest.each p x at)))

pub returns-clause-noted : goal.returns-clause-noted
returns-clause-noted g c =
    noted_after c.to_end.new.bench (all_events (sight_of c.settle.new.bench) + c.settle.new.round.left) c.in-Ok.part c.clear-2.new.self c.in-Ok.ensures.ended (λ known. search rules)
