use Rattle.kahn_sequential.proofs.Common.{◌≡◌, arith, false, rules, sym, true, ◌∙◌, sight_of}
use Rattle.std.proofs.lemmas.Grind.{common_steps}
use Rattle.kahn_sequential.proofs.{Noted.all_rest, Noted.noted_but, Turns.advanced_none, Turns.moved_on}
use Rattle.kahn_sequential.proofs.rounds.Driver.settle.Goals as goal

pub loop-init : goal.loop-init
loop-init g c = record { advanced = advanced_none c.args.round.now c.requires.may; noted = c.requires.noted; spent = c.requires.spent }

pub settle_one-requires : goal.settle_one-requires
settle_one-requires g c = record {
  may = c.loop.invariant.advanced.may;
  noted = noted_but (sight_of c.loop.bench) c.loop.woken c.take.new.self c.in-Some.instance c.loop.round.ends.items c.loop.invariant.noted c.in-Some.ensures.taken;
  spent = c.loop.invariant.spent;
}

pub returns-then-woken-clause-rest : goal.returns-then-woken-clause-rest
returns-then-woken-clause-rest g c = λ yes.
    let known : c.take.new.self.known ≡ true = search rules in
    let calm : c.loop.round.memory ≡ false = grind (arith, common_steps, yes) in
    let t = c.in_default.ensures.taken in
    all_rest (sight_of c.loop.bench) c.loop.woken c.take.new.self c.loop.round c.loop.invariant.noted (sym t.0 ∙ known) t calm

pub loop-preserved : goal.loop-preserved
loop-preserved g c = record {
  advanced = moved_on c.loop.invariant.advanced c.settle_one.ensures.advanced;
  noted = c.settle_one.ensures.noted (search rules);
  spent = c.settle_one.ensures.spent;
}

pub returns-then-woken-clause-spent : goal.returns-then-woken-clause-spent
returns-then-woken-clause-spent g c = c.loop.invariant.spent

pub returns-else-woken-clause-spent : goal.returns-else-woken-clause-spent
returns-else-woken-clause-spent g c = c.loop.invariant.spent

pub returns-clause-spent : goal.returns-clause-spent
returns-clause-spent g c = c.loop.invariant.spent
