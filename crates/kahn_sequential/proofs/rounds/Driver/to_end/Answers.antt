use Rattle.kahn_sequential.proofs.Common.{arith, subst, IsVerdict}
use Rattle.kahn_sequential.proofs.{Benched.within, Turns.HasComeToRest, Turns.advanced_none, Turns.at_rest, Turns.moved_on}
use Rattle.kahn_sequential.proofs.rounds.Driver.to_end.Goals as goal

pub rounds-init : goal.rounds-init
rounds-init g c = record { advanced = advanced_none c.args.first c.requires.may; recorded = c.requires.recorded }

pub rounds-preserved : goal.rounds-preserved
rounds-preserved g c = record {
  advanced = moved_on (moved_on c.rounds.invariant.advanced c.noted_round.ensures.round.advanced) c.between_rounds-round.ensures.advanced;
  recorded = c.between_rounds-round.ensures.recorded;
}

pub returns-then-weight-before-clause-ended : goal.returns-then-weight-before-clause-ended
returns-then-weight-before-clause-ended g c =
    let round = c.noted_round.new.round in
    let rest : HasComeToRest c.args.bench.now c.noted_round.new.bench c.args.first round = at_rest c.rounds.invariant.advanced c.noted_round.ensures.round (omega arith) in (
      round.memory,
      record {
        last = rest.last;
        rule = subst (λ ends. IsVerdict round.memory ends c.verdict_of-verdict.result) c.deref.ensures.value c.verdict_of-verdict.ensures;
        within = within _ c.stood.ensures.laid c.stood.ensures.counted;
      },
      rest.advanced.may.lacks,
    )

pub returns-then-weight-before-clause-recorded : goal.returns-then-weight-before-clause-recorded
returns-then-weight-before-clause-recorded g c v e = (c.noted_round.ensures.recorded v e).0
