use Rattle.kahn_explain.proofs.Common.{length, subst, inputs_of, network_of, AreFirstEnds}
use Rattle.kahn_explain.proofs.needing.firsts_told.Goals as goal

pub firsts-requires-clause-run : goal.firsts-requires-clause-run
firsts-requires-clause-run c = let ran = c.in_ok-kept.ensures in (ran.0, c.args.config, ran.2)

pub returns-in-Ok : goal.returns-in-Ok
returns-in-Ok c =
    let run = c.in_ok-kept.kept in
    let lists = c.in_ok-lists.lists in (
      run,
      lists,
      c.in_ok-kept.ensures,
      c.in_ok-lists.ensures.read,
      subst (λ j. AreFirstEnds (network_of c.args.network.now) run.answer (inputs_of lists) c.args.question.line j (length run.answer.streams.items) c.in-Ok.told.1) c.unwrap_or-place.ensures c.in-Ok.ensures,
    )
