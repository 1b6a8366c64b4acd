use Rattle.kahn_sequential.proofs.Common.{ℕ, arith, ◌≡◌, ◌+◌, ◌-◌, length, refl, replicate, sym, ap, ◌∙◌, subst, Answer, Option, Program, Lists, network_of, nothing_gone, all_events, sight_of, IsPartEnd, AreCountsOf, AreOpenChannels, IsKeptAlone, TakesTurns}
use Rattle.kahn_sequential.proofs.Recording.{all_recorded, opened}
use Rattle.kahn_sequential.proofs.counted.run_kept.Goals as goal

pub run_until_wide-run-requires-clause-recorded : goal.run_until_wide-run-requires-clause-recorded
run_until_wide-run-requires-clause-recorded c v e =
    let n = c.in_ok-bench.ensures.names in
    let may = c.requires.opened v e in (
      opened c.in_ok-bench.bench c.stood.ensures.laid c.stood.ensures.each c.in_ok-bench.ensures.fresh v.items
          (subst (λ (x : Program × Lists). AreOpenChannels x.0 x.1 v.items (length (network_of x.0).channels)) (λ i. (sym n.0 i, sym n.1 i)) may.0),
      subst (λ t. TakesTurns (network_of t) c.args.plan.quantum) (sym n.0) may.1,
    )

pub counts_of-counts-requires-clause-names : goal.counts_of-counts-requires-clause-names
counts_of-counts-requires-clause-names c =
    let w = c.in-Ok.ensures.worked in
    let n = c.in_ok-bench.ensures.names in
    (w.network ∙ n.0, w.input ∙ n.1)

pub into_streams-requires-clause-whole : goal.into_streams-requires-clause-whole
into_streams-requires-clause-whole c =
    let w = c.in-Ok.ensures.worked in
    let b = c.in_ok-bench.ensures in
    w.gone ∙ b.whole ∙ ap (λ t. replicate (length (network_of t).instances) nothing_gone) (sym (w.network ∙ b.names.0))

pub into_streams-requires-clause-ready : goal.into_streams-requires-clause-ready
into_streams-requires-clause-ready c =
    let w = c.in-Ok.ensures.worked in
    let n = c.in_ok-bench.ensures.names in
    rw (w.network ∙ n.0, w.input ∙ n.1, w.watch ∙ n.2) c.in_ok-streams.ensures

pub returns : goal.returns
returns c =
    let bench = c.run_until_wide-run.new.bench in
    let part = c.in-Ok.part in
    let w = c.in-Ok.ensures.worked in
    let n = c.in_ok-bench.ensures.names in
    let bound = c.args.plan.bound in
    let all : all_events (sight_of c.in_ok-bench.bench) + bound ≡ bound = omega (arith, c.in_ok-bench.ensures.fresh) in
    let (halted, ended, lacks) = subst (λ n. IsPartEnd bench n part) all c.in-Ok.ensures.concluded in
    let a : Answer = record { verdict = part.verdict; streams = c.into_streams.result; ends = part.ends; events = bound - part.left } in
    let counts = subst (λ t. AreCountsOf (sight_of bench) c.counts_of-counts.result.items (length (network_of t).channels)) (sym (w.network ∙ n.0)) c.counts_of-counts.ensures in
    subst (λ (x : Program × Lists × Option ℕ). IsKeptAlone x.0 x.1 x.2 bound (record { answer = a; counts = c.counts_of-counts.result }) c.run_until_wide-run.new.recording)
    (λ i. ((w.network ∙ n.0) i, (w.input ∙ n.1) i, (w.watch ∙ n.2) i))
    (all_recorded bench c.stood-2.ensures.laid a ended c.into_streams.ensures refl c.counts_of-counts.result.items c.run_until_wide-run.new.recording counts c.in-Ok.ensures.recorded)
