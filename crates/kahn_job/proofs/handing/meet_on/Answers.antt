use Rattle.kahn_job.proofs.Common.{arith, end_of_side, ◌≡◌, ◌∙◌, ap, subst, sym, Actual, Reads, Writes, Side, actual_at, instance_at, network_of, IsBehind, rows_of}
use Rattle.kahn_job.specs.inner.Ends.{MayMeet}
use Rattle.kahn_job.proofs.{Exchanged.stayed, Settles.can_settle, Settles.none_reads, Settles.none_writes, Settles.on_only}
use Rattle.kahn_job.proofs.handing.meet_on.Goals as goal

pub meet-requires : goal.meet-requires
meet-requires c =
    let r = c.requires.resting in
    let e = c.exchange_two-sender in
    subst (λ x. MayMeet x e.result.1) (sym e.ensures.ends.0) (subst (MayMeet _) (sym e.ensures.ends.1)
    (can_settle c.args.network.now c.program-program.ensures.wired r.0 (rows_of c.args.idles.now.items) r.1 c.args.channel c.in-Some.writer c.in-Some-reader.reader
    c.in-Some.ensures.only c.in-Some-reader.ensures.only).ends)

pub returns-in-Some-reader-clause-met : goal.returns-in-Some-reader-clause-met
returns-in-Some-reader-clause-met c =
    let took = c.exchange_two-sender in
    let gave = c.exchange_two-none in
    let w = c.in-Some.ensures.only.0 in
    let r = c.in-Some-reader.ensures.only.0 in
    let rest = c.requires.resting.1 in
    let here : Side → Actual = λ s. actual_at (instance_at (network_of c.args.network.now) s.instance) s.parameter in
    record {
      cells = gave.ensures.cells ∙ took.ensures.cells;
      rows = stayed (rows_of c.args.idles.now.items) (rows_of took.new.idles.items) (rows_of gave.new.idles.items) c.in-Some.writer c.in-Some-reader.reader ((omega (arith, w.0, rest.count), omega (arith, w.0, rest.sizes c.in-Some.writer.instance)), (omega (arith, r.0, rest.count), omega (arith, r.0, rest.sizes c.in-Some-reader.reader.instance)))
          (λ e. let no : Writes c.args.channel ≡ Reads c.args.channel = sym w.1 ∙ ap here e ∙ r.1 in absurd cc)
          _ _ took.result.0 took.result.1 c.meet.result.0 c.meet.result.1 took.ensures.rows took.ensures.ends
          gave.ensures.rows c.meet.ensures.stayed;
    }

pub returns-in-Some-reader-clause-behind : goal.returns-in-Some-reader-clause-behind
returns-in-Some-reader-clause-behind c =
    let took = c.exchange_two-sender in
    on_only IsBehind (network_of c.args.network.now) c.args.channel (rows_of c.args.idles.now.items) c.in-Some.writer c.in-Some-reader.reader c.in-Some.ensures.only
    c.in-Some-reader.ensures.only (subst (λ x. IsBehind x (end_of_side (rows_of c.args.idles.now.items) c.in-Some-reader.reader)) took.ensures.ends.0 (subst (IsBehind took.result.0) took.ensures.ends.1 c.meet.ensures.behind))

pub returns-in_default-reader-clause-behind : goal.returns-in_default-reader-clause-behind
returns-in_default-reader-clause-behind c =
    none_reads IsBehind (network_of c.args.network.now) c.args.channel (rows_of c.args.idles.now.items) c.in_default-reader.ensures.only

pub returns-in_default-clause-behind : goal.returns-in_default-clause-behind
returns-in_default-clause-behind c = none_writes IsBehind (network_of c.args.network.now) c.args.channel (rows_of c.args.idles.now.items) c.in_default.ensures.only
