use Rattle.kahn_sequential.proofs.Common.{subst, sym, network_of, Table, TakesTurns}
use Rattle.kahn_sequential.specs.inner.Recording.{AreRecorded}
use Rattle.kahn_sequential.proofs.one.run_until_wide.Goals as goal

pub to_end-requires-clause-recorded : goal.to_end-requires-clause-recorded
to_end-requires-clause-recorded g c v e =
    let old = c.requires.recorded v e in
    subst (λ (b : Table). AreRecorded b v.items × TakesTurns (network_of b.network) c.new-first.result.quantum) (sym c.note_bound.ensures)
    (old.0, subst (TakesTurns (network_of c.args.bench.now.network)) (sym c.new-first.ensures.same.0) old.1)
