use Rattle.kahn_crew.proofs.Common.{arith, ⊎_elim, true≢false, sym, ◌∙◌, sendable}
use Rattle.kahn_crew.proofs.{Crewed.all_caused, Crewed.all_gone, Crewed.one_raised, Crossing.run_sync, Crossing.worker_send}
use Rattle.kahn_crew.proofs.crew.work_all.Goals as goal

pub returns : goal.returns
returns g c =
    let t = all_gone c.args.run.now c.args.workers.items c.run_all.result.0.items c.run_all.ensures.worked.0 (λ i d h. ⊎_elim (λ done. (done.0, done.1.2)) (λ left. (left.1.0, left.1.1)) (c.run_all.ensures.worked.1 i d h)) in
    record {
      count = c.run_all.ensures.worked.0;
      each = t.0;
      sums = t.1;
      several = c.run_all.ensures.worked.2;
      halted = λ yes. let q = c.run_all.ensures.quits yes in one_raised c.run_all.result.0.items q.0 (omega (arith, q.1, c.run_all.ensures.worked.0)) (λ d. (q.2 d).2);
      cause = λ no none. all_caused c.args.workers.items c.run_all.result.0.items c.run_all.ensures.worked.0 none (λ i d lt. (c.requires.each i d lt).1)
          (λ i d h. ⊎_elim (λ done. done.1) (λ left. absurd (true≢false (sym left.0 ∙ no))) (c.run_all.ensures.worked.1 i d h));
    }

-- a worker may go to another thread
pub run_all-requires-send-T : goal.run_all-requires-send-T
run_all-requires-send-T g c κs = search (worker_send, sendable) depth 20

-- threads may share the run
pub run_all-requires-sync-C : goal.run_all-requires-sync-C
run_all-requires-sync-C g c κs = search (run_sync, sendable) depth 20
