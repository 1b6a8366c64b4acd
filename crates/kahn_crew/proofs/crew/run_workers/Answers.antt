use Rattle.kahn_crew.proofs.Common.{All, All-map, subst, sym, IsDoneAt, seat_of, table_id_of}
use Rattle.kahn_crew.proofs.Crewed.{seated}
use Rattle.kahn_crew.proofs.crew.run_workers.Goals as goal

pub work_all-workers-requires-clause-each : goal.work_all-workers-requires-clause-each
work_all-workers-requires-clause-each g c κs within = seated c.args.run.now c.in-Ok-split_all.seats.items c.workers_at-workers.result.0.items c.workers_at-workers.ensures.seats c.in-Ok-split_all.ensures.each c.workers_at-workers.ensures.calm

pub join_all-seat-requires-clause-each : goal.join_all-seat-requires-clause-each
join_all-seat-requires-clause-each g c = let z = table_id_of c.args.run.now in
    subst (All (IsDoneAt z)) (sym c.seats_of-seats.ensures.seats) (All-map (IsDoneAt z) seat_of _ c.work_all-workers.ensures.each)
