use Rattle.kahn_pool.proofs.Common.{Err, refl, ap, map, subst, idle_still, NoMemory, cell_alone, Stopped, HaveRisen, cells_of}
use Rattle.kahn_pool.proofs.Held_jobs.{held_alike, refused_so, risen_here, stopped_since}
use Rattle.kahn_pool.proofs.held.run_part.Goals as goal

pub run_settled-requires-clause-part : goal.run_settled-requires-clause-part
run_settled-requires-clause-part g c κs within =
    let t = c.args.part.now in
    let p = c.requires.part in
    let e = c.settle-settled.ensures in
    let us = c.settle-settled.new.idles.items in
    record {
      crew = p.crew;
      few = p.few;
      held = held_alike p.held us e.cells (idle_still t.network.now t.input.now c.args.idles.items p.held.idle us e.cells e.stood e.resting);
    }

pub returns-then-is_err : goal.returns-then-is_err
returns-then-is_err g c =
    let t = c.args.part.now in
    let e = c.settle-settled.ensures in
    let ws = c.args.idles.items in
    let us = c.settle-settled.new.idles.items in
    let held = c.requires.part.held in
    let r : Stopped = record { idles = c.settle-settled.new.idles; budget = t.left; ends = c.args.room.ends; outcome = Err NoMemory } in
    refused_so t ws r (held_alike held us e.cells (idle_still t.network.now t.input.now ws held.idle us e.cells e.stood e.resting))
    (subst (λ cs. HaveRisen cs (cells_of us)) e.cells (risen_here (cells_of us))) NoMemory tt refl (λ f. (refl, ap (map cell_alone) e.cells))

pub returns : goal.returns
returns g c = stopped_since c.args.part.now c.args.idles.items c.settle-settled.new.idles.items c.run_settled.result c.settle-settled.ensures.cells c.run_settled.ensures.stopped
