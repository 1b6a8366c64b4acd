use Rattle.kahn_crew.proofs.Common.{◌∙◌, refl, Worker}
use Rattle.kahn_crew.proofs.{Heeding.heeds_then, Heeding.heeds_still, Publishing.published_more, Publishing.sees_still, Working.stood}
use Rattle.kahn_crew.proofs.worker.publish_all.Goals as goal

pub publish_one-reader-requires-clause-works : goal.publish_one-reader-requires-clause-works
publish_one-reader-requires-clause-works c = let w = c.requires.works in (w.0, w.1, c.loop-parameter.invariant.works w.0 w.1 w.2)

pub hint-requires : goal.hint-requires
hint-requires c = let w = c.requires.works in (c.publish_one-reader.ensures.works w.0 w.1 (c.loop-parameter.invariant.works w.0 w.1 w.2)).seated

pub loop-parameter-preserved : goal.loop-parameter-preserved
loop-parameter-preserved c =
    let i = c.loop-parameter.invariant in
    let one = c.publish_one-reader.ensures in
    let h = c.hint.ensures in
    let a = c.args.worker.now in
    let b = c.loop-parameter.worker in
    let s = c.publish_one-reader.new.seat in
    let m : Worker = record b { seat = s } in
    let d = c.hint.new.worker in
    let y = c.publish_one-reader.new.task in
    record {
      same = heeds_then a b d i.same (heeds_then b m d (heeds_still b m (one.same, refl, refl)) h.same);
      works = λ n k w. stood c.args.run.now c.args.p n k y s d.seat (one.works n k (i.works n k w)) h.still h.same.0;
      seen = sees_still a.seat.seat.me.0.seen s.seat.me.0.seen d.seat.seat.me.0.seen (sees_still a.seat.seat.me.0.seen b.seat.seat.me.0.seen s.seat.me.0.seen i.seen one.seen) h.still.seen;
      work = one.task.0 ∙ i.work;
      standing = one.task.1 ∙ i.standing;
      all = published_more c.loop-parameter.task y c.loop-parameter.parameter one.task.0 one.others i.all one.published;
    }
