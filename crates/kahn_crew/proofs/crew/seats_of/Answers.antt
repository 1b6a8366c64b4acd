use Rattle.kahn_crew.proofs.Common.{List, [], ◌∷◌, ◌++◌, sym, ap, ◌∙◌, map-append, Seat, Tasked, seat_of}
use Rattle.kahn_crew.proofs.Crewed.{one_more}
use Rattle.kahn_crew.proofs.crew.seats_of.Goals as goal

pub loop-worker-preserved : goal.loop-worker-preserved
loop-worker-preserved c =
    let i = c.loop-worker.invariant in (
      tt,
      tt,
      c.push_reserved.ensures.items ∙ (ap (λ (l : List (Seat Tasked)). l ++ c.in-Some.worker.seat ∷ []) i.2 ∙ sym (map-append seat_of c.loop-worker.yielded (c.in-Some.worker ∷ []))),
      one_more c.loop-worker.yielded c.in-Some.worker c.loop-worker.wanted i.3,
      c.push_reserved.ensures.capacity ∙ i.4,
    )
