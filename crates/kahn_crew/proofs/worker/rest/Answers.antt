use Rattle.kahn_crew.proofs.Common.{arith, refl, subst, sym, inr, ◌∙◌, wired, IsDue, IsSetDown, terms_of}
use Rattle.kahn_crew.proofs.worker.rest.Goals as goal

pub rest_ready-requires-clause-holds : goal.rest_ready-requires-clause-holds
rest_ready-requires-clause-holds c = let h = c.requires.1 in (h.0, h.1, h.2, h.3, h.4, tt)

pub rest_over-requires-clause-holds : goal.rest_over-requires-clause-holds
rest_over-requires-clause-holds c =
    let h = c.requires.1 in
    (h.0, h.1, h.2, h.3, h.4, subst (IsDue (wired (terms_of c.args.run.now)) c.args.p h.2) c.in-Over.is h.5)

pub rest_dry-requires-clause-reads : goal.rest_dry-requires-clause-reads
rest_dry-requires-clause-reads c =
    let h = c.requires.1 in
    let counts = c.args.run.now.board.now.counts.1 in
    let due = subst (IsDue (wired (terms_of c.args.run.now)) c.args.p h.2) c.in-Waits.is h.5 in
    (omega (arith, due.0, counts), due.1, due.2)

pub rest_dry-requires-clause-holds : goal.rest_dry-requires-clause-holds
rest_dry-requires-clause-holds c =
    let h = c.requires.1 in
    (h.0, h.1, h.2, h.3, h.4, (subst (IsDue (wired (terms_of c.args.run.now)) c.args.p h.2) c.in-Waits.is h.5).3)

pub returns-then-not-rest_dry-clause-rests : goal.returns-then-not-rest_dry-clause-rests
returns-then-not-rest_dry-clause-rests c =
    let h = c.hint-then-not-rest_dry.ensures in
    (h.same.0 ∙ (c.rest_dry.ensures.same.0 ∙ c.requires.0), h.still.rests c.args.worker.now.seat.seat.me.0.drawn c.rest_dry.ensures.rests)

pub returns-then-not-rest_dry-clause-set_down : goal.returns-then-not-rest_dry-clause-set_down
returns-then-not-rest_dry-clause-set_down c =
    let late = c.if-not-rest_dry.ensures.late refl in
    subst (λ due. IsSetDown c.args.run.now c.args.p due c.args.worker.now.seat c.hint-then-not-rest_dry.new.worker.seat) (sym c.in-Waits.is)
    (inr (late.0, late.1, late.2))
