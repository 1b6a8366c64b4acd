use Rattle.kahn_crew.proofs.Common.{arith, refl, subst, Some, IsWellWired, RestsWith, ◌∙◌, Worker}
use Rattle.kahn_crew.proofs.{Heeding.heeds_still, Heeding.heeds_then, Working.still_has}
use Rattle.kahn_crew.proofs.worker.turn.Goals as goal

pub draw_some-requires-clause-holds : goal.draw_some-requires-clause-holds
draw_some-requires-clause-holds g c = (Some c.requires.3.0, c.requires.3.1)

pub spend_all-left-requires-clause-has : goal.spend_all-left-requires-clause-has
spend_all-left-requires-clause-has g c =
    let run = c.args.run.now in
    let well = subst IsWellWired run.fits.network c.program-program.ensures.wired in
    let d = c.draw_some.ensures in
    still_has run well c.args.p c.in-Got.drawn c.args.worker.now.seat c.draw_some.new.seat c.requires d.same.0 d.knows c.in-Got.ensures.drawn c.in-Got.ensures.fits.2

pub spend_all-left-requires-clause-share : goal.spend_all-left-requires-clause-share
spend_all-left-requires-clause-share g c = let d = c.in-Got.ensures.draws in (d.1, _, d.4.2.0, d.4.2.2, d.4.2.3)

pub rest_ready-requires-clause-holds : goal.rest_ready-requires-clause-holds
rest_ready-requires-clause-holds g c =
    let run = c.args.run.now in
    let well = subst IsWellWired run.fits.network c.program-program.ensures.wired in
    let d = c.draw_some.ensures in
    let h = still_has run well c.args.p 0 c.args.worker.now.seat c.draw_some.new.seat c.requires d.same.0 d.knows c.in-Lost.ensures.drawn (omega (arith, c.requires.2, d.knows.events_when_got)) in
    (0, 0, h.3.0, h.3.1, h.3.2, tt)

pub rest_ready-requires-in-Empty-clause-holds : goal.rest_ready-requires-in-Empty-clause-holds
rest_ready-requires-in-Empty-clause-holds g c =
    let run = c.args.run.now in
    let well = subst IsWellWired run.fits.network c.program-program.ensures.wired in
    let d = c.draw_some.ensures in
    let h = still_has run well c.args.p 0 c.args.worker.now.seat c.draw_some.new.seat c.requires d.same.0 d.knows c.in-Empty.ensures.drawn (omega (arith, c.requires.2, d.knows.events_when_got)) in
    (0, 0, h.3.0, h.3.1, h.3.2, tt)

pub returns-in-Lost-clause-idle : goal.returns-in-Lost-clause-idle
returns-in-Lost-clause-idle g c =
    let h = c.requires.3 in
    c.hint.ensures.still.rests 0 (subst (λ n. RestsWith n c.rest_ready.new.seat.seat.me.0) (c.in-Lost.ensures.drawn (Some h.0) h.1).drawn c.rest_ready.ensures.rests)

pub returns-in-Lost-clause-same : goal.returns-in-Lost-clause-same
returns-in-Lost-clause-same g c =
    let a = c.args.worker.now in
    let b : Worker = record a { seat = c.rest_ready.new.seat } in
    let d = c.draw_some.ensures.same in
    let r = c.rest_ready.ensures.same in
    heeds_then a b c.hint.new.worker (heeds_still a b ((r.0 ∙ d.0, r.1 ∙ d.1, r.2 ∙ d.2, r.3 ∙ d.3), refl, refl)) c.hint.ensures.same

pub returns-in-Got-clause-aside : goal.returns-in-Got-clause-aside
returns-in-Got-clause-aside g c = (c.draw_some.new.seat, _, c.in-Got.ensures.draws, λ e. absurd cc)

pub returns-in-Lost-clause-aside : goal.returns-in-Lost-clause-aside
returns-in-Lost-clause-aside g c = (c.draw_some.new.seat, _, c.in-Lost.ensures.draws, λ e. c.hint.ensures.given refl)

pub returns-in-Empty-clause-aside : goal.returns-in-Empty-clause-aside
returns-in-Empty-clause-aside g c = (c.draw_some.new.seat, _, c.in-Empty.ensures.draws, λ e. absurd cc)
