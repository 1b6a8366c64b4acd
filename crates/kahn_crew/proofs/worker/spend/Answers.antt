use Rattle.kahn_crew.proofs.Common.{arith, ap, sym, ◌∙◌, subst, ℕ, Some, HoldsInTurn, IsWellWired, wired, SeatView, IsBetween, IsDue, Tasked, IsTaskIn, terms_of}
use Rattle.kahn_crew.proofs.Working.{can_rest, in_hand, put_down, swapped, taken}
use Rattle.kahn_crew.proofs.worker.spend.Goals as goal

pub take_cell-boxed-requires-clause-held : goal.take_cell-boxed-requires-clause-held
take_cell-boxed-requires-clause-held g c = let h = c.requires.has.3 in (h.1.mine, (h.0, h.1.slot))

pub run_task-done-requires-clause-works : goal.run_task-done-requires-clause-works
run_task-done-requires-clause-works g c =
    let run = c.args.run.now in
    let well = subst IsWellWired run.fits.network c.program-program.ensures.wired in
    let p = c.args.p in
    let h = c.requires.has in
    let e = c.take_cell-boxed.ensures in
    let same = e.only h.3.0 h.3.1.slot ∙ (sym c.boxed.view_is ∙ sym c.deref_mut.ensures.value) in
    taken run well p c.args.drawn c.deref_mut.result.now c.args.worker.now.seat c.take_cell-boxed.new.self h same (swapped p c.args.drawn 0 _ _ c.args.worker.now.seat c.take_cell-boxed.new.self e.swaps (subst (λ (x : Tasked). HoldsInTurn p c.args.drawn 0 (Some x) c.args.worker.now.seat) (e.only h.3.0 h.3.1.slot) h.3.1)) e.swaps.0.0 e.swaps.1

pub due_of-due-requires : goal.due_of-due-requires
due_of-due-requires g c =
    let b = c.run_task-done.ensures.works in
    subst (IsTaskIn c.args.run.now c.args.p) (sym c.deref.ensures) (in_hand c.args.run.now c.args.p c.args.drawn c.run_task-done.result c.run_task-done.new.task c.run_task-done.new.worker.seat b)

pub put_back-requires-clause-held : goal.put_back-requires-clause-held
put_back-requires-clause-held g c = let h = c.run_task-done.ensures.works.holds in (h.mine, h.slot)

pub report_done-requires-clause-drawn : goal.report_done-requires-clause-drawn
report_done-requires-clause-drawn g c = let b = c.run_task-done.ensures.works in omega (arith, ap (λ (v : SeatView). v.drawn) c.put_back.ensures.1, b.holds.drawn, b.most)

pub rest-requires : goal.rest-requires
rest-requires g c =
    let run = c.args.run.now in
    let well = subst IsWellWired run.fits.network c.program-program.ensures.wired in
    let r = c.run_task-done.ensures in
    can_rest run well c.args.p c.args.drawn c.run_task-done.result c.run_task-done.new.task c.due_of-due.result c.run_task-done.new.worker.seat c.put_back.new.self c.report_done.new.self r.works r.published r.delivered
    c.put_back.ensures c.report_done.ensures (subst (λ (k : Tasked). IsDue (wired (terms_of run)) c.args.p k c.due_of-due.result) c.deref.ensures c.due_of-due.ensures)

pub returns-clause-rests : goal.returns-clause-rests
returns-clause-rests g c =
    let b = c.run_task-done.ensures.works in
    let held = put_down c.args.p c.args.drawn c.run_task-done.result c.run_task-done.new.task (wired (terms_of c.args.run.now)) c.run_task-done.new.worker.seat c.put_back.new.self c.report_done.new.self c.put_back.ensures c.report_done.ensures b.holds in
    (b.most, (c.rest.ensures.rests.0, subst (λ (k : ℕ). IsBetween k c.rest.new.worker.seat) held.0.drawn c.rest.ensures.rests.1))
