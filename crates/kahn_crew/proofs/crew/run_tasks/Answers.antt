use Rattle.std.proofs.lemmas.Result.{on_ok_weaker}
use Rattle.kahn_crew.proofs.Common.{arith, length, refl, ap, ◌∙◌, Sat, Tasked}
use Rattle.kahn_crew.proofs.{Ended.have_gone, Ended.instances_of, Ended.is_over, Ended.lack_of, Ended.unboxed, Ended.untouched, Ended.untouched_gone, Ended.untouched_here, Started.fits_of}
use Rattle.kahn_streams.specs.declared.plan.Plan.{Plan}
use Rattle.kahn_crew.proofs.crew.run_tasks.Goals as goal

pub returns-in-Err-clause-gone : goal.returns-in-Err-clause-gone
returns-in-Err-clause-gone g c =
    untouched_gone c.args.network.now c.args.input.now c.args.crewing.watch c.args.bound c.args.tasks.items c.in-Err.tasks.items c.args.bound c.requires.ready c.in-Err.ensures.refused refl

pub returns-in-Err-clause-untouched : goal.returns-in-Err-clause-untouched
returns-in-Err-clause-untouched g c none = untouched_here c.in-Err.ensures.refused refl

pub invariant_of-run : goal.invariant_of-run
invariant_of-run g c = record {
  fits = fits_of c.args.network.now c.args.input.now c.args.crewing.watch c.in-Ok.opened.0.table.shared.key c.in-Ok.ensures.begun _ c.requires.code;
  some = omega (arith, c.requires.crew.3, ap (λ (p : Plan). p.quantum) c.plan.ensures);
}

pub unbox_all-requires : goal.unbox_all-requires
unbox_all-requires g c =
    let e = c.close-closed.ensures.each.0 in
    let i = instances_of c.in-Ok.opened.0.table.shared.key.network.value c.args.network.now c.in-Ok.ensures.begun.network c.program-program.ensures.wired in
    let r = c.in-Ok.ensures.room in
    omega (arith, e, i, r.1, ap length r.0)

pub returns-clause-gone : goal.returns-clause-gone
returns-clause-gone g c =
    let o = c.in-Ok.ensures in
    have_gone c.program-program.ensures.wired o.begun c.close-closed.ensures (unboxed _ _ _ o.room.0 c.unbox_all.ensures) o.key c.run_workers-outcome.ensures.seat.1.1

pub returns-clause-over : goal.returns-clause-over
returns-clause-over g c =
    let o = c.in-Ok.ensures in
    on_ok_weaker c.run_workers-outcome.result.0 (is_over c.program-program.ensures.wired o.begun c.close-closed.ensures (unboxed _ _ _ o.room.0 c.unbox_all.ensures) o.key)
    c.run_workers-outcome.ensures.left

pub returns-clause-cause : goal.returns-clause-cause
returns-clause-cause g c =
    let r = c.close-closed.ensures.halt_raised in
    on_ok_weaker c.run_workers-outcome.result.0 (λ h. ((λ yes. h.0 (r.1 yes)), λ yes. r.0 (h.1 yes))) c.run_workers-outcome.ensures.cause

pub returns-clause-wants : goal.returns-clause-wants
returns-clause-wants g c = lack_of c.run_workers-outcome.result.0 (omega (arith, c.in-Ok.ensures.hints, c.requires.crew.1)) c.run_workers-outcome.ensures.lack

pub returns-clause-untouched : goal.returns-clause-untouched
returns-clause-untouched g c none =
    let o = c.in-Ok.ensures in
    untouched c.program-program.ensures.wired o.begun c.close-closed.ensures (unboxed _ _ _ o.room.0 c.unbox_all.ensures) o.key c.run_workers-outcome.ensures.seat.1.1
    (c.run_workers-outcome.ensures.idle none ∙ ap (λ (m : Sat Tasked). m.0.done) o.seat.1)
