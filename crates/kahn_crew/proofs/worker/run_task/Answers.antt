use Rattle.kahn_crew.proofs.Common.{arith, ◌≡◌, ◌⊎◌, ℕ, ◌+◌, ◌-◌, inl, inr, ⊎_elim, refl, sym, ap, ◌∙◌, subst, Result, Ok, Err, OnOk, OnErr, Schema, network_of, end_at, IsDelivered, Work, standing_after, IsAtWork, IsPause}
use Rattle.kahn_streams.specs.{Meaning.Store, Script.ScriptOutcome}
use Rattle.kahn_code.specs.{declared.progress.Pause.Pause, Cells.exec_on}
use Rattle.kahn_job.specs.inner.Ends.{IsDry, IsReady}
use Rattle.kahn_crew.proofs.{Resting.sees_two, Working.in_hand, Working.is_lent, Working.went}
use Rattle.kahn_code.specs.declared.progress.Pause.TheVariants as pause
use Rattle.kahn_job.specs.declared.task.TaskStanding.TheVariants as standing
use Rattle.kahn_crew.proofs.worker.run_task.Goals as goal

either_of : {E : Type 0} (r : Result (Unit {0}) E) {P Q : Type 0} → OnOk r P → OnErr r Q → Q ⊎ P
either_of (Ok u) p q = inr p
either_of (Err e) p q = inl q

-- after a pause of one that may go on the quantum is used up, or memory was refused
going_spent : (N : Schema) (p : ℕ) (dry ready : ℕ → Type 0) (S H : Type 0) (z : Pause) (o : ScriptOutcome Store) →
    standing_after z ≡ standing.Going → IsPause N p dry ready S z o → (z ≡ pause.NoMemory → H) → S ⊎ H
going_spent N p dry ready S H pause.Spent o e says halts = inl says.0
going_spent N p dry ready S H pause.NoMemory o e says halts = inr (halts refl)
going_spent N p dry ready S H pause.Ended o e says halts = absurd cc
going_spent N p dry ready S H (pause.Fault k) o e says halts = absurd cc
going_spent N p dry ready S H (pause.Dry q) o e says halts = absurd cc

pub run-pause-requires-clause-code : goal.run-pause-requires-clause-code
run-pause-requires-clause-code g c = let run = c.args.run.now in run.fits.code ∙ sym (in_hand run c.args.p c.args.drawn 0 c.args.task.now c.args.worker.now.seat c.requires.works).1.0

pub run-pause-requires-clause-lent : goal.run-pause-requires-clause-lent
run-pause-requires-clause-lent g c = is_lent c.args.run.now c.args.p c.args.task.now c.requires.works.inside c.requires.works.first

pub run-pause-requires-clause-events : goal.run-pause-requires-clause-events
run-pause-requires-clause-events g c = omega (arith, c.requires.works.events, c.requires.works.few)

pub heed-requires : goal.heed-requires
heed-requires g c = c.requires.works.seated

pub publish_all-requires : goal.publish_all-requires
publish_all-requires g c =
    let x = c.args.task.now in
    let y = c.run-pause.new.self in
    let z = c.flush-flushed.new.self in
    let r = c.run-pause.ensures in
    let f = c.flush-flushed.ensures in
    record {
      works = (
        c.args.drawn,
        z.work.cell.events - x.work.cell.events,
        went c.args.run.now c.args.p c.args.drawn x y z c.args.worker.now.seat c.heed.new.worker.seat c.requires.works c.heed.ensures.still c.heed.ensures.same.0 r.continues r.published r.events f.continues f.published f.cell,
      );
    }

pub returns-clause-works : goal.returns-clause-works
returns-clause-works g c =
    let x = c.args.task.now in
    let y = c.run-pause.new.self in
    let z = c.flush-flushed.new.self in
    let r = c.run-pause.ensures in
    let f = c.flush-flushed.ensures in
    let a = went c.args.run.now c.args.p c.args.drawn x y z c.args.worker.now.seat c.heed.new.worker.seat c.requires.works c.heed.ensures.still c.heed.ensures.same.0 r.continues r.published r.events f.continues f.published f.cell in
    subst (λ (k : ℕ). IsAtWork c.args.run.now c.args.p c.args.drawn k c.publish_all.new.task c.publish_all.new.worker.seat) (omega (arith, ap (λ (k : Work). k.cell.events) c.publish_all.ensures.task.0, c.events.ensures, c.events-before.ensures))
    (c.publish_all.ensures.works c.args.drawn (z.work.cell.events - x.work.cell.events) a)

pub returns-clause-delivered : goal.returns-clause-delivered
returns-clause-delivered g c =
    ⊎_elim (λ e. inl (sees_two c.heed.new.worker.seat.seat.me.0.seen c.publish_all.new.worker.seat.seat.me.0.seen c.publish_all.ensures.seen e))
    (λ d. inr (subst IsDelivered (sym c.publish_all.ensures.task.0) d))
    (either_of c.flush-flushed.result c.flush-flushed.ensures.all c.heed.ensures.refused)

pub returns-clause-spent : goal.returns-clause-spent
returns-clause-spent g c = λ going.
    let w = c.run-pause.new.self.work in
    ⊎_elim (λ all. inl (ap (λ (k : Work). k.cell.events) c.publish_all.ensures.task.0 ∙ (ap (λ v. v.events) c.flush-flushed.ensures.cell ∙ all)))
    (λ halted. inr (sees_two c.heed.new.worker.seat.seat.me.0.seen c.publish_all.new.worker.seat.seat.me.0.seen c.publish_all.ensures.seen halted))
    (going_spent (network_of w.cell.network) w.cell.instance (λ q. IsDry (end_at w.ends q)) (λ q. IsReady (end_at w.ends q))
    (w.cell.events ≡ c.args.task.now.work.cell.events + c.args.drawn) (c.heed.new.worker.seat.seat.me.0.seen ≡ 2)
    c.run-pause.result (exec_on (network_of w.cell.network) w.cell.events w.cell.instance c.run-pause.ensures.paused.stood.tapes).outcome
    (sym c.run-pause.ensures.standing ∙ (sym c.flush-flushed.ensures.standing ∙ (sym c.publish_all.ensures.task.1 ∙ going))) c.run-pause.ensures.paused.is c.heed.ensures.wanted)
