use Rattle.kahn_job.proofs.Common.{ℕ, List, sym, ap, ◌∙◌, subst, Identity, Continues, Tasked, HasPaused}
use Rattle.kahn_job.proofs.{Berthed.advanced, Trues.ran, Trues.same_cell, Trues.same_width, Trues.true_after}
use Rattle.kahn_job.proofs.task.Task.run.Goals as goal

pub invariant_of-self : goal.invariant_of-self
invariant_of-self g c =
    let k = c.run-pause.new.self in
    let es = c.run-pause.new.ports.ports.now.items in
    let r = c.run-pause.ensures.ran in
    record {
      job = ran (record { cell = c.self.inside.cell; ends = c.self.inside.ports.items }) k _ es c.self.invariant.job r.names r.ports c.run-pause.new.ports.served r.at;
      instance = c.self.invariant.instance ∙ sym r.names.2;
      says = true_after (record { cell = k; ends = es }) c.after-self-inside.result c.run-pause.result _ _ _ c.after-self-inside.ensures r.paused;
      each = c.self.invariant.each ∙ sym (same_width (record { cell = c.self.inside.cell; ends = c.self.inside.ports.items }) (record { cell = k; ends = es }) r.names.0 r.names.2);
    }

pub returns-clause-continues : goal.returns-clause-continues
returns-clause-continues g c =
    let k = c.run-pause.new.self in
    let es = c.run-pause.new.ports.ports.now.items in
    let r = c.run-pause.ensures.ran in
    let new : Tasked = record { work = record { cell = k; ends = es }; standing = c.after-self-inside.result; published = c.self.inside.published.items } in
    subst (λ x. Continues x new) c.self.view_is (record {
      network = r.names.0;
      input = r.names.1;
      instance = r.names.2;
      watch = r.names.3;
      ends = advanced c.self.inside.ports.items es (ap (λ (w : ℕ × List Identity). w.1) c.run-pause.ensures.served.2) c.run-pause.ensures.served.3;
      events = r.events.0;
      still = λ e. same_cell c.self.inside.cell k r.names e (r.still e);
    })

pub returns-clause-paused : goal.returns-clause-paused
returns-clause-paused g c =
    subst (λ (x : Tasked). HasPaused x.work (record { cell = c.run-pause.new.self; ends = c.run-pause.new.ports.ports.now.items }) c.args.quantum c.run-pause.result)
    c.self.view_is c.run-pause.ensures.ran.paused
