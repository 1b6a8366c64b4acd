-- A task after a run: what its standing says of its process, and its job.
use Rattle.kahn_job.proofs.Common.{◌≡◌, ℕ, length, sym, ap, ◌∙◌, subst, network_of, instance_at, inputs_of, told_view, Work, width_of, IsTrueOf, standing_after, ◌<◌, List, Site, CellView, IsAt, IsSameProcess, IsStill, site_of, TaskEnd, AreServed, end_at, IsJob, Paused, IsPause}
use Rattle.kahn_code.specs.declared.progress.Pause.{Pause}
use Rattle.kahn_job.specs.declared.task.TaskStanding.{TaskStanding}
use Rattle.kahn_code.specs.declared.progress.Pause.TheVariants as pause

-- after a run the standing is that of the process
pub true_after : (w : Work) (s : TaskStanding) (z : Pause) (dry ready : ℕ → Type 0) (spent : Type 0) → s ≡ standing_after z →
    Paused (network_of w.cell.network) (inputs_of w.cell.input) w.cell.watch w.cell.instance (told_view w.cell)
    (IsPause (network_of w.cell.network) w.cell.instance dry ready spent z) → IsTrueOf w s
true_after w s z dry ready spent e h = subst (IsTrueOf w) (sym e) (by z h)
  where
    by : (z : Pause) → Paused (network_of w.cell.network) (inputs_of w.cell.input) w.cell.watch w.cell.instance (told_view w.cell)
        (IsPause (network_of w.cell.network) w.cell.instance dry ready spent z) → IsTrueOf w (standing_after z)
    by pause.Spent h = tt
    by pause.NoMemory h = tt
    by pause.Ended h = record { stood = h.stood; is = h.is }
    by (pause.Fault f) h = record { stood = h.stood; is = h.is }
    by (pause.Dry q) h = record { stood = h.stood; is = h.is.0 }

pub same_width : (w v : Work) → (v.cell.network ≡ w.cell.network) → (v.cell.instance ≡ w.cell.instance) → width_of v ≡ width_of w
same_width w v n i =
    ap (λ t. length (instance_at (network_of t) v.cell.instance).actuals) n ∙ ap (λ p. length (instance_at (network_of w.cell.network) p).actuals) i

abbrev site_served : Site → List TaskEnd → Type 0
site_served s es = AreServed s.network s.input s.instance es

pub ran : (w : Work) (c : CellView) (s : Site) (es : List TaskEnd) → IsJob w → IsSameProcess w.cell c → s ≡ site_of c → site_served s es → IsAt c (λ q. (end_at es q).next) →
    IsJob (record { cell = c; ends = es })
ran w c s es j names is served at = record {
  here = subst (λ n. n < length (network_of c.network).instances) (sym names.2) (subst (λ t. w.cell.instance < length (network_of t).instances) (sym names.0) j.here);
  served = subst (λ k. site_served k es) is served;
  at = at;
}

-- a cell that did no event is the same
pub same_cell : (c d : CellView) → IsSameProcess c d → d.events ≡ c.events → IsStill c d → d ≡ c
same_cell c d n e s = λ i. record {
  network = n.0 i;
  input = n.1 i;
  instance = n.2 i;
  watch = n.3 i;
  events = e i;
  taken = s.0 i;
  sent = s.1 i;
  kept = s.2 i;
  printed = s.3 i;
  spare = s.4 i;
  print_spare = s.5 i;
}
