-- Tasks that are asked what comes next.
use Rattle.kahn_pool.proofs.Common.{arith, ◌≡◌, ◌⊎◌, inl, inr, ℕ, ◌+◌, ◌<◌, ◌≤◌, List, length, refl, sym, subst, network_of, Store, inputs_of, Pause, Paused, IsPause, told_view, IsReady, IsWithinInput, end_at, no_end, Work, TaskStanding, Tasked, Continues, IsTrueOf, standing_after, past_none, IsSaid, IsSettledTask, SettlesTo, TaskEnd}
use Rattle.kahn_streams.specs.Script as script
use Rattle.kahn_code.specs.declared.progress.Pause.TheVariants as pause
use Rattle.kahn_job.specs.declared.task.TaskStanding.TheVariants as standing

-- ---- input channels

nothing_fed : IsWithinInput no_end
nothing_fed t lists d none name ready = absurd (omega (arith, ready))

pub fed_all : (es : List TaskEnd) (n : ℕ) → length es ≡ n → ((q : ℕ) → q < n → IsWithinInput (end_at es q)) → (q : ℕ) → IsWithinInput (end_at es q)
fed_all es n is h q = by (past_none es q)
  where
    by : (q < length es) ⊎ (end_at es q ≡ no_end) → IsWithinInput (end_at es q)
    by (inl l) = h q (omega (arith, l, is))
    by (inr e) = subst IsWithinInput (sym e) nothing_fed

-- ---- what a standing says

abbrev Says : Work → TaskStanding → Type 0
Says w s =
    Paused (network_of w.cell.network) (inputs_of w.cell.input) w.cell.watch w.cell.instance (told_view w.cell) (IsSaid w s)

pub says_still : (w : Work) (s : TaskStanding) → (s ≡ standing.Going → ⊥) → IsTrueOf w s → Says w s
says_still w standing.Going n h = absurd (n refl)
says_still w standing.Ended n h = h
says_still w (standing.Faulted k) n h = h
says_still w (standing.Dry q) n h = h

pub says_ran : (w : Work) (s : TaskStanding) (z : Pause) (dry : ℕ → Type 0) (spent : Type 0) → s ≡ standing_after z →
    Paused (network_of w.cell.network) (inputs_of w.cell.input) w.cell.watch w.cell.instance (told_view w.cell)
    (IsPause (network_of w.cell.network) w.cell.instance dry (λ q. IsReady (end_at w.ends q)) spent z) → Says w s
says_ran w s z dry spent e h = subst (Says w) (sym e) (record { stood = h.stood; is = by z _ h.is })
  where
    by : (z : Pause) (o : script.ScriptOutcome Store) → IsPause (network_of w.cell.network) w.cell.instance dry (λ q. IsReady (end_at w.ends q)) spent z o →
        IsSaid w (standing_after z) o
    by pause.Spent o k = k.1
    by pause.NoMemory o k = inl k.0
    by pause.Ended o k = k
    by (pause.Fault f) o k = k
    by (pause.Dry q) o k = k.0

-- ---- tasks

pub settles_ran : (x y : Tasked) → x.standing ≡ standing.Going → Continues x y → (x.work.cell.events ≤ y.work.cell.events) × (y.work.cell.events ≤ x.work.cell.events + 0) →
    IsSettledTask y → SettlesTo x y
settles_ran x y going later events h = record {
  later = later;
  events = let a = events.0 in let b = events.1 in omega (arith, a, b);
  still = λ o. absurd (o going);
  settled = h;
}
