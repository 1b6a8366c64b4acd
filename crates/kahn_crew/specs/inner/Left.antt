-- Inner. How the tasks of a run stand once all workers have left, and why they leave nothing (this project's profile).
use Rattle.std.specs.Prelude.{◌≡◌, ◌⊎◌, ◌+◌, ◌<◌}
use Rattle.kahn_crew.specs.inner.Words.{ℕ, Bool, true, List, length, sum_by, Option, Some, slice_get, Program, Input, Reads, Writes, network_of, role_at, Lists, inputs_of, count, events_told, Tasked, Continues, RunFault}
use Rattle.kahn_crew.specs.{declared.opening.CrewFault.CrewFault, declared.opening.Left.Left, inner.Tasks.AreReadyTasks, inner.Tasks.handed_to_task, inner.Tasks.is_over, inner.Tasks.told_tale}
use Rattle.kahn_crew.specs.declared.opening.CrewFault.TheVariants as fault
use Rattle.kahn_streams.specs.declared.fault.RunFault.TheVariants as run
use Rattle.kahn_job.specs.declared.task.TaskStanding.TheVariants as standing

abbrev pub task_events : Tasked → ℕ
task_events x = x.work.cell.events

-- k tokens of the channel d are all that was sent there, or the whole list of an input channel
pub record AreAll (t : Program) (lists : Lists) (tasks : List Tasked) (d k : ℕ) : Type 0 where
  pub given : role_at (network_of t) d ≡ Input → k ≡ length (inputs_of lists d)
  pub sent : (r o : ℕ) (z : Tasked) → slice_get tasks r ≡ Some z → handed_to_task z.work o ≡ Writes d → count z.work.cell.sent o ≡ k

-- the task has ended, or waits on a channel of which it took all
abbrev pub IsQuietTask : Program → Lists → List Tasked → Tasked → Type 0
IsQuietTask t lists tasks x =
    (is_over x.standing ≡ true)
    ⊎ ((q d : ℕ) × (x.standing ≡ standing.Dry q) × (handed_to_task x.work q ≡ Reads d) × AreAll t lists tasks d (count x.work.cell.taken q))

-- the run was halted, or the bound is used up, or all are at rest
abbrev pub IsOver : Program → Lists → List Tasked → ℕ → Bool → Type 0
IsOver t lists tasks budget halted =
    (halted ≡ true) ⊎ ((budget ≡ 0) ⊎ ((p : ℕ) (x : Tasked) → slice_get tasks p ≡ Some x → IsQuietTask t lists tasks x))

-- the tasks of all instances once nobody works on them: they are those that were ready, later, and so much is left of the
-- bound of all events
pub record HaveGone (t : Program) (lists : Lists) (watch : Option ℕ) (bound : ℕ) (first tasks : List Tasked) (budget : ℕ) : Type 0 where
  pub ready : AreReadyTasks t lists watch first
  pub count : length tasks ≡ length (network_of t).instances
  pub later : (p : ℕ) (x y : Tasked) → slice_get first p ≡ Some x → slice_get tasks p ≡ Some y → Continues x y
  pub events : budget + sum_by task_events tasks ≡ bound

-- nothing was done: each cell is as it was, and nothing of the bound is used
pub record AreUntouched (bound : ℕ) (first tasks : List Tasked) (budget : ℕ) : Type 0 where
  pub unused : budget ≡ bound
  pub cells : (p : ℕ) (x y : Tasked) → slice_get first p ≡ Some x → slice_get tasks p ≡ Some y → y.work.cell ≡ x.work.cell

-- what is left of a run of tasks that were ready, of so many events more
abbrev pub IsLeftOf : Program → Lists → Option ℕ → ℕ → List Tasked → Left → Type 0
IsLeftOf t lists watch bound first left = HaveGone t lists watch (bound + events_told told_tale first) first left.tasks.items left.budget

-- memory was wanting, or a thread for one of several workers: one works in the caller's
abbrev pub IsLack : ℕ → CrewFault → Type 0
IsLack workers fault.NoMemory = Unit {0}
IsLack workers fault.NoThread = 1 < workers

-- the same want, as it is told of the run
abbrev pub run_fault : CrewFault → RunFault
run_fault fault.NoMemory = run.NoMemory
run_fault fault.NoThread = run.NoThread
