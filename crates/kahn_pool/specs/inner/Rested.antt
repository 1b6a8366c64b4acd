-- Inner. How tasks stand when no more is run, and what stands in the answer for each.
use Rattle.std.specs.Prelude.{◌≡◌, ◌⊎◌, ℕ, ◌<◌, ◌^◌, List, length, Some, slice_get}
use Rattle.kahn_pool.specs.inner.Below.{AreAll, Continues, Cut, Dry, End, IsJob, IsReady, IsWithinInput, Lists, Outcome, Paused, Program, Reads, TaskStanding, Store, Tasked, TellsOutcome, CellView, Work, actual_at, count, end_at, handed_to_task, inputs_of, instance_at, network_of, told_view}
use Rattle.kahn_pool.specs.declared.plan.RunPart.{RunPart}
use Rattle.kahn_streams.specs.Script as script
use Rattle.kahn_job.specs.declared.task.TaskStanding.TheVariants as standing
use Rattle.kahn_streams.specs.declared.answer.Outcome.TheVariants as outcome

abbrev pub cell_of : Tasked → CellView
cell_of x = x.work.cell

-- what it says of the outcome of a process that no more is run: where it may go on it has a next event, or a token is
-- ready on the channel that it reads
abbrev pub IsSaid : Work → TaskStanding → script.ScriptOutcome Store → Type 0
IsSaid w standing.Going o = (o ≡ Cut) ⊎ ((q d : ℕ) × (handed_to_task w q ≡ Reads d) × (o ≡ Dry q) × IsReady (end_at w.ends q))
IsSaid w s o = TellsOutcome s o

-- the network and the input of the part are those of the task, and it did few events
abbrev pub IsLentTo : RunPart → Tasked → Type 0
IsLentTo part x = (part.network.now ≡ x.work.cell.network) × (part.input.now ≡ x.work.cell.input) × (x.work.cell.events < 2 ^ 48)

pub record IsSettledTask (x : Tasked) : Type 0 where
  pub says :
      Paused (network_of x.work.cell.network) (inputs_of x.work.cell.input) x.work.cell.watch x.work.cell.instance (told_view x.work.cell) (IsSaid x.work x.standing)
  pub job : IsJob x.work
  pub fed : (q : ℕ) → IsWithinInput (end_at x.work.ends q)

-- the first task was settled: the second is a later state of it, after as many events; one that may not go on is the same
pub record SettlesTo (old new : Tasked) : Type 0 where
  pub later : Continues old new
  pub events : new.work.cell.events ≡ old.work.cell.events
  pub still : (old.standing ≡ standing.Going → ⊥) → new ≡ old
  pub settled : IsSettledTask new

-- ---- ends

-- the parameter of the instance reads a channel
abbrev pub IsDryOf : Program → ℕ → ℕ → Type 0
IsDryOf t p q = (d : ℕ) × (actual_at (instance_at (network_of t) p) q ≡ Reads d)

-- the tasks of all instances, in order; one that is dry is so on a parameter that reads a channel
pub record AreTold (t : Program) (tasks : List Tasked) : Type 0 where
  pub count : length tasks ≡ length (network_of t).instances
  pub network : (p : ℕ) (x : Tasked) → slice_get tasks p ≡ Some x → x.work.cell.network ≡ t
  pub instance : (p : ℕ) (x : Tasked) → slice_get tasks p ≡ Some x → x.work.cell.instance ≡ p
  pub dry : (p q : ℕ) (x : Tasked) → slice_get tasks p ≡ Some x → x.standing ≡ standing.Dry q → IsDryOf t p q

-- what stands in the answer for a task among these
abbrev pub IsToldAs : Program → Lists → List Tasked → Tasked → Outcome → Type 0
IsToldAs t lists tasks x outcome.Ended = x.standing ≡ standing.Ended
IsToldAs t lists tasks x (outcome.Faulted k) = x.standing ≡ standing.Faulted k
IsToldAs t lists tasks x (outcome.Waits c) =
    (q : ℕ) × (x.standing ≡ standing.Dry q) × (handed_to_task x.work q ≡ Reads c) × AreAll t lists tasks c (count x.work.cell.taken q)
IsToldAs t lists tasks x outcome.More =
    (x.standing ≡ standing.Going)
    ⊎ ((q d : ℕ) × (x.standing ≡ standing.Dry q) × (handed_to_task x.work q ≡ Reads d) × (AreAll t lists tasks d (count x.work.cell.taken q) → ⊥))

-- so for that of instance p, where it is dry on parameter q
abbrev pub IsDryTold : RunPart → List Tasked → ℕ → ℕ → Outcome → Type 0
IsDryTold part tasks p q o = (x : Tasked) → slice_get tasks p ≡ Some x → x.standing ≡ standing.Dry q → IsToldAs part.network.now part.input.now tasks x o

-- the end of a task among these
pub record IsEndOf (t : Program) (lists : Lists) (tasks : List Tasked) (x : Tasked) (e : End) : Type 0 where
  pub events : e.events ≡ x.work.cell.events
  pub told : IsToldAs t lists tasks x e.outcome

-- the ends of the first n of these tasks
pub record AreEndsOfTasks (t : Program) (lists : Lists) (tasks : List Tasked) (ends : List End) (n : ℕ) : Type 0 where
  pub count : length ends ≡ n
  pub each : (p : ℕ) (x : Tasked) (e : End) → slice_get tasks p ≡ Some x → slice_get ends p ≡ Some e → IsEndOf t lists tasks x e
