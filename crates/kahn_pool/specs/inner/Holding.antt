-- Inner. The jobs of a held run.
use Rattle.std.specs.Prelude.{◌≡◌, ℕ, ◌+◌, ◌<◌, ◌≤◌, ◌^◌, List, [], length, map, sum_by, Option, Some, Err, Result, MatchResult, slice_get, vec_capacity}
use Rattle.kahn_pool.specs.inner.Below.{Answer, AreIdle, AreJobsAt, CrewFault, Crewing, End, HaveGone, IsAsConfigured, IsCrew, IsLack, IsRight, Left, Lists, NoMemory, Plan, Program, Tasked, CellView, Verdict, Work, cells_of, inputs_of, network_of, told_view}
use Rattle.kahn_sequential.specs.{HeldRuns.HeldRun, HeldRuns.seen_events, HeldRuns.seen_of, inner.Bench.RunState, inner.Parts.AreEnded, inner.Parts.HaveRisen, inner.Parts.run_with, inner.Workbench.AllStandBy, inner.Workbench.Table}
use Rattle.kahn_pool.specs.{declared.held.PartRoom.PartRoom, declared.held.Stopped.Stopped, declared.plan.RunPart.RunPart, declared.running.HandRoom.HandRoom}

-- the cell without its input
abbrev pub cell_alone : CellView → CellView
cell_alone c = record c { input = [] }

-- the cell for this input
abbrev pub cell_for : Lists → CellView → CellView
cell_for lists c = record c { input = lists }

-- what rounds see of the jobs
abbrev pub held_state : Program → Lists → Option ℕ → List Work → RunState
held_state t lists watch ws = record { network = network_of t; input = inputs_of lists; watch = watch; cells = map told_view (cells_of ws) }

-- the jobs of all instances at rest, with so much left of the bound; what each cell says is true of its process
pub record AreHeld (t : Program) (lists : Lists) (watch : Option ℕ) (bound : ℕ) (ws : List Work) (budget : ℕ) : Type 0 where
  pub idle : AreIdle t lists ws
  pub watched : (p : ℕ) (c : CellView) → slice_get (cells_of ws) p ≡ Some c → c.watch ≡ watch
  pub stood : AllStandBy t watch (cells_of ws)
  pub events : budget + sum_by seen_events (map seen_of (cells_of ws)) ≡ bound

-- what a held run goes by: as it was asked for, with the sum of all bounds
abbrev pub planned : Crewing → ℕ → Plan
planned c bound = record { watch = c.watch; workers = c.workers; quantum = c.quantum; bound = bound }

-- of a held run with these jobs
abbrev pub run_of : Program → Lists → Plan → List Work → Option Verdict → HeldRun
run_of t lists plan ws verdict = run_with t lists plan.watch plan (cells_of ws) verdict

-- all that it keeps
pub record IsHolding (t compiled : Program) (lists : Lists) (plan : Plan) (ws : List Work) (budget : ℕ) (ends : List End) (verdict : Option Verdict) : Type 0 where
  pub code : compiled ≡ t
  pub fits : length lists ≡ length (network_of t).channels
  pub few : plan.bound < 2 ^ 48
  pub held : AreHeld t lists plan.watch plan.bound ws budget
  pub ended : AreEnded (held_state t lists plan.watch ws) plan.bound budget ends verdict

-- and they are those of the configuration
abbrev pub IsHeldAs : Program → Program → Lists → Crewing → ℕ → List Work → ℕ → List End → Option Verdict → Type 0
IsHeldAs t compiled lists crew bound ws budget ends verdict =
    IsHolding t compiled lists (planned crew bound) ws budget ends verdict × (IsCrew crew × IsAsConfigured crew)

-- the jobs of a part at rest, with so much left of the bound of all
abbrev pub AreHeldBy : RunPart → List Work → ℕ → Type 0
AreHeldBy part ws budget = AreHeld part.network.now part.input.now part.crew.watch part.bound ws budget

-- such a part may run: the numbers are within their limits, and the jobs are those of a held run
pub record IsHeldPart (part : RunPart) (ws : List Work) : Type 0 where
  pub crew : IsCrew part.crew
  pub few : part.bound < 2 ^ 48
  pub held : AreHeldBy part ws part.left

-- all workers have left the part
pub record HaveAllLeft (part : RunPart) (left : Left) : Type 0 where
  pub bounded : part.bound < 2 ^ 48
  pub first : List Tasked
  pub gone : HaveGone part.network.now part.input.now part.crew.watch part.bound first left.tasks.items left.budget

-- so it ended: with a verdict, it and the ends are those of the jobs, or else it was refused
abbrev pub HasEnded : Program → Lists → Option ℕ → ℕ → ℕ → Stopped → Type 0
HasEnded t lists watch workers bound r =
    MatchResult r.outcome (λ v. AreEnded (held_state t lists watch r.idles.items) bound r.budget r.ends.items (Some v)) (IsLack workers)

-- a part of a run with so many events, of which the bound of all is the sum, has left these jobs: none has done fewer events;
-- with a verdict it and the ends are those of the jobs; and if memory was refused nothing was done
pub record HasStopped (t : Program) (lists : Lists) (watch : Option ℕ) (workers bound : ℕ) (old : List Work) (more : ℕ) (r : Stopped) : Type 0 where
  pub held : AreHeld t lists watch bound r.idles.items r.budget
  pub risen : HaveRisen (cells_of old) (cells_of r.idles.items)
  pub outcome : HasEnded t lists watch workers bound r
  pub untouched : r.outcome ≡ Err NoMemory → (r.budget ≡ more) × (map cell_alone (cells_of r.idles.items) ≡ map cell_alone (cells_of old))

-- so of this part
abbrev pub HasStoppedPart : RunPart → List Work → Stopped → Type 0
HasStoppedPart part old r = HasStopped part.network.now part.input.now part.crew.watch part.crew.workers part.bound old part.left r

-- the right answer of a part that is a whole run, or why there is none
abbrev pub IsWholeAnswer : RunPart → Result Answer CrewFault → Type 0
IsWholeAnswer part r =
    MatchResult r (IsRight (network_of part.network.now) (inputs_of part.input.now) part.bound part.crew.watch) (IsLack part.crew.workers)

-- there is room for so many tasks, jobs and ends
pub record IsRoomFor (n : ℕ) (r : PartRoom) : Type 0 where
  pub tasks : (r.tasks.items ≡ []) × (n ≤ vec_capacity r.tasks)
  pub idles : (r.idles.items ≡ []) × (n ≤ vec_capacity r.idles)
  pub ends : n ≤ vec_capacity r.ends

-- the jobs of this room stand where the bench stands, and it is enough for their part, and for as many taps
pub record IsHandRoomFor (b : Table) (r : HandRoom) : Type 0 where
  pub jobs : AreJobsAt b.network b.input b.queues.queues r.idles.items
  pub part : IsRoomFor (length (network_of b.network).instances) r.part
  pub taps : (r.taps.items ≡ []) × (length (network_of b.network).instances ≤ vec_capacity r.taps)
