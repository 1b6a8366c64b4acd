-- Inner. What contracts see of a task: a job as workers pass it on, with what they have to know of it.
use Rattle.std.specs.Prelude.{◌≡◌, ◌≤◌}
use Rattle.kahn_job.specs.inner.Words.{ℕ, List, length, Some, network_of, Lists, inputs_of, Store, ScriptOutcome, Dry as IsDryAt, ending, Pause, Paused, told_view}
use Rattle.kahn_streams.specs.Solution as end
use Rattle.kahn_code.specs.declared.progress.Pause.TheVariants as pause
use Rattle.kahn_job.specs.{declared.task.TaskStanding.TaskStanding, inner.Berths.HaveAdvanced, inner.Works.Work, inner.Works.IsJob, inner.Works.grown_work, inner.Works.width_of}
use Rattle.kahn_job.specs.declared.task.TaskStanding.TheVariants as standing

-- a job, where its process stood when it was last run, and by parameter how many of the tokens that it sent are published
pub record Tasked : Type 0 where
  pub work : Work
  pub standing : TaskStanding
  pub published : List ℕ

abbrev pub standing_after : Pause → TaskStanding
standing_after pause.Spent = standing.Going
standing_after pause.NoMemory = standing.Going
standing_after pause.Ended = standing.Ended
standing_after (pause.Fault k) = standing.Faulted k
standing_after (pause.Dry q) = standing.Dry q

-- what a standing means for the outcome of the process on the values that it took
abbrev pub TellsOutcome : TaskStanding → ScriptOutcome Store → Type 0
TellsOutcome standing.Going o = Unit {0}
TellsOutcome standing.Ended o = ending o ≡ Some end.Ended
TellsOutcome (standing.Faulted k) o = ending o ≡ Some (end.Faulted k)
TellsOutcome (standing.Dry q) o = o ≡ IsDryAt q

abbrev pub HasStanding : Work → TaskStanding → Type 0
HasStanding w s =
    Paused (network_of w.cell.network) (inputs_of w.cell.input) w.cell.watch w.cell.instance (told_view w.cell) (TellsOutcome s)

-- unless it is `Going`, the standing is that of the process
abbrev pub IsTrueOf : Work → TaskStanding → Type 0
IsTrueOf w standing.Going = Unit {0}
IsTrueOf w s = HasStanding w s

-- what always holds for a task of instance p
pub record IsTask (p : ℕ) (w : Work) (s : TaskStanding) (published : List ℕ) : Type 0 where
  pub job : IsJob w
  pub instance : p ≡ w.cell.instance
  pub says : IsTrueOf w s
  pub each : length published ≡ width_of w

-- the task of an idle job that goes on with this input; all that it sent is published
abbrev pub woken_task : Lists → Work → Tasked
woken_task lists w = record { work = grown_work lists w; standing = standing.Going; published = w.cell.sent }

-- the second continues the first: of the same instance of the same network and input, with the same ends; and if it did no
-- event, its cell is as it was
pub record Continues (old new : Tasked) : Type 0 where
  pub network : new.work.cell.network ≡ old.work.cell.network
  pub input : new.work.cell.input ≡ old.work.cell.input
  pub instance : new.work.cell.instance ≡ old.work.cell.instance
  pub watch : new.work.cell.watch ≡ old.work.cell.watch
  pub ends : HaveAdvanced old.work.ends new.work.ends
  pub events : old.work.cell.events ≤ new.work.cell.events
  pub still : new.work.cell.events ≡ old.work.cell.events → new.work.cell ≡ old.work.cell
