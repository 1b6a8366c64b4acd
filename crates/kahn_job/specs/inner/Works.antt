-- Inner. What contracts see of a job: a cell with the ends of its channels.
use Rattle.std.specs.Prelude.{◌≡◌, ◌+◌, ◌<◌}
use Rattle.kahn_job.specs.inner.Words.{ℕ, false, List, length, Writes, network_of, instance_at, actual_at, role_at, Lists, inputs_of, Pause, is_output, Paused, IsPause, count, CellView, IsAt, told_view}
use Rattle.kahn_job.specs.{inner.Ends.TaskEnd, inner.Ends.IsDry, inner.Ends.IsReady, inner.Berths.AreServed, inner.Berths.end_at}

-- the cell, and the end that each of its parameters has
pub record Work : Type 0 where
  pub cell : CellView
  pub ends : List TaskEnd

-- they are cells of one instance of one network
abbrev pub IsSamePlace : CellView → CellView → Type 0
IsSamePlace c d = (d.network ≡ c.network) × (d.instance ≡ c.instance)

-- how many parameters the process of the job has
abbrev pub width_of : Work → ℕ
width_of w = length (instance_at (network_of w.cell.network) w.cell.instance).actuals

-- the job with this input
abbrev pub grown_work : Lists → Work → Work
grown_work lists w = record w { cell = record w.cell { input = lists } }

-- the ends of a job are those of its cell's channels, and stand where the cell stands
pub record IsJob (w : Work) : Type 0 where
  pub here : w.cell.instance < length (network_of w.cell.network).instances
  pub served : AreServed w.cell.network w.cell.input w.cell.instance w.ends
  pub at : IsAt w.cell (λ q. (end_at w.ends q).next)

-- all that the cell sent on the channels between processes was flushed
abbrev pub IsDelivered : Work → Type 0
IsDelivered w = (q d : ℕ) → actual_at (instance_at (network_of w.cell.network) w.cell.instance) q ≡ Writes d →
    is_output (role_at (network_of w.cell.network) d) ≡ false → (end_at w.ends q).flushed ≡ count w.cell.sent q

-- after a run for at most `quantum` events: what the source says of the cell, and of the pause by the ends
abbrev pub HasPaused : Work → Work → ℕ → Pause → Type 0
HasPaused old new quantum z =
    Paused (network_of new.cell.network) (inputs_of new.cell.input) new.cell.watch new.cell.instance (told_view new.cell)
    (IsPause (network_of new.cell.network) new.cell.instance (λ q. IsDry (end_at new.ends q)) (λ q. IsReady (end_at new.ends q))
    (new.cell.events ≡ old.cell.events + quantum) z)
