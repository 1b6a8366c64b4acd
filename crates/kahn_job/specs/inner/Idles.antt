-- Inner. Jobs on which nobody works, and jobs before their first event.
use Rattle.std.specs.Prelude.{◌≡◌, ◌≤◌, ◌^◌}
use Rattle.kahn_job.specs.inner.Words.{ℕ, Tapped, false, List, [], length, map, replicate, Option, None, Some, slice_get, slice_set, slice_index_or, Program, Side, Inner, Input, Output, Actual, Hands, Reads, Waiting, Writes, given_of, taken_of, network_of, instance_at, actual_at, role_at, AreInputsExtended, Lists, inputs_of, is_output, CellView, IsAt, IsOpening}
use Rattle.kahn_job.specs.{inner.Ends.TaskEnd, inner.Ends.IsFlushed, inner.Ends.ShareLane, inner.Berths.AreServed, inner.Berths.AreJoinedOn, inner.Berths.HaveStayed, inner.Berths.Serves, inner.Berths.end_at, inner.Berths.end_in, inner.Settling.AreResting, inner.Ways.no_end, inner.Works.IsSamePlace, inner.Works.Work, inner.Works.IsJob, inner.Works.grown_work}

abbrev pub rows_of : List Work → List (List TaskEnd)
rows_of ws = map (λ w. w.ends) ws

abbrev pub cells_of : List Work → List CellView
cells_of ws = map (λ w. w.cell) ws

-- the cells are the same, and each end is at the same place
pub record HaveMet (old new : List Work) : Type 0 where
  pub cells : cells_of new ≡ cells_of old
  pub rows : HaveStayed (rows_of old) (rows_of new)

-- the job of instance p on which nobody works: its input has lists that begin those of this one, and its ends stand where
-- the cell stands
pub record IsIdle (t : Program) (lists : Lists) (p : ℕ) (w : Work) : Type 0 where
  pub network : w.cell.network ≡ t
  pub grown : AreInputsExtended (inputs_of w.cell.input) (inputs_of lists)
  pub instance : w.cell.instance ≡ p
  pub at : IsAt w.cell (λ q. (end_at w.ends q).next)

-- the same for all instances
pub record AreIdle (t : Program) (lists : Lists) (ws : List Work) : Type 0 where
  pub count : length ws ≡ length (network_of t).instances
  pub each : (p : ℕ) (w : Work) → slice_get ws p ≡ Some w → IsIdle t lists p w
  pub resting : AreResting t lists (rows_of ws)

-- the job may go on with this input: its ends are those of its cell's channels for this input, and stand where the cell stands
abbrev pub CanGoOn : Lists → Work → Type 0
CanGoOn lists w = AreInputsExtended (inputs_of w.cell.input) (inputs_of lists) × IsJob (grown_work lists w)

-- all ends are those of the channels for this input, and what was put is flushed
pub record HaveSettled (t : Program) (lists : Lists) (rows : List (List TaskEnd)) : Type 0 where
  pub served : (p : ℕ) → AreServed t lists p (slice_index_or rows p [])
  pub flushed : (p q d : ℕ) → actual_at (instance_at (network_of t) p) q ≡ Writes d → is_output (role_at (network_of t) d) ≡ false →
      IsFlushed (end_in rows p q)
  pub joined : (d : ℕ) → AreJoinedOn (network_of t) rows d

-- the two ends of a channel, and `so` holds of them; of an inner channel they are those of one lane
pub record AreEndsSo (t : Program) (so : Actual → TaskEnd → Type 0) (whole : TaskEnd → Type 0) (c : ℕ) (writer reader : TaskEnd) : Type 0 where
  pub puts : (role_at (network_of t) c ≡ Input → ⊥) → so (Writes c) writer
  pub takes : (role_at (network_of t) c ≡ Output → ⊥) → so (Reads c) reader
  pub lane : role_at (network_of t) c ≡ Inner → ShareLane writer reader
  pub every : whole writer × whole reader

-- the end of a channel that is handed over stands where the queue of that stands
abbrev pub StandsByQueue : Program → List Waiting → Actual → TaskEnd → Type 0
StandsByQueue t queues (Reads c) e = e.next ≡ taken_of (slice_get queues c)
StandsByQueue t queues (Writes c) e = is_output (role_at (network_of t) c) ≡ false → e.next ≡ given_of (slice_get queues c)
StandsByQueue t queues (Hands v) e = Unit {0}

abbrev pub ServesAt : Program → Lists → List Waiting → Actual → TaskEnd → Type 0
ServesAt t lists queues a e = Serves t lists a e × StandsByQueue t queues a e

-- no more was flushed than was put, and all that was put
abbrev pub IsAhead : TaskEnd → Type 0
IsAhead e = (e.flushed ≤ e.next) × IsFlushed e

-- few tokens were put on each inner channel
abbrev pub HaveFewTokens : Program → List Waiting → Type 0
HaveFewTokens t queues = (d : ℕ) → role_at (network_of t) d ≡ Inner → given_of (slice_get queues d) ≤ 2 ^ 48

-- the two ends of a channel stand where its queue stands
abbrev pub AreEndsAt : Program → Lists → List Waiting → ℕ → TaskEnd → TaskEnd → Type 0
AreEndsAt t lists queues c writer reader = AreEndsSo t (ServesAt t lists queues) IsAhead c writer reader

-- that parameter of that instance gets the end
abbrev pub placed : List (List TaskEnd) → Option Side → TaskEnd → List (List TaskEnd)
placed rows None e = rows
placed rows (Some s) e = slice_set rows s.instance (slice_set (slice_index_or rows s.instance []) s.parameter e)

-- the job of instance p before its first event, whose parameters have no ends yet
abbrev pub HasNoEnds : Program → Lists → Option ℕ → ℕ → Work → Type 0
HasNoEnds t lists watch p w = IsOpening t lists watch p w.cell × (w.ends ≡ replicate (length (instance_at (network_of t) p).actuals) no_end)

-- the same for all instances
pub record HaveNoEnds (t : Program) (lists : Lists) (watch : Option ℕ) (ws : List Work) : Type 0 where
  pub count : length ws ≡ length (network_of t).instances
  pub each : (p : ℕ) (w : Work) → slice_get ws p ≡ Some w → HasNoEnds t lists watch p w

-- a job for each instance, whose ends are those of its channels for this input, and stand where these queues stand
pub record AreJobsAt (t : Program) (lists : Lists) (queues : List Waiting) (ws : List Work) : Type 0 where
  pub count : length ws ≡ length (network_of t).instances
  pub each : (p : ℕ) (c : CellView) → slice_get (cells_of ws) p ≡ Some c → (c.network ≡ t) × (c.instance ≡ p)
  pub settled : HaveSettled t lists (rows_of ws)
  pub at : (p q : ℕ) → StandsByQueue t queues (actual_at (instance_at (network_of t) p) q) (end_in (rows_of ws) p q)

-- the cells of the jobs and of the taps are those of the same instances
abbrev pub AreSamePlaces : List CellView → List CellView → Type 0
AreSamePlaces cells tolds = (p : ℕ) (c d : CellView) → slice_get cells p ≡ Some c → slice_get tolds p ≡ Some d → IsSamePlace c d

abbrev pub tolds_of : List Tapped → List CellView
tolds_of taps = map (λ x. x.told) taps
