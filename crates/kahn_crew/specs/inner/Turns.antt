-- Inner. What a worker has between two turns and in a turn, when it may begin an instance, how a task is set down, and what the workers of a run have together.
use Rattle.std.specs.Prelude.{◌≡◌, ◌≢◌, ◌⊎◌, ◌↔◌, ◌+◌, ◌*◌, ◌/◌, ◌^◌, ◌<◌, ◌≤◌, min}
use Rattle.kahn_crew.specs.inner.Words.{ℕ, Bool, true, Option, None, Some, slice_index, false, List, length, slice_index_or, TableId, Was, belongs, wired, SeesMore, channel_at, TellsEnd, TellsWait, Seat, Terms, SeatView, BeginsTurn, EndsTurn, HoldsInTurn, IsBetween, IsDoneAt, IsSeatOf, SetsStill, SitsAt, Continues, Tasked}
use Rattle.crossbeam_deque.specs.Handles.{worker_index}
use Rattle.kahn_board.specs.{Rule.budget_at, Wires.Wires, declared.seat.Draw.Draw, declared.seat.Draw.TheVariants.Lost, inner.Turn.DrawsAgain}
use Rattle.kahn_crew.specs.{declared.opening.Run.Run, declared.worker.Due.Due, declared.worker.Worker.Worker, inner.Tasks.IsTaskOf, inner.Tasks.AgreesWith, inner.Tasks.IsLater, inner.Tasks.told_tale}
use Rattle.kahn_crew.specs.declared.worker.Due.TheVariants as due
use Rattle.kahn_job.specs.declared.task.TaskStanding.TheVariants as standing

abbrev pub terms_of : Run → Terms Tasked
terms_of run = run.board.now.table.shared.key

abbrev pub table_id_of : Run → TableId
table_id_of run = run.board.now.table.shared.table_id

-- the seat is at the board of the run
abbrev pub SitsIn : Run → Seat Tasked → Type 0
SitsIn run s = s.seat.table_id ≡ table_id_of run

-- between two instances of a turn, with n events of its draw left
abbrev pub SitsWith : Run → ℕ → Seat Tasked → Type 0
SitsWith run n s = SitsIn run s × IsBetween n s

-- a turn of p begins, with n events drawn: its task is at home and may be left
abbrev pub HasTask : Run → ℕ → ℕ → Seat Tasked → Type 0
HasTask run p n s =
    SitsIn run s × (p < (wired (terms_of run)).instances) × (slice_index s.seat.me.0.events_when_got p + n < 2 ^ 48)
    × BeginsTurn told_tale IsLater (terms_of run) p n s

-- in a turn of p, with n events drawn: its task is x now, which did k of them, and is in the worker's hands; what it counts as
-- published is published
pub record IsAtWork (run : Run) (p n k : ℕ) (x : Tasked) (s : Seat Tasked) : Type 0 where
  pub seated : SitsIn run s
  pub inside : p < (wired (terms_of run)).instances
  pub few : slice_index s.seat.me.0.events_when_got p + n < 2 ^ 48
  pub most : k ≤ n
  pub holds : HoldsInTurn p n 0 None s
  pub events : x.work.cell.events ≡ slice_index s.seat.me.0.events_when_got p + k
  pub agrees : AgreesWith x.work x.published s.seat.me.0.flushed
  pub first : belongs Continues (terms_of run) p x

-- so many events were drawn for a turn: the run's quantum, or all of a moment's budget if that was less
abbrev pub IsShare : Run → ℕ → Type 0
IsShare run n =
    (s : Seat Tasked) × (v : SeatView) × (a : ℕ) × (n ≡ min run.quantum a) × Was told_tale IsLater (terms_of run) s v (budget_at (wired (terms_of run))) a

-- x is the task of the instance p of the run, whose number of events fits
abbrev pub IsTaskIn : Run → ℕ → Tasked → Type 0
IsTaskIn run p x =
    (p < (wired (terms_of run)).instances) × IsTaskOf (terms_of run).network.value p x × (x.work.cell.events < 2 ^ 48)

-- a seat keeps what it holds and knows, though it may have halted the run
pub record StandsStill (s t : Seat Tasked) : Type 0 where
  pub holds : (p n l : ℕ) (x : Option Tasked) → HoldsInTurn p n l x s → HoldsInTurn p n l x t
  pub rests : (n : ℕ) → IsBetween n s → IsBetween n t
  pub events_when_got : t.seat.me.0.events_when_got ≡ s.seat.me.0.events_when_got
  pub flushed : t.seat.me.0.flushed ≡ s.seat.me.0.flushed
  pub seen : SeesMore s.seat.me.0.seen t.seat.me.0.seen

-- of whether memory was wanted and how often the run was halted, before and after: it was halted just if memory was wanted meanwhile
abbrev pub RaisesAsWanted : Bool → ℕ → Bool → ℕ → Type 0
RaisesAsWanted wanted j wants k = ((k ≡ j) × (wants ≡ wanted)) ⊎ ((j < k) × (wants ≡ true))

-- what each call of a worker keeps: it is the same worker at the same seat, which halted the run just if memory was refused to it
abbrev pub Heeds : Worker → Worker → Type 0
Heeds old new =
    (new.seat.seat.table_id ≡ old.seat.seat.table_id) × (new.seat.seat.id ≡ old.seat.seat.id) × (new.seat.seat.me.0.parts ≡ old.seat.seat.me.0.parts)
    × RaisesAsWanted old.hints.wanted old.seat.seat.me.0.raised new.hints.wanted new.seat.seat.me.0.raised × (new.start ≡ old.start)

-- and of those calls that refuse nothing: it didn't halt the run either
abbrev pub IsSameWorker : Worker → Worker → Type 0
IsSameWorker old new = IsSeatOf old.seat new.seat × (new.hints.wanted ≡ old.hints.wanted) × (new.start ≡ old.start)

-- the instance p wasn't ready at a moment at which the seat had such a view
abbrev pub WasNotReady : Run → Seat Tasked → ℕ → Type 0
WasNotReady run s p = (v : SeatView) × (r : ℕ) × (r ≢ 0) × Was told_tale IsLater (terms_of run) s v (8 * p) r

-- between two turns it picked an instance; or none, and then each wasn't ready at a moment of the call
abbrev pub HasPicked : Run → Option ℕ → Worker → Worker → Type 0
HasPicked run (Some p) old new = HasTask run p 0 new.seat
HasPicked run None old new = SitsWith run 0 new.seat × ((p : ℕ) → p < run.board.now.instances → WasNotReady run old.seat p)

-- the task of p may be set down so: it may go on; or it has ended; or it waits on the channel, which it reads
abbrev pub IsDue : Wires → ℕ → Tasked → Due → Type 0
IsDue w p x due.Ready = x.standing ≡ standing.Going
IsDue w p x due.Over = TellsEnd (told_tale x)
IsDue w p x (due.Waits c k) = (c < w.channels) × (w.reader c ≡ Some p) × (k < 2 ^ 48) × TellsWait (told_tale x) c k

-- a turn of p ends, and its task is set down so
abbrev pub CanRest : Run → ℕ → Due → Seat Tasked → Type 0
CanRest run p due s = SitsIn run s × EndsTurn told_tale IsLater (terms_of run) p (λ y. IsDue (wired (terms_of run)) p y due) s

-- p that was due so was set down so: it is over; or it is parked, unless other than k tokens were published
abbrev pub IsSetDown : Run → ℕ → Due → Seat Tasked → Seat Tasked → Type 0
IsSetDown run p due.Ready s t = Unit {0}
IsSetDown run p due.Over s t = SetsStill told_tale IsLater (terms_of run) s t p
IsSetDown run p (due.Waits c k) s t =
    SetsStill told_tale IsLater (terms_of run) s t p
    ⊎ ((r : ℕ) × (r / 2 ≢ k) × Was told_tale IsLater (terms_of run) s s.seat.me.0 (channel_at (wired (terms_of run)) c) r)

-- of two lists each pair is so
abbrev pub AllWent : {A : Type 0} → (A → A → Type 0) → List A → List A → Type 0
AllWent {A} did old new = (i : ℕ) (d : A) → i < length old → did (slice_index_or old i d) (slice_index_or new i d)

-- one of several did so
abbrev pub OneWent : {A : Type 0} → (A → A → Type 0) → List A → List A → Type 0
OneWent {A} did old new = (i : ℕ) × (i < length old) × ((d : A) → did (slice_index_or old i d) (slice_index_or new i d))

-- each did its work, or quit where one of several couldn't be started
abbrev pub HaveWorked : {A : Type 0} → (A → A → Type 0) → (A → A → Type 0) → List A → List A → Bool → Type 0
HaveWorked did quit old new refused =
    (length new ≡ length old) × AllWent (λ x y. did x y ⊎ ((refused ≡ true) × quit x y)) old new × (refused ≡ true → 1 < length old)

abbrev pub seat_of : Worker → Seat Tasked
seat_of w = w.seat

-- it halted the run just if memory was refused to it
abbrev pub HasCause : Worker → Type 0
HasCause w = 0 < w.seat.seat.me.0.raised ↔ w.hints.wanted ≡ true

-- it was refused no memory yet
abbrev pub WantsNone : Worker → Type 0
WantsNone w = w.hints.wanted ≡ false

-- and has a seat at the board of the run, between two turns
abbrev pub HasSeat : Run → Worker → Type 0
HasSeat run w = SitsAt (table_id_of run) w.seat × WantsNone w

-- and it has left
abbrev pub HasGone : Run → Worker → Type 0
HasGone run w = IsDoneAt (table_id_of run) w.seat

-- and it halted the run
abbrev pub HasQuit : Run → Worker → Worker → Type 0
HasQuit run old new = HasGone run new × (new.seat.seat.me.0.parts ≡ old.seat.seat.me.0.parts) × (0 < new.seat.seat.me.0.raised)

-- an instance begins with a whole draw; or with what another one left of it, if that is more than seven eighths of a quantum, and no memory
-- was refused to the worker
abbrev pub MayBegin : Run → ℕ → Worker → Type 0
MayBegin run n w = IsShare run n ⊎ ((w.hints.wanted ≡ false) × (run.quantum / 8 * 7 < n))

-- a hint more was given, or the seat knows that the run is halted
abbrev pub IsHinted : Worker → Worker → Type 0
IsHinted old new = (worker_index old.hints.own < worker_index new.hints.own) ⊎ (new.seat.seat.me.0.seen ≡ 2)

-- of a turn for which events were drawn: if another worker came between each time, a hint was given
abbrev pub IsLeftHinted : Run → Worker → Worker → Type 0
IsLeftHinted run old new =
    (s : Seat Tasked) × (d : Draw) × DrawsAgain told_tale IsLater (terms_of run) 64 run.quantum old.seat s d × (d ≡ Lost → IsHinted old new)
