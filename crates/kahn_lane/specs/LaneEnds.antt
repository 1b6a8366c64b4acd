-- Believed. What a contract sees of the two ends of a lane.
use Rattle.std.specs.Prelude.{◌≡◌, ◌⊎◌, ℕ, ◌+◌, ◌-◌, ◌<◌, ◌≤◌, Some, vec_len, vec_capacity}
use Rattle.kahn_streams.specs.declared.token.Token.{Token}
use Rattle.kahn_lane.specs.{Places.Named, Places.token_name, declared.segments.Sender.Sender, declared.segments.Receiver.Receiver}
use Rattle.crossbeam_deque.specs.Handles.{view, taken as left_front, worker_view, worker_deque, stealer_deque}

module _ {A : Type 0} where
  -- which lane it is an end of
  abbrev pub sender_lane : Sender A → (ℕ × ℕ) × A
  sender_lane s = worker_deque s.worker

  abbrev pub receiver_lane : Receiver A → (ℕ × ℕ) × A
  receiver_lane r = stealer_deque r.stealer

  -- what the tokens are of
  abbrev pub sender_name : Sender A → Named
  sender_name s = (worker_view s.worker).writes_on

  abbrev pub receiver_name : Receiver A → Named
  receiver_name r = (view r.pass).reads_on

  -- how many tokens were flushed
  abbrev pub flushed : Sender A → ℕ
  flushed s = s.flushed

  -- how many tokens were put
  abbrev pub sent : Sender A → ℕ
  sent s = s.flushed + vec_len s.current

  -- how many tokens the open segment has, and how many it has room for
  abbrev pub filled : Sender A → ℕ
  filled s = vec_len s.current

  abbrev pub capacity : Sender A → ℕ
  capacity s = vec_capacity s.current

  -- there is room for a token
  abbrev pub CanPut : Sender A → Type 0
  CanPut s = (filled s < 64) × (filled s < capacity s)

  -- how many tokens were taken
  abbrev pub received : Receiver A → ℕ
  received r = r.from + r.used

  -- how many tokens are at hand
  abbrev pub waiting : Receiver A → ℕ
  waiting r = vec_len r.current - r.used

  -- the next take gives a token
  abbrev pub CanTake : Receiver A → Type 0
  CanTake r = 0 < waiting r

  -- how many tokens this end knows to have been flushed, from the last meeting
  abbrev pub heard : Receiver A → ℕ
  heard r = (view r.pass).known

  -- how many segments this end knows to have left the deque
  abbrev pub left : Receiver A → ℕ
  left r = left_front r.pass

  -- both ends are of these tokens
  abbrev pub AreEndsNamed : Named → Sender A → Receiver A → Type 0
  AreEndsNamed n s r = (sender_name s ≡ n) × (receiver_name r ≡ n)

  -- n tokens were put, flushed and taken
  abbrev pub HavePassed : ℕ → Sender A → Receiver A → Type 0
  HavePassed n s r = (sent s ≡ n) × (flushed s ≡ n) × (received r ≡ n) × (heard r ≡ n)

  -- all that this end knows to have been flushed was taken, and before it meets the other end it knows of nothing; or 64 segments have
  -- left the deque that this end didn't know to have left it
  abbrev pub WasDry : Receiver A → Receiver A → Type 0
  WasDry old new = (heard old ≤ received old) ⊎ (left old + 64 ≤ left new)

  -- the token stands at the next place
  abbrev pub TakesNext : Receiver A → Receiver A → Token → Type 0
  TakesNext old new t = (receiver_name old ≡ Some (token_name t)) × (t.place ≡ received old) × (received new ≡ received old + 1)

  -- it is an end of the same lane, for the same tokens
  abbrev pub SameSender : Sender A → Sender A → Type 0
  SameSender old new = (sender_lane new ≡ sender_lane old) × (sender_name new ≡ sender_name old)

  abbrev pub SameReceiver : Receiver A → Receiver A → Type 0
  SameReceiver old new = (receiver_lane new ≡ receiver_lane old) × (receiver_name new ≡ receiver_name old)
