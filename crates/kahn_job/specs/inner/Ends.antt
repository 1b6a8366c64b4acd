-- Inner. What contracts see of the end of a channel that a parameter has.
use Rattle.std.specs.Prelude.{◌≡◌, ◌⊎◌, ◌+◌, ◌<◌, ◌≤◌}
use Rattle.kahn_job.specs.inner.Words.{ℕ, Bool, true, Option, Some, Global, Named}

-- which lane it is an end of
abbrev pub Lane : Type 0
Lane = (ℕ × ℕ) × Global

pub record TaskEnd : Type 0 where
  -- tokens are taken here, or put here; neither if the parameter has no end
  pub reads : Bool
  pub writes : Bool
  -- the lane, if it is the end of one, and what its tokens are of
  pub lane : Option Lane
  pub name : Named
  -- the place of the next token
  pub next : ℕ
  -- how many tokens wait at hand; how many there are as far as this end knows; how many segments it knows to have left, and
  -- how many it knew so when it was last asked for a token
  pub waiting : ℕ
  pub known : ℕ
  pub left : ℕ
  pub asked : ℕ
  -- how many tokens were flushed; how many stand in the open segment, and for how many it has memory
  pub flushed : ℕ
  pub filled : ℕ
  pub capacity : ℕ

-- what of an end never changes
abbrev pub Identity : Type 0
Identity = Bool × Bool × Option Lane × Named

abbrev pub identity_of : TaskEnd → Identity
identity_of e = (e.reads, e.writes, e.lane, e.name)

-- it is the same end, of the same channel
pub record IsSame (old new : TaskEnd) : Type 0 where
  pub reads : new.reads ≡ old.reads
  pub writes : new.writes ≡ old.writes
  pub lane : new.lane ≡ old.lane
  pub name : new.name ≡ old.name

-- they are the two ends of one lane
abbrev pub ShareLane : TaskEnd → TaskEnd → Type 0
ShareLane a b = (l : Lane) × (a.lane ≡ Some l) × (b.lane ≡ Some l)

-- they are the writer's and the reader's end of one lane
pub record MayMeet (writer reader : TaskEnd) : Type 0 where
  pub writes : writer.writes ≡ true
  pub reads : reader.reads ≡ true
  pub lane : ShareLane writer reader

-- no more was taken than was flushed, and less if the next take gives a token
pub record IsBehind (writer reader : TaskEnd) : Type 0 where
  pub within : reader.next ≤ writer.flushed
  pub more : 0 < reader.waiting → reader.next < writer.flushed

-- it is the same end; nothing that was flushed is taken back, and no more is flushed than was put
abbrev pub Advances : TaskEnd → TaskEnd → Type 0
Advances old new = IsSame old new × (old.flushed ≤ new.flushed) × (new.flushed ≤ new.next)

-- the next take gives a token
abbrev pub IsReady : TaskEnd → Type 0
IsReady e = 0 < e.waiting

-- all tokens that it knew of were taken, or 64 steals met another step since it was last asked: 64 segments have left the
-- lane meanwhile
abbrev pub IsDry : TaskEnd → Type 0
IsDry e = (e.known ≤ e.next) ⊎ (e.asked + 64 ≤ e.left)

-- there is room for one token
abbrev pub HasRoom : TaskEnd → Type 0
HasRoom e = (e.filled < 64) × (e.filled < e.capacity)

-- what was put was flushed
abbrev pub IsFlushed : TaskEnd → Type 0
IsFlushed e = e.writes ≡ true → e.flushed ≡ e.next
