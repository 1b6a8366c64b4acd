-- Inner.
-- The rule of a lane's deque: the segments in it have consecutive places, from the reader's number of stolen tokens to the writer's number of flushed ones.
use Rattle.std.specs.Prelude.{◌≡◌, ℕ, ◌+◌, ◌^◌, ◌<◌, ◌≤◌, ◌⊎◌, List, [], ◌∷◌, length, Option, Some, None}
use Rattle.kahn_streams.specs.declared.token.Token.{Token}
use Rattle.kahn_lane.specs.{declared.segments.Mark.Mark, declared.segments.Segment.Segment, Places.Named, Places.StandFrom, Places.mark, Places.opening_mark, Places.telling, Places.told, Places.first_place, inner.Rights.HaveRights}
use Rattle.kahn_lane.specs.declared.segments.Stage.TheVariants as stage

-- the writer knows what the tokens are of, and how many were flushed
abbrev pub WritesLane : Named → ℕ → Mark → Type 0
WritesLane name flushed v = (v.writes_on ≡ name) × (v.flushed ≡ flushed)

-- the reader knows what the tokens are of, and how many were stolen, and knows of no more than were flushed
abbrev pub ReadsLane : Named → ℕ → ℕ → Mark → Type 0
ReadsLane name flushed stolen v = (v.reads_on ≡ name) × (v.stolen ≡ stolen) × (v.known ≤ flushed)

-- what the passes know is true
abbrev pub FitsLane : Named → ℕ → ℕ → ℕ → ℕ → List Mark → Type 0
FitsLane name flushed stolen =
    HaveRights (λ (v : Mark). v.stage ≡ stage.Running) (λ v. v.writes) (λ v. v.reads) (WritesLane name flushed) (ReadsLane name flushed stolen)

module _ {A : Type 0} where
  -- the tokens of a segment
  abbrev pub tokens_of : Segment A → List Token
  tokens_of s = given s.alone
    where
      given : Option Token → List Token
      given None = s.tokens.items
      given (Some c) = c ∷ []

  -- how many tokens a segment has
  abbrev pub size : Segment A → ℕ
  size s = length (tokens_of s)

  -- a segment has some tokens, of this name, at the places from n on
  abbrev pub Filled : Named → ℕ → Segment A → Type 0
  Filled name n s = (0 < size s) × StandFrom name n (tokens_of s)

  -- the segments have the tokens of the places from one number up to another, in order, none left out and none twice
  abbrev pub Chain : Named → ℕ → ℕ → List (Segment A) → Type 0
  Chain name from to [] = from ≡ to
  Chain name from to (s ∷ ss) = Filled name from s × Chain name (from + size s) to ss

  -- the lane has no name yet, and nothing in it
  abbrev pub IsNewLane : List (Segment A) → List Mark → Type 0
  IsNewLane items views = (items ≡ []) × (views ≡ opening_mark ∷ [])

  -- the one segment has no tokens, and says what the lane's tokens are of, and the place of the first
  abbrev pub IsTelling : List (Segment A) → List Mark → Type 0
  IsTelling items views =
      (s : Segment A) × (items ≡ s ∷ []) × (first_place s.tag ≤ 2 ^ 48) × (views ≡ telling (told s.tag) (first_place s.tag) ∷ [])

  pub record IsRunning (items : List (Segment A)) (views : List Mark) : Type 0 where
    -- the pass that may flush, and the one that may steal
    pub writer : ℕ
    pub reader : ℕ
    -- what the tokens are of
    pub name : Named
    -- how many tokens were flushed, and how many of them were stolen
    pub flushed : ℕ
    pub stolen : ℕ
    pub limited : flushed ≤ 2 ^ 48
    -- the deque has those that were flushed and not stolen
    pub chain : Chain name stolen flushed items
    pub fits : FitsLane name flushed stolen writer reader views

  abbrev pub Laned : List (Segment A) → List Mark → Type 0
  Laned items views = IsNewLane items views ⊎ (IsTelling items views ⊎ IsRunning items views)

  -- the first segment says the name and the first place
  abbrev pub TellsName : List (Segment A) → Mark → Type 0
  TellsName [] w = ⊥
  TellsName (s ∷ ss) w = w ≡ telling (told s.tag) (first_place s.tag)

  -- a segment is flushed
  abbrev pub Flushes : Mark → List (Segment A) → Mark → Type 0
  Flushes v [] w = ⊥
  Flushes v (s ∷ ss) w = w ≡ mark v.stage v.writes v.reads v.writes_on v.reads_on (v.flushed + size s) v.stolen v.known

  -- a segment is stolen, whose tokens stand at the next places
  abbrev pub Steals : Mark → List (Segment A) → Mark → Type 0
  Steals v [] w = ⊥
  Steals v (s ∷ ss) w =
      Filled v.reads_on v.stolen s × (v.stolen + size s ≤ 2 ^ 48)
      × (w ≡ mark v.stage v.writes v.reads v.writes_on v.reads_on v.flushed (v.stolen + size s) v.known)

  -- a segment is taken out with both rights, whose tokens stand at the next places, up to those that were flushed
  abbrev pub Empties : Mark → List (Segment A) → Mark → Type 0
  Empties v [] w = ⊥
  Empties v (s ∷ ss) w =
      Filled v.reads_on v.stolen s × (v.stolen + size s ≤ v.flushed)
      × (w ≡ mark v.stage v.writes v.reads v.writes_on v.reads_on v.flushed (v.stolen + size s) v.known)
