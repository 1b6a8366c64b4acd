-- Inner. A lane goes on with an input that has grown.
use Rattle.std.specs.Prelude.{◌≡◌, ℕ, true, Some, vec_capacity}
use Rattle.kahn_streams.specs.{Solution.AreInputsExtended, Inputs.Lists, Inputs.inputs_of}
use Rattle.kahn_lane.specs.{Places.tag_name, declared.name.LaneName.LaneName, declared.segments.Lifted.Lifted, declared.segments.Mark.Mark, declared.segments.Stage.TheVariants.Running}

-- each list that the name's input has is a prefix of one of this input
abbrev pub IsGrown : LaneName → Lists → Type 0
IsGrown n input = AreInputsExtended (inputs_of n.input) (inputs_of input)

-- a worker of this flavor that sees this has both rights of a lane that runs
abbrev pub HasBothRights : ℕ → Mark → Type 0
HasBothRights flavor v = (flavor ≡ 0) × (v.stage ≡ Running) × (v.writes ≡ true) × (v.reads ≡ true)

-- k tokens of this name were stolen
abbrev pub HasStolen : LaneName → ℕ → Mark → Type 0
HasStolen n k v = (v.reads_on ≡ Some n) × (v.stolen ≡ k)

module _ {A : Type 0} where
  -- the tokens are lifted to this input
  abbrev pub LiftsTo : Lifted A → Lists → Type 0
  LiftsTo l input = (l.to.input.value ≡ input) × IsGrown (tag_name l.from) input

  abbrev pub SameLifted : Lifted A → Lifted A → Type 0
  SameLifted old new = (new.from ≡ old.from) × (new.to ≡ old.to) × (new.first ≡ old.first) × (vec_capacity new.tokens ≡ vec_capacity old.tokens)
