-- Believed. Tokens at consecutive places, and what a pass of a lane knows.
use Rattle.std.specs.Prelude.{◌≡◌, ℕ, ◌+◌, Bool, true, false, List, [], ◌∷◌, ⊤, Option, Some, None}
use Rattle.std.specs.Coded.{Coded-set, coded_ℕ, coded_option, ×_prop, Unit-prop}
use Rattle.kahn_streams.specs.{declared.tree.Program.Program, declared.value.Line.Line, Inputs.Lists, declared.value.Line.TheVariants.Channel, declared.token.Token.Token}
use Rattle.kahn_streams.specs.contracts.value.Line as line_type
use Rattle.kahn_lane.specs.contracts.name.LaneName as lane_name_type
use Rattle.kahn_lane.specs.contracts.segments.Stage as stage_type
use Rattle.kahn_lane.specs.{declared.name.LaneName.LaneName, declared.name.Tag.Tag, declared.segments.Mark.Mark, declared.segments.Stage.Stage, declared.segments.Stage.TheVariants.Opening, declared.segments.Stage.TheVariants.Telling, declared.segments.Stage.TheVariants.Running}

-- what the tokens of a lane are of, if it is known
abbrev pub Named : Type 0
Named = Option LaneName

-- a line of a program's network, for an input
abbrev pub name_on_line : Program → Lists → Line → LaneName
name_on_line network input line = record { network = network; input = input; line = line }

-- a channel of it
abbrev pub lane_name : Program → Lists → ℕ → LaneName
lane_name network input channel = name_on_line network input (Channel channel)

-- what a token is of
abbrev pub token_name : Token → LaneName
token_name t = record { network = t.network.value; input = t.input.value; line = t.line }

-- what a tag names
abbrev pub tag_name : Tag → LaneName
tag_name t = record { network = t.network.value; input = t.input.value; line = t.line }

-- the same line and network, for another input
abbrev pub moved_to : Lists → LaneName → LaneName
moved_to input n = name_on_line n.network input n.line

abbrev pub told : Option Tag → Named
told None = None
told (Some t) = Some (tag_name t)

-- the place at which the lane of a tag begins
abbrev pub first_place : Option Tag → ℕ
first_place None = 0
first_place (Some t) = t.from

-- the tokens are of this name, and stand at the places from n on
abbrev pub StandFrom : Named → ℕ → List Token → Type 0
StandFrom c n [] = ⊤
StandFrom c n (x ∷ xs) = ((c ≡ Some (token_name x)) × (x.place ≡ n)) × StandFrom c (n + 1) xs

-- what the tokens of a lane are of is known, and they are on this line
abbrev pub IsOn : Line → Named → Type 0
IsOn line None = ⊥
IsOn line (Some n) = n.line ≡ line

pub lane_name-prop : (a b : LaneName) → IsProp (a ≡ b)
lane_name-prop a b = Coded-set lane_name_type.the_row.coded a b

pub name-prop : (a b : Named) → IsProp (a ≡ b)
name-prop a b = Coded-set (coded_option lane_name_type.the_row.coded) a b

pub Placed-prop : (c : Named) (n : ℕ) (xs : List Token) → IsProp (StandFrom c n xs)
Placed-prop c n [] = Unit-prop
Placed-prop c n (x ∷ xs) =
    ×_prop (×_prop (name-prop c (Some (token_name x))) (Coded-set coded_ℕ x.place n)) (Placed-prop c (n + 1) xs)

pub IsOn-prop : (line : Line) (c : Named) → IsProp (IsOn line c)
IsOn-prop line None = λ a b. absurd a
IsOn-prop line (Some n) = Coded-set line_type.the_row.coded n.line line

pub stage-prop : (a b : Stage) → IsProp (a ≡ b)
stage-prop a b = Coded-set stage_type.the_row.coded a b

abbrev pub mark : Stage → Bool → Bool → Named → Named → ℕ → ℕ → ℕ → Mark
mark s a b c d f t k =
    record { stage = s; writes = a; reads = b; writes_on = c; reads_on = d; flushed = f; stolen = t; known = k }

-- the first pass, before the lane has a name
abbrev pub opening_mark : Mark
opening_mark = mark Opening true true None None 0 0 0

-- the first pass, while the deque holds the name and the first place
abbrev pub telling : Named → ℕ → Mark
telling c n = mark Telling true true c c n n n

-- a pass with both rights
abbrev pub both : Named → Named → ℕ → ℕ → ℕ → Mark
both c d f t k = mark Running true true c d f t k

-- the first pass of a lane that begins at a place
abbrev pub owner : Named → ℕ → Mark
owner c n = both c c n n n

-- a pass that may flush
abbrev pub writing_mark : Named → ℕ → Mark
writing_mark c f = mark Running true false c None f 0 0

-- a pass that may steal
abbrev pub reading : Named → ℕ → ℕ → Mark
reading d t k = mark Running false true None d 0 t k

-- a pass without rights
abbrev pub spent_mark : Mark
spent_mark = mark Running false false None None 0 0 0
