-- Inner. The rule of a relay's deque, and what each pass knows.
use Rattle.std.specs.Prelude.{◌≡◌, ℕ, ◌≤◌, Bool, List, ◌++◌, length}
use Rattle.kahn_lane.specs.{declared.segments.Log.Log, inner.Rights.HaveRights}

module _ {T : Type 0} where
  abbrev pub log : Bool → Bool → ℕ → List T → List T → Log T
  log pushes pops known given taken = record { pushes = pushes; pops = pops; known = known; given = given; taken = taken }

  -- the writer has the list of what was given
  abbrev pub WritesRelay : List T → Log T → Type 0
  WritesRelay given v = v.given ≡ given

  -- the reader has the list of what was taken, and knows of no more items than were given
  abbrev pub ReadsRelay : List T → List T → Log T → Type 0
  ReadsRelay given taken v = (v.taken ≡ taken) × (v.known ≤ length given)

  -- what the passes know is true
  abbrev pub FitsRelay : List T → List T → ℕ → ℕ → List (Log T) → Type 0
  FitsRelay given taken = HaveRights (λ (_ : Log T). Unit {0}) (λ v. v.pushes) (λ v. v.pops) (WritesRelay given) (ReadsRelay given taken)

  pub record Relayed (items : List T) (views : List (Log T)) : Type 0 where
    -- the pass that may push, and the one that may take
    pub writer : ℕ
    pub reader : ℕ
    -- the items that were given, and those that were taken, each in order
    pub given : List T
    pub taken : List T
    -- what was given is what was taken, and then what the deque holds
    pub whole : given ≡ taken ++ items
    pub fits : FitsRelay given taken writer reader views
