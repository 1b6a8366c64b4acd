-- Believed. The events of a run, one by one.
use Rattle.std.specs.Prelude.{◌≡◌, ℕ, suc, ◌==◌, List, [], ◌∷◌, ◌++◌, length, if◌then◌else◌}
use Rattle.kahn_streams.specs.Types.{Value}
use Rattle.kahn_streams.specs.Script.{Port, Tapes, Script, Waits, Sends, Turns, Reached, ScriptOutcome, play}

pub data Step : Type 0 where
  Took : ℕ → Value → Step
  Sent : Port → Value → Step
  Turned : Step

-- s does these steps and is then s'
pub data Follows {A : Type 0} : Script A → List Step → Script A → Type 0 where
  here : {s : Script A} → Follows s [] s
  took : {q : ℕ} {v : Value} {go : Value → Script A} {steps : List Step} {s' : Script A} →
      Follows (go v) steps s' → Follows (Waits q go) (Took q v ∷ steps) s'
  sent : {p : Port} {v : Value} {s : Script A} {steps : List Step} {s' : Script A} →
      Follows s steps s' → Follows (Sends p v s) (Sent p v ∷ steps) s'
  turned : {s : Script A} {steps : List Step} {s' : Script A} → Follows s steps s' → Follows (Turns s) (Turned ∷ steps) s'

-- no value at any parameter
abbrev pub empty : Tapes
empty r = []

-- the values taken
abbrev pub values_taken : List Step → Tapes
values_taken [] r = []
values_taken (Took q v ∷ steps) r = if r == q then v ∷ values_taken steps r else values_taken steps r
values_taken (Sent p v ∷ steps) r = values_taken steps r
values_taken (Turned ∷ steps) r = values_taken steps r

-- the values sent
abbrev pub sends_of : List Step → List (Port × Value)
sends_of [] = []
sends_of (Took q v ∷ steps) = sends_of steps
sends_of (Sent p v ∷ steps) = (p, v) ∷ sends_of steps
sends_of (Turned ∷ steps) = sends_of steps

-- n events after these steps
abbrev pub and_then : List Step → ℕ → ℕ
and_then [] n = n
and_then (x ∷ steps) n = suc (and_then steps n)

-- what is reached, counted from before these steps
abbrev pub since : {A : Type 0} → List Step → Reached A → Reached A
since steps r = record { outcome = r.outcome; left = r.left; events = and_then steps r.events; sent = sends_of steps ++ r.sent }

-- the outcome with no event and no value left
abbrev pub halted : {A : Type 0} → Script A → ScriptOutcome A
halted (Script.Give a) = ScriptOutcome.Got a
halted (Script.Fail k) = ScriptOutcome.Fault k
halted (Script.Waits q go) = ScriptOutcome.Dry q
halted (Script.Sends p v s) = ScriptOutcome.Cut
halted (Script.Turns s) = ScriptOutcome.Cut
halted Script.Rest = ScriptOutcome.Cut

-- with just the events done and the values taken, all is taken and the same is sent
abbrev pub Replays : {A : Type 0} → Script A → List Step → Script A → Type 0
Replays s steps to = play (length steps) s (values_taken steps) ≡ record { outcome = halted to; left = empty; events = length steps; sent = sends_of steps }

-- where a run stopped: nothing more to do, a fault, an empty tape, or an event that isn't allowed any more
abbrev pub StoppedAt : {A : Type 0} → ScriptOutcome A → Tapes → Script A → Type 0
StoppedAt (ScriptOutcome.Got a) left s = s ≡ Script.Give a
StoppedAt (ScriptOutcome.Fault k) left s = s ≡ Script.Fail k
StoppedAt {A} (ScriptOutcome.Dry q) left s = ((go : Value → Script A) × (s ≡ Waits q go)) × (left q ≡ [])
StoppedAt ScriptOutcome.Cut left s = (q : ℕ) → halted s ≡ ScriptOutcome.Dry q → left q ≡ [] → ⊥

-- what was reached was reached by these steps
pub record RanBy {A : Type 0} (s : Script A) (T : Tapes) (r : Reached A) : Type 0 where
  pub steps : List Step
  pub to : Script A
  pub follows : Follows s steps to
  pub tapes : (q : ℕ) → T q ≡ values_taken steps q ++ r.left q
  pub events : r.events ≡ length steps
  pub sent : r.sent ≡ sends_of steps
  pub stopped : StoppedAt r.outcome r.left to
