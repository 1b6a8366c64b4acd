-- Inner. A walk along the waits of an instance.
use Rattle.std.specs.Prelude.{◌≡◌, ℕ, ◌<◌, ◌≤◌, List, Bool, true, false, length}
use Rattle.kahn_streams.specs.Network.{Schema}
use Rattle.kahn_chain.specs.{Chain.Awaits, Chain.Leads, Chain.LeadsOn, Chain.IsCause, declared.reason.Standing.Standing, declared.reason.Cause.Cause, declared.reason.Cause.TheVariants.Input, declared.reason.Cause.TheVariants.Stopped, declared.reason.Cause.TheVariants.Ring, declared.walk.WalkStep.WalkStep, declared.walk.WalkStep.TheVariants.On, declared.walk.WalkStep.TheVariants.Stop, declared.walk.Walked.Walked}

-- the cause is at instance z itself
abbrev pub IsHere : Schema → List Standing → ℕ → Cause → Type 0
IsHere N ss z (Input y c) = (y ≡ z) × IsCause N ss z (Input y c)
IsHere N ss z (Stopped y s) = (y ≡ z) × IsCause N ss z (Stopped y s)
IsHere N ss z (Ring y) = ⊥

-- the one that z waits on, or why there is none
abbrev pub IsStepFrom : Schema → List Standing → ℕ → WalkStep → Type 0
IsStepFrom N ss z (On w) = (w < length ss) × ((c : ℕ) × Awaits N ss z c w)
IsStepFrom N ss z (Stop x) = IsHere N ss z x

-- where the walk from p stopped; in a ring at any of its instances
abbrev pub IsStop : Schema → List Standing → ℕ → Cause → Type 0
IsStop N ss p (Input z c) = IsCause N ss p (Input z c)
IsStop N ss p (Stopped z s) = IsCause N ss p (Stopped z s)
IsStop N ss p (Ring z) = Leads N ss p z × LeadsOn N ss z z

-- whether the waits of p lead to q
abbrev pub IsOnWay : Schema → List Standing → ℕ → ℕ → Bool → Type 0
IsOnWay N ss p q true = Leads N ss p q
IsOnWay N ss p q false = Leads N ss p q → ⊥

-- where the walk from p stopped, the least of the instances on it, and whether q is one of them
pub record IsWalked (N : Schema) (ss : List Standing) (p q : ℕ) (x : Walked) : Type 0 where
  pub stop : IsStop N ss p x.stop
  pub reached : Leads N ss p x.least
  pub least : (w : ℕ) → Leads N ss p w → x.least ≤ w
  pub found : IsOnWay N ss p q x.found
