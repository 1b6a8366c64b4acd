-- Believed. Why each instance that hasn't ended goes no further.
use Rattle.std.specs.Prelude.{◌≡◌, ℕ, ◌+◌, List, [], ◌∷◌, ◌++◌, All, Bool, true, false, Some, map, slice_get}
use Rattle.kahn_streams.specs.{Network.Schema, declared.answer.End.End, declared.answer.Outcome.Outcome, declared.answer.Verdict.Verdict, declared.answer.Verdict.TheVariants.Finished, declared.answer.Verdict.TheVariants.Bound, declared.answer.Verdict.TheVariants.Memory}
use Rattle.kahn_streams.specs.declared.answer.Outcome.TheVariants as outcome
use Rattle.kahn_chain.specs.{Chain.IsCause, Chain.IsRingMark, Chain.stands, declared.reason.Standing.Standing, declared.reason.Standing.TheVariants.Ended, declared.reason.Standing.TheVariants.Waits, declared.reason.Standing.TheVariants.Faulted, declared.reason.Standing.TheVariants.More, declared.reason.Cause.Cause, declared.reason.Cause.TheVariants.Input, declared.reason.Cause.TheVariants.Stopped, declared.reason.Cause.TheVariants.Ring, declared.reason.Reason.Reason}

-- one that has ended or has a fault stays so, and a ring does
abbrev pub is_stopped : Standing → Bool
is_stopped Ended = true
is_stopped (Waits c) = false
is_stopped Faulted = true
is_stopped More = false

abbrev pub is_final : Cause → Bool
is_final (Input z c) = false
is_final (Stopped z s) = is_stopped s
is_final (Ring z) = true

-- want of memory can leave values where a reader doesn't come to them
abbrev pub lasts : Verdict → Cause → Bool
lasts Finished y = is_final y
lasts Bound y = is_final y
lasts Memory y = false

-- what is told of instance p: its end, its cause, whether it is on a ring, and whether that is for ever
pub record IsReasonFor (N : Schema) (v : Verdict) (es : List End) (r : Reason) : Type 0 where
  pub end : slice_get es r.instance ≡ Some r.end
  pub cause : IsCause N (map stands es) r.instance r.cause
  pub ring : IsRingMark N (map stands es) r.instance r.is_on_ring
  pub lasts : r.lasts ≡ lasts v r.cause

-- the number of an instance that hasn't ended, and those of all, where the first of these ends is that of p
abbrev pub unless_ended : ℕ → Outcome → List ℕ
unless_ended p outcome.Ended = []
unless_ended p (outcome.Waits c) = p ∷ []
unless_ended p (outcome.Faulted k) = p ∷ []
unless_ended p outcome.More = p ∷ []

abbrev pub not_ended : ℕ → List End → List ℕ
not_ended p [] = []
not_ended p (x ∷ xs) = unless_ended p x.outcome ++ not_ended (p + 1) xs

abbrev pub told_instance : Reason → ℕ
told_instance r = r.instance

-- each instance that hasn't ended has one reason, in order, and nobody else has
pub record AreReasons (N : Schema) (v : Verdict) (es : List End) (rs : List Reason) : Type 0 where
  pub once : map told_instance rs ≡ not_ended 0 es
  pub each : All (IsReasonFor N v es) rs
