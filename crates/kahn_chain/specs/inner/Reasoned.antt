-- Inner. The reasons so far, one after another.
use Rattle.std.specs.Prelude.{◌≡◌, ℕ, List, [], ◌∷◌, ◌++◌, All, Bool, drop, map}
use Rattle.kahn_streams.specs.{Network.Schema, declared.answer.End.End, declared.answer.Outcome.Outcome, declared.answer.Verdict.Verdict}
use Rattle.kahn_streams.specs.declared.answer.Outcome.TheVariants as outcome
use Rattle.kahn_chain.specs.{Reasons.IsReasonFor, Reasons.lasts, Reasons.not_ended, Reasons.told_instance, declared.reason.Cause.Cause, declared.reason.Reason.Reason}

-- the reason of instance p, where it hasn't ended
abbrev pub told_at : Verdict → ℕ → End → Cause → Bool → Outcome → List Reason
told_at v p x y mark outcome.Ended = []
told_at v p x y mark (outcome.Waits c) = (record { instance = p; end = x; cause = y; is_on_ring = mark; lasts = lasts v y }) ∷ []
told_at v p x y mark (outcome.Faulted k) = (record { instance = p; end = x; cause = y; is_on_ring = mark; lasts = lasts v y }) ∷ []
told_at v p x y mark outcome.More = (record { instance = p; end = x; cause = y; is_on_ring = mark; lasts = lasts v y }) ∷ []

abbrev pub reasons_at : Verdict → ℕ → End → Cause → Bool → List Reason
reasons_at v p x y mark = told_at v p x y mark x.outcome

-- those of the first n instances
pub record AreSoFar (N : Schema) (v : Verdict) (es : List End) (n : ℕ) (rs : List Reason) : Type 0 where
  pub once : map told_instance rs ++ not_ended n (drop n es) ≡ not_ended 0 es
  pub each : All (IsReasonFor N v es) rs
