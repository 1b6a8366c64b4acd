-- Believed. Why the instances of an answer go no further, and which of them never will.
use Rattle.std.specs.Prelude.{◌≡◌, ◌==◌, ℕ, List, [], ◌++◌, Bool, codes, decimal, true, false, if◌then◌else◌, map, string_bytes}
use Rattle.std.specs.List.{list_any}
use Rattle.kahn_streams.specs.{Network.Schema, Network.network_of, Solution.Inputs, Solution.AreInputsExtended, Answers.HasEndAt, Answers.IsEnd, declared.answer.Answer.Answer, declared.answer.End.End, declared.answer.Outcome.Outcome, declared.answer.Verdict.Verdict, declared.tree.Program.Program}
use Rattle.kahn_chain.specs.{Chain.IsCause, Chain.stands, declared.reason.Standing.Standing, declared.reason.Cause.Cause, declared.reason.Cause.TheVariants.Input, declared.reason.Cause.TheVariants.Stopped, declared.reason.Cause.TheVariants.Ring, Reasons.AreReasons, Reasons.IsReasonFor, declared.reason.Reason.Reason}
use Rattle.kahn_chain.specs.declared.reason.Standing.TheVariants as S
use Rattle.kahn_streams.specs.declared.answer.Outcome.TheVariants as outcome
use Rattle.kahn_streams.specs.declared.answer.Verdict.TheVariants as verdict
use Rattle.kahn_texts.specs.Formats.{last_text}
use Rattle.kahn_explanation.specs.{declared.why.told.Explanation.Explanation, declared.why.told.Finding.Finding, declared.why.told.Finding.TheVariants.Fault, declared.why.told.Finding.TheVariants.Deadlock, declared.why.told.Finding.TheVariants.Stop}

-- how the instances of an answer stand
abbrev pub standings_of : Answer → List Standing
standings_of a = map stands a.ends.items

abbrev pub IsEndedOrFaulted : Standing → Type 0
IsEndedOrFaulted (S.Waits c) = ⊥
IsEndedOrFaulted S.More = ⊥
IsEndedOrFaulted s = Unit {0}

-- a ring, or an instance that has ended or has a fault
abbrev pub IsFinal : Cause → Type 0
IsFinal (Input z c) = ⊥
IsFinal (Stopped z s) = IsEndedOrFaulted s
IsFinal (Ring z) = Unit {0}

-- this is the end of p, whatever is added to the input
abbrev pub IsForGood : Schema → Inputs → ℕ → End → Type 0
IsForGood N I p x = (J : Inputs) → AreInputsExtended I J → IsEnd N J p x.outcome x.events

-- the end of each instance that has such a cause is for good
abbrev pub StayForGood : Schema → Inputs → Answer → Type 0
StayForGood N I a = (p : ℕ) (x : End) (y : Cause) → HasEndAt a p x → IsCause N (standings_of a) p y → IsFinal y → IsForGood N I p x

-- and so what is told to be for ever
abbrev pub LastForGood : Schema → Inputs → Answer → Type 0
LastForGood N I a = (r : Reason) → IsReasonFor N a.verdict a.ends.items r → r.lasts ≡ true → IsForGood N I r.instance r.end

-- ---- what the run came to

abbrev pub is_ring : Cause → Bool
is_ring (Ring z) = true
is_ring y = false

abbrev pub is_fault : Outcome → Bool
is_fault (outcome.Faulted k) = true
is_fault o = false

abbrev pub has_fault : List Reason → Bool
has_fault = list_any (λ r. is_fault r.end.outcome)

abbrev pub has_ring : List Reason → Bool
has_ring = list_any (λ r. is_ring r.cause)

-- a fault goes before a ring, and a ring before how the run ended
abbrev pub came_to : Verdict → List Reason → Finding
came_to v rs = if has_fault rs then Fault else if has_ring rs then Deadlock else Stop v

-- the first words of what a run came to, with how many processes have a fault, or how many rings there are
abbrev pub finding_lead : Finding → ℕ → List ℕ
finding_lead Fault n = if n == 1 then codes "1 process has a fault" else decimal n ++ codes " processes have a fault"
finding_lead Deadlock n = if n == 1 then codes "deadlock: " else decimal n ++ codes " deadlocks"
finding_lead (Stop verdict.Finished) n = codes "no deadlock and no fault"
finding_lead (Stop verdict.Bound) n = codes "stopped by the bound"
finding_lead (Stop verdict.Memory) n = codes "stopped for want of memory"

abbrev pub BeginsWith : Finding → List ℕ → Type 0
BeginsWith f text = (n : ℕ) × (behind : List ℕ) × (text ≡ finding_lead f n ++ behind)

-- whether nothing is told of a run that came to that: it finished without a fault and a ring
abbrev pub is_silent : Finding → Bool
is_silent (Stop verdict.Finished) = true
is_silent f = false

abbrev pub IsFindingTold : Bool → Finding → List ℕ → Type 0
IsFindingTold true f text = text ≡ []
IsFindingTold false f text = BeginsWith f text

-- what is told of a run with this verdict and these ends
abbrev pub AreCauses : Program → Verdict → List End → List ℕ → Type 0
AreCauses t v ends text = (rs : List Reason) × AreReasons (network_of t) v ends rs × IsFindingTold (is_silent (came_to v rs)) (came_to v rs) text

-- the reasons are those of the answer's instances, the run came to that, and the last line is that of the report
pub record IsExplained (t : Program) (a : Answer) (e : Explanation) : Type 0 where
  pub reasons : AreReasons (network_of t) a.verdict a.ends.items e.reasons.items
  pub told : e.told ≡ came_to a.verdict e.reasons.items
  pub last : (before : List ℕ) × (string_bytes e.text ≡ before ++ last_text a)
