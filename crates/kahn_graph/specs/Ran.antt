-- Believed. What came of a run of a network, as far as its picture shows it: the ends of its instances, and how many values its streams have.
-- Without a run there are none of both.
use Rattle.std.specs.Prelude.{◌≡◌, ℕ, ◌==◌, Bool, true, false, List, [], ◌∷◌, Option, None, Some, codes, decimal, if◌then◌else◌, length, slice_get, slice_index_or}
use Rattle.std.specs.List.{concat}
use Rattle.kahn_streams.specs.{declared.answer.End.End, declared.answer.Outcome.Outcome, declared.answer.Stream.Stream, declared.tree.Program.Program, declared.value.Line.Line, declared.answer.Outcome.TheVariants.Ended, declared.answer.Outcome.TheVariants.Waits, declared.answer.Outcome.TheVariants.Faulted, declared.answer.Outcome.TheVariants.More, declared.value.Failure.TheVariants.Overflow, declared.value.Failure.TheVariants.Division, declared.value.Line.TheVariants.Channel, declared.value.Line.TheVariants.Print, Network.Schema, Network.channel_names}
use Rattle.kahn_chain.specs.{Chain.LeadsOn, declared.reason.Standing.Standing}
use Rattle.kahn_chain.specs.declared.reason.Standing.TheVariants as S

-- how an instance stood, and on which channel it waited
abbrev pub outcome_text : Outcome → List ℕ
outcome_text Ended = codes "ended"
outcome_text (Waits c) = codes "waits on "
outcome_text (Faulted Overflow) = codes "fault overflow"
outcome_text (Faulted Division) = codes "fault division"
outcome_text More = codes "wants more"

abbrev pub waited_text : Program → Outcome → List ℕ
waited_text t Ended = []
waited_text t (Waits c) = slice_index_or (channel_names t) c []
waited_text t (Faulted k) = []
waited_text t More = []

-- how an instance ended, as a further line of its label
abbrev pub ended_text : Program → Option End → List ℕ
ended_text t None = []
ended_text t (Some x) = concat (codes "\\n" ∷ outcome_text x.outcome ∷ waited_text t x.outcome ∷ codes " after " ∷ decimal x.events ∷ [])

-- how many values the stream of a channel has, where it has one
abbrev pub is_line_of : ℕ → Line → Bool
is_line_of c (Channel d) = d == c
is_line_of c (Print p) = false

abbrev pub carried : List Stream → ℕ → Option ℕ
carried [] c = None
carried (s ∷ streams) c = if is_line_of c s.line then Some (length s.tokens.items) else carried streams c

-- that number, as a further line of its label
abbrev pub count_text : Option ℕ → List ℕ
count_text None = []
count_text (Some n) = concat (codes "\\n" ∷ decimal n ∷ [])

-- a mark is set where an instance of a ring waits on channel c
abbrev pub IsWaitMark : Schema → List Standing → ℕ → Bool → Type 0
IsWaitMark N ss c true = (p : ℕ) × (slice_get ss p ≡ Some (S.Waits c)) × LeadsOn N ss p p
IsWaitMark N ss c false = (p : ℕ) → slice_get ss p ≡ Some (S.Waits c) → LeadsOn N ss p p → ⊥
