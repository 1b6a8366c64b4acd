-- Believed. What is told of the needs of values (this project's profile): of one, and of all of a line as a table; and of which values need one.
use Rattle.std.specs.Prelude.{◌≡◌, ℕ, zero, suc, ◌+◌, ◌≤◌, ◌<◌, ◌^◌, List, Option, Some, None, Bool, true, false, ⊤, length, slice_get, slice_index_or, unwrap_or}
use Rattle.std.specs.Str.Parse.{IsNumeral, digits_value, without_leading_plus}
use Rattle.kahn_streams.specs.{declared.answer.Answer.Answer, declared.answer.Stream.Stream, declared.answer.Verdict.Verdict, declared.answer.Verdict.TheVariants.Finished, declared.answer.Verdict.TheVariants.Bound, declared.answer.Verdict.TheVariants.Memory, declared.config.Config.Config, declared.tree.Program.Program, declared.value.Line.Line, declared.value.Line.TheVariants.Channel, declared.value.Line.TheVariants.Print, declared.value.Value.Value, Inputs.Lists, Inputs.inputs_of, Inputs.IsNameOf, Inputs.IsNoName, Network.Given, Network.Schema, Network.network_of, Solution.Inputs, Solution.source}
use Rattle.kahn_needs.specs.{Finding.AreNeedsFound, Needs.AreNeeds, Needs.Cut, declared.needs.Found.Found, declared.needs.Needs.Needs}
use Rattle.kahn_needs.specs.declared.needs.Found.TheVariants as found
use Rattle.kahn_sequential.specs.declared.counted.Counted.{Counted}
use Rattle.kahn_texts.specs.Formats.{StandsFor}
use Rattle.kahn_fault.specs.Work.{IsChecked}
use Rattle.kahn_explanation.specs.{declared.why.told.Finding.Finding, declared.why.told.Finding.TheVariants.Stop}
use Rattle.kahn_line.specs.Parts.{parted}
use Rattle.kahn_explain.specs.{Histories.IsCountedFor, declared.needing.AskFault.AskFault, declared.needing.Question.Question}
use Rattle.kahn_explain.specs.declared.needing.AskFault.TheVariants as ask

-- ---- what is asked

-- the word is a number of 64 bits from 1 on, that of place k
abbrev pub IsPlaceWord : List ℕ → ℕ → Type 0
IsPlaceWord word k = IsNumeral 10 (without_leading_plus word) × (digits_value 10 (without_leading_plus word) ≡ k + 1) × (k + 1 < 2 ^ 64)

-- a word names a line: a channel by its name, the print stream of a process by the number of the process, from 1
abbrev pub IsLineNamed : Program → List ℕ → Line → Type 0
IsLineNamed t word (Channel c) = IsNameOf t word c
IsLineNamed t word (Print p) = IsNoName t word × IsPlaceWord word p × (p < length (network_of t).instances)

-- behind the first colon of a word stands a place, or it has none
abbrev pub IsPlaceGiven : Option (List ℕ) → Option ℕ → Type 0
IsPlaceGiven None None = ⊤
IsPlaceGiven None (Some k) = ⊥
IsPlaceGiven (Some text) None = ⊥
IsPlaceGiven (Some text) (Some k) = IsPlaceWord text k

-- what a word asks for, `NAME` or `NAME:PLACE`
pub record IsWordFor (t : Program) (word : List ℕ) (x : Question) : Type 0 where
  pub line : IsLineNamed t (parted 58 word).0 x.line
  pub place : IsPlaceGiven (parted 58 word).1 x.place

-- of what is needed: a line that an instance sends; the other way round, an input
abbrev pub IsAskable : Bool → Program → Line → Type 0
IsAskable false t c = source (network_of t) c ≡ Given → ⊥
IsAskable true t c = source (network_of t) c ≡ Given

abbrev pub IsQuestion : Bool → Program → List ℕ → Question → Type 0
IsQuestion wakes t word x = IsWordFor t word x × IsAskable wakes t x.line

-- or why it asks for nothing
abbrev pub IsUnasked : Bool → Program → List ℕ → AskFault → Type 0
IsUnasked wakes t word ask.NoLine = (c : Line) → IsLineNamed t (parted 58 word).0 c → ⊥
IsUnasked wakes t word ask.WrongLine = (c : Line) × IsLineNamed t (parted 58 word).0 c × (IsAskable wakes t c → ⊥)
IsUnasked wakes t word ask.NoPlace = (k : Option ℕ) → IsPlaceGiven (parted 58 word).1 k → ⊥

-- ---- one value

-- how that ended: only a bound leaves something untold
abbrev pub found_end : Found → Verdict
found_end found.Bound = Bound
found_end f = Finished

-- a search whose end P says ended so
abbrev pub IsSearchEnd : (Found → Type 0) → Verdict → Type 0
IsSearchEnd P v = (f : Found) × P f × (v ≡ found_end f)

-- ---- all values of a line

-- there is no value
abbrev pub IsNone : Found → Type 0
IsNone (found.Needs x) = ⊥
IsNone f = ⊤

-- the first n places of line c have values, with what each needs
abbrev pub AreRows : Schema → Inputs → Line → ℕ → Type 0
AreRows N I c n = (k : ℕ) → k < n → (x : Needs) × AreNeedsFound N I c k (found.Needs x)

-- all places of a line, up to its end or to the bound
abbrev pub AreAllNeeds : Schema → Inputs → Line → Found → Type 0
AreAllNeeds N I c f = (n : ℕ) × AreRows N I c n × AreNeedsFound N I c n f × IsNone f

-- ---- the first values that need one

-- how many values of a line are among these of each channel
abbrev pub values_on : (ℕ → ℕ) → Line → ℕ
values_on f (Channel d) = f d
values_on f (Print p) = 0

-- the value at place k of line c, if there is one, doesn't need that at place j of input d
abbrev pub NeedsNot : Schema → Inputs → Line → Line → ℕ → ℕ → Type 0
NeedsNot N I c d j k = (v : Value) (x : Cut) → AreNeeds N I c k v x → values_on x.values d ≤ j

-- that at place k is the first of line c that needs the value at place j of input d, and this is what it needs; or none of the line ever does
abbrev pub IsFirstNeeding : Schema → Inputs → Line → Line → ℕ → ℕ → Found → Type 0
IsFirstNeeding N I c d j k (found.Needs x) =
    AreNeedsFound N I c k (found.Needs x) × (j < values_on (λ e. slice_index_or x.values.items e 0) d) × ((i : ℕ) → i < k → NeedsNot N I c d j i)
IsFirstNeeding N I c d j k found.Bound = ⊤
IsFirstNeeding N I c d j k f = (i : ℕ) → NeedsNot N I c d j i

-- how the search for it ended, on a line that an instance sends; of an input nothing is sought
abbrev pub IsFirstEnd : Schema → Inputs → Line → ℕ → Line → Verdict → Type 0
IsFirstEnd N I d j c v =
    ((source N c ≡ Given → ⊥) → (k : ℕ) × IsSearchEnd (IsFirstNeeding N I c d j k) v) × (source N c ≡ Given → v ≡ Finished)

-- how two searches ended
abbrev pub worse : Verdict → Verdict → Verdict
worse Finished v = v
worse u v = u

-- for the first n streams of the report, how the searches for the first that needs the value at place j of input d ended
abbrev pub AreFirstEnds : Schema → Answer → Inputs → Line → ℕ → ℕ → Verdict → Type 0
AreFirstEnds N a I d j zero v = v ≡ Finished
AreFirstEnds N a I d j (suc n) v =
    (s : Stream) × (u w : Verdict) × (slice_get a.streams.items n ≡ Some s) × AreFirstEnds N a I d j n u × IsFirstEnd N I d j s.line w × (v ≡ worse u w)

-- what a word asks for is told, for the input that a text stands for: of a place, or of all places; the other way round, without a place of the first
abbrev pub IsReply : Bool → Program → List ℕ → Config → Line → Option ℕ → Verdict → Type 0
IsReply false t input config c (Some k) v = (lists : Lists) × StandsFor t input lists × IsSearchEnd (AreNeedsFound (network_of t) (inputs_of lists) c k) v
IsReply false t input config c None v = (lists : Lists) × StandsFor t input lists × IsSearchEnd (AreAllNeeds (network_of t) (inputs_of lists) c) v
IsReply true t input config c k v = (x : Counted) × (lists : Lists) × IsCountedFor t input config x × StandsFor t input lists
    × AreFirstEnds (network_of t) x.answer (inputs_of lists) c (unwrap_or k 0) (length x.answer.streams.items) v

-- ---- all of it

-- a word asks for something of the program, and that is told
abbrev pub AreNeedsTold : Bool → List ℕ → List ℕ → List ℕ → Config → Finding → Type 0
AreNeedsTold wakes word program input config x =
    (t : Program) × (q : Question) × (v : Verdict) × IsChecked program t × IsQuestion wakes t word q × IsReply wakes t input config q.line q.place v × (x ≡ Stop v)

-- or it asks for nothing
abbrev pub IsUnaskedOf : Bool → List ℕ → List ℕ → Type 0
IsUnaskedOf wakes word program = (t : Program) × (f : AskFault) × IsChecked program t × IsUnasked wakes t word f
