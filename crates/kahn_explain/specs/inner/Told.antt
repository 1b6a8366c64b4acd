-- Inner. What the parts of a sheet and of a reply do.
use Rattle.std.specs.Io.KnownBytes.{Appends}
use Rattle.kahn_fault.specs.declared.work.{WorkFault.WorkFault, WorkFault.TheVariants.Run, WorkFault.TheVariants.Write}
use Rattle.kahn_streams.specs.declared.fault.RunFault.TheVariants.{NoMemory}
use Rattle.kahn_explain.specs.declared.rows.RowsFault.{RowsFault}
use Rattle.kahn_explain.specs.declared.rows.RowsFault.TheVariants as rows
use Rattle.kahn_texts.specs.declared.bytes.WriteFault.{WriteFault}
use Rattle.kahn_explanation.specs.inner.Told.{HasWritten}
use Rattle.std.specs.Prelude.{◌≡◌, ◌⊎◌, Result, Err, ◌<◌, ◌++◌, ⊤, ℕ, Bool, false, IfSome, List, [], Option, Some, None, slice_index_or, string_bytes}
use Rattle.kahn_streams.specs.{Inputs.Lists, Network.network_of, Written.AppendsFront, declared.tree.Program.Program, declared.value.Line.Line, declared.config.Config.Config}
use Rattle.kahn_needs.specs.Finding.{IsNetworkLine, Seeking}
use Rattle.kahn_needs.specs.declared.needs.Found.{Found}
use Rattle.kahn_needs.specs.declared.needs.Found.TheVariants as found
use Rattle.kahn_explanation.specs.{declared.explaining.Admitted.Admitted, declared.explaining.Came.Came, declared.explaining.Came.TheVariants.Stopped, declared.explaining.Came.TheVariants.Refused}
use Rattle.kahn_explain.specs.{Needing.IsPlaceGiven, Needing.IsQuestion, Needing.values_on, Running.HasReplied, Running.Replies, declared.replies.Asked.Asked, declared.replies.Reply.Reply, declared.running.Request.Request, declared.running.Sheet.Sheet}
use Rattle.kahn_explain.specs.declared.replies.Asked.TheVariants as asked
use Rattle.kahn_explain.specs.declared.running.Sheet.TheVariants as sheet

-- beside what a word asks for the notes are told, and not where it is refused
abbrev pub notes_for : Came → List ℕ → List ℕ
notes_for (Stopped x) notes = notes
notes_for Refused notes = []

-- what a sheet of an admitted program comes to
abbrev pub IsReplyFor : Sheet → Request → Config → Admitted → Reply → Type 0
IsReplyFor kind x config it r = Replies x kind config r.came (string_bytes r.text) (notes_for r.came (string_bytes it.notes) ++ string_bytes r.words)

-- it went out, and then what is told beside it; or a writer broke off
abbrev pub HasPutReply : Admitted → Reply → Option (List ℕ) → Option (List ℕ) → Option (List ℕ) → Option (List ℕ) → Result Came WorkFault → Type 0
HasPutReply it y out made old new r =
    (Appends out made (string_bytes y.text) × HasWritten (notes_for y.came (string_bytes it.notes) ++ string_bytes y.words) y.came old new r)
    ⊎ ((f : WriteFault) × (r ≡ Err (Write f)) × AppendsFront out made (string_bytes y.text) × (new ≡ old))

-- why the rows of a table of needs broke off, in the words of a run
abbrev pub rows_fault : RowsFault → WorkFault
rows_fault rows.NoMemory = Run NoMemory
rows_fault (rows.Write f) = Write f

-- the rows of a table of needs went out, whatever else a run is asked for
abbrev pub HasPutNeeds : Request → Option (List ℕ) → Option (List ℕ) → Option (List ℕ) → Option (List ℕ) → Result Came WorkFault → Type 0
HasPutNeeds x out made old new r = (config : Config) → HasReplied x (sheet.Needs false) config out made old new r

-- ---- what values need

-- the search, if there is one, is of that network and input
abbrev pub IsSeekerOf : Program → Lists → Option Seeking → Type 0
IsSeekerOf t lists s = IfSome s (λ x. (x.network ≡ t) × (x.input ≡ lists))

-- why a word asks for nothing, and no more
abbrev pub IsNoText : Reply → Type 0
IsNoText y = (y.came ≡ Refused) × (string_bytes y.text ≡ [])

abbrev pub IsNothingAsked : Asked → Type 0
IsNothingAsked (asked.Text y) = IsNoText y
IsNothingAsked (asked.Table c) = ⊥

-- a word asks for all values of a line
abbrev pub IsTableAsked : Program → List ℕ → Line → Type 0
IsTableAsked t word c = IsQuestion false t word (record { line = c; place = None }) × IsNetworkLine (network_of t) c

-- what a word asks for, of an admitted program
abbrev pub IsAskedFor : Bool → Request → Config → Admitted → Asked → Type 0
IsAskedFor wakes x config it (asked.Text y) = IsReplyFor (sheet.Needs wakes) x config it y
IsAskedFor wakes x config it (asked.Table c) = (wakes ≡ false) × IsTableAsked it.network x.word.now c

-- the place that a word gives, or that it gives none
abbrev pub IsGivenAs : Option (List ℕ) → Option (Option ℕ) → Type 0
IsGivenAs word None = (k : Option ℕ) → IsPlaceGiven word k → ⊥
IsGivenAs word (Some k) = IsPlaceGiven word k

-- the search for the first value that needs that at place j of line d ends with what was found
abbrev pub EndsSearch : Line → ℕ → Found → Type 0
EndsSearch d j (found.Needs x) = j < values_on (λ e. slice_index_or x.values.items e 0) d
EndsSearch d j f = ⊤
