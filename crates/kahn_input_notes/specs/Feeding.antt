-- Believed. Why an input text is refused, as a note on the place.
use Rattle.std.specs.Prelude.{◌≡◌, ◌⊎◌, ◌-◌, ℕ, Bool, true, false, List, [], ◌∷◌, MatchOption, Option, Some, None, map}
use Rattle.std.specs.Str.{IsUtf8}
use Rattle.kahn_streams.specs.{declared.span.Span.Span, declared.tree.Kind.Kind, declared.tree.Program.Program, Network.kind_at, Network.network_of, Inputs.IsNameOf, Inputs.IsNoName}
use Rattle.kahn_streams.specs.declared.entries.InputFault.TheVariants as input_fault
use Rattle.kahn_texts.specs.declared.input.TextFault.{TextFault}
use Rattle.kahn_texts.specs.declared.input.TextFault.TheVariants as text_fault
use Rattle.kahn_diagnostic.specs.{declared.rendering.Note.Note, declared.rendering.Other.Other, declared.rendering.Sort.TheVariants.Error}
use Rattle.kahn_input_notes.specs.{Fitting.IsUnfitSpan, Fitting.lack_place, Fitting.moved_by, Fitting.line_name, Fitting.name_span, Seeking.IsFirstNamed, Seeking.IsFound, Seeking.IsNamedNowhere, Seeking.IsUnfound}

-- the kind of the channel of that name, where a channel has it
abbrev pub IsKindFor : Program → List ℕ → Option Kind → Type 0
IsKindFor t name kind = MatchOption kind (IsNoName t name ⊎ ¬ IsUtf8 name) (λ k. (c : ℕ) × IsNameOf t name c × (k ≡ kind_at (network_of t) c))

-- the part of a line that is at fault: where the name or the colon is wanted, the first word that is no value, or none of the kind, or the name
abbrev pub IsFaultSpan : List ℕ → Option Kind → TextFault → Span → Type 0
IsFaultSpan line kind (text_fault.BadLine n) span = span ≡ lack_place line
IsFaultSpan line kind (text_fault.BadValue n) span = IsUnfitSpan None line span
IsFaultSpan line kind (text_fault.Input (input_fault.WrongKind n)) span = IsUnfitSpan kind line span
IsFaultSpan line kind fault span = span ≡ name_span line

-- where two entries are for one channel, the first of them is told
abbrev pub AreFirstGiven : List ℕ → List ℕ → TextFault → List Other → Type 0
AreFirstGiven text name (text_fault.Input (input_fault.GivenTwice n)) others =
    ((span : Span) × IsFirstNamed text name span × (map (λ o. o.span) others ≡ span ∷ [])) ⊎ (IsNamedNowhere text name × (others ≡ []))
AreFirstGiven text name fault others = others ≡ []

-- the note on the line that begins at byte `from`
abbrev pub IsLineNote : Program → List ℕ → ℕ → List ℕ → TextFault → Note → Type 0
IsLineNote t text from line fault note = (note.sort ≡ Error) × (note.below.items ≡ [])
    × ((kind : Option Kind) × (span : Span) × IsKindFor t (line_name line) kind × IsFaultSpan line kind fault span × (note.span ≡ moved_by from span))
    × AreFirstGiven text (line_name line) fault note.others.items

-- the line of a fault: whether entries alone count, and its number among them, from 0
abbrev pub sought_of : TextFault → Option (Bool × ℕ)
sought_of (text_fault.BadLine n) = Some (false, n - 1)
sought_of (text_fault.BadValue n) = Some (false, n - 1)
sought_of (text_fault.Input (input_fault.UnknownName n)) = Some (true, n - 1)
sought_of (text_fault.Input (input_fault.NotAnInput n)) = Some (true, n - 1)
sought_of (text_fault.Input (input_fault.GivenTwice n)) = Some (true, n - 1)
sought_of (text_fault.Input (input_fault.WrongKind n)) = Some (true, n - 1)
sought_of (text_fault.Input (input_fault.TooMany n)) = Some (true, n - 1)
sought_of fault = None

-- the note on why an input text is refused, where that has a place
abbrev pub IsInputNote : Program → List ℕ → TextFault → Option Note → Type 0
IsInputNote t text fault note = MatchOption (sought_of fault) (note ≡ None)
    (λ s. MatchOption note (IsUnfound text s.0 s.1) (λ note. (from : ℕ) × (line : List ℕ) × IsFound text s.0 s.1 from line × IsLineNote t text from line fault note))
