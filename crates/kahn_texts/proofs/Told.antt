-- Faults of the entries and of the input, as faults of the text.
use Rattle.kahn_texts.proofs.Common.{◌≡◌, ◌⊎◌, inl, inr, ℕ, List, subst, Program, InputFault, Entry, IsFirstRefused, AreFirstEntries, IsInputText, IsEntriesFault, IsInputTextFault, told_of_input}
use Rattle.kahn_streams.specs.declared.entries.InputFault.TheVariants.{NoMemory}
use Rattle.kahn_texts.specs.declared.input.TextFault.{TextFault}
use Rattle.kahn_texts.specs.declared.input.TextFault.TheVariants as text_fault
use Rattle.kahn_texts.proofs.Kept.{refused_of_all}

pub entries_told : (t : Program) (text : List ℕ) (fault : TextFault) → IsEntriesFault text fault → IsInputTextFault t text fault
entries_told t text (text_fault.Input f) h = absurd h
entries_told t text fault h = h

refused : (t : Program) (text : List ℕ) (n : ℕ) (first : List Entry) (fault : InputFault) → AreFirstEntries text n first → (fault ≡ NoMemory → ⊥)
    → (fault ≡ NoMemory) ⊎ IsFirstRefused t first fault → (entries : List Entry) × IsInputText text entries × IsFirstRefused t entries fault
refused t text n first fault is other (inl e) = absurd (other e)
refused t text n first fault (all, is, same) other (inr h) = (all, is, refused_of_all t n all fault (subst (λ l. IsFirstRefused t l fault) same h))

pub input_told : (t : Program) (text : List ℕ) (n : ℕ) (first : List Entry) (fault : InputFault) → AreFirstEntries text n first
    → (fault ≡ NoMemory) ⊎ IsFirstRefused t first fault → IsInputTextFault t text (told_of_input fault)
input_told t text n first NoMemory (all, is, same) h = is.0
input_told t text n first fault is h = refused t text n first fault is (λ e. cc) h
