-- What is told of an input text, or why nothing is.
use Rattle.kahn_explanation.proofs.Common.{ℕ, List, Option, Some, Result, Err, inl, inr, refl, string_bytes, subst, sym, Global, String, IsUnchecked, WorkFault, Syntax, Check, HasWritten, Came, Refused}
use Rattle.kahn_texts.specs.declared.input.TextFault.{TextFault}
use Rattle.kahn_explanation.specs.Telling.{HasToldInput, IsNoteFor}

pub unfed : (path program text : List ℕ) (fault : TextFault) (written : Option (List ℕ)) (f : WorkFault) → IsUnchecked program f →
    HasToldInput path program text fault written written (Err f)
unfed path program text fault written (Syntax f) h = (h, refl)
unfed path program text fault written (Check f) h = (h, refl)
unfed path program text fault written f h = absurd h

pub input_out : (path program text : List ℕ) (fault : TextFault) (note : String Global) (old new : Option (List ℕ)) (r : Result Came WorkFault) → IsNoteFor path program text fault (Some note)
    → HasWritten (string_bytes note) Refused old new r → HasToldInput path program text fault old new r
input_out path program text fault note old new r why (inl (is, out)) = subst (HasToldInput path program text fault old new) (sym is) (note, why, out)
input_out path program text fault note old new r why (inr (f, is, out)) = subst (HasToldInput path program text fault old new) (sym is) (note, why, out)
