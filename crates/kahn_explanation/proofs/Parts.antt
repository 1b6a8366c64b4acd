-- What the parts of explaining say of the whole.
use Rattle.std.proofs.Common.{append-nil}
use Rattle.std.specs.Io.KnownBytes.{Appends}
use Rattle.kahn_explanation.proofs.Common.{◌≡◌, ℕ, Bool, List, [], ◌++◌, Option, None, Result, Err, inl, inr, refl, string_bytes, subst, sym, IsUnchecked, WorkFault, Syntax, Check, AreAllowed, IsRefusal, IsRefusedFor, HasRefused, HasWritten, IsAdmitted, Came, Refused}
use Rattle.std.specs.Prelude.{Ok}
use Rattle.kahn_streams.specs.Written.{AppendsFront}
use Rattle.kahn_explanation.specs.{Data.HasToldData, declared.explaining.Admitted.Admitted}

-- two pieces, the second of which is the last
pub went_out : (old new : Option (List ℕ)) (first text : List ℕ) → Appends old new (first ++ (text ++ [])) → Appends old new (first ++ text)
went_out old new first text gone = subst (λ l. Appends old new (first ++ l)) (append-nil text) gone

pub broke_off : (old new : Option (List ℕ)) (first text : List ℕ) → AppendsFront old new (first ++ (text ++ [])) → AppendsFront old new (first ++ text)
broke_off old new first text gone = subst (λ l. AppendsFront old new (first ++ l)) (append-nil text) gone

-- why a program text is refused
pub refusal_out : (path program : List ℕ) (strict : Bool) (text : List ℕ) (old new : Option (List ℕ)) (r : Result Came WorkFault) → IsRefusedFor path program strict text
    → HasWritten text Refused old new r → HasRefused path program strict old new r
refusal_out path program strict text old new r why (inl (is, out)) = subst (HasRefused path program strict old new) (sym is) (text, why, out)
refusal_out path program strict text old new r why (inr (f, is, out)) = subst (HasRefused path program strict old new) (sym is) (text, why, out)

pub unplaced : (path program : List ℕ) (strict : Bool) (old : Option (List ℕ)) (fault : WorkFault) → IsUnchecked program fault → IsRefusal path program fault None
    → HasRefused path program strict old old (Err fault)
unplaced path program strict old (Syntax f) is none = (is, none, refl)
unplaced path program strict old (Check f) is none = (is, none, refl)
unplaced path program strict old f is none = absurd is

-- of an allowed program
pub are_allowed : (path program : List ℕ) (strict : Bool) (it : Admitted) → IsAdmitted path program strict it → AreAllowed path program strict (string_bytes it.notes)
are_allowed path program strict it on = ((it.network, on.checked, on.notes), on.none)

-- what is said went out as data
pub data_out : (text : List ℕ) (came : Came) (looked : Result Came WorkFault) (old new : Option (List ℕ)) (r : Result Came WorkFault) → looked ≡ Ok came
    → (came ≡ Refused → ¬ (text ≡ [])) → HasWritten text came old new r → HasToldData looked old new r
data_out text came looked old new r is some (inl (e, out)) = subst (HasToldData looked old new) (sym e) (is, (text, out, some))
data_out text came looked old new r is some (inr (f, e, out)) = subst (HasToldData looked old new) (sym e) (inr (text, out))
