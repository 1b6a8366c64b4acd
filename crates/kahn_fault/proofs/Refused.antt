-- A status where lines were refused.
use Rattle.kahn_fault.proofs.Common.{◌≡◌, ℕ, zero, suc, Bool, true, false, refl, with_refused}

-- a status other than 0 stays
pub stays : (refused : Bool) (status : ℕ) → (status ≡ 0 → ⊥) → status ≡ with_refused refused status
stays false status other = refl
stays true zero other = absurd (other refl)
stays true (suc status) other = refl
