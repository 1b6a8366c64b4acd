-- Input channels, looked for from the first one on.
use Rattle.kahn_session.proofs.Common.{false, ◌≡◌, ◌∙◌, ℕ, ◌+◌, ◌<◌, List, Some, ⊎_elim, ap, subst, sym, arith, slice_get, same_Some, Program, channel_names, network_of, role_at, IsNoOther, is_other_input}
use Rattle.std.specs.Prelude.{Option}
use Rattle.std.proofs.lemmas.Bool.{cases_lt}

-- none of the channels up to this one is another input
pub no_other_further : (t : Program) (but : Option (List ℕ)) (n : ℕ) (channel : List ℕ) → ((d : ℕ) → d < n → IsNoOther t but d) → slice_get (channel_names t) n ≡ Some channel
    → is_other_input but (role_at (network_of t) n) channel ≡ false → (d : ℕ) → d < n + 1 → IsNoOther t but d
no_other_further t but n channel none at is d below = ⊎_elim
    (λ under. none d under)
    (λ over. let same : d ≡ n = omega (arith, below, over) in
    λ other there. subst (λ c. is_other_input but (role_at (network_of t) d) c ≡ false) (same_Some channel other (sym at ∙ ap (λ k. slice_get (channel_names t) k) (sym same) ∙ there))
    (subst (λ k. is_other_input but (role_at (network_of t) k) channel ≡ false) (sym same) is))
    (cases_lt d n)
