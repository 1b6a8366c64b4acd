-- What words name.
use Rattle.kahn_explain.proofs.Common.{◌↔◌, not, arith, ◌≡◌, ℕ, Bool, true, false, List, Option, Some, None, refl, subst, IsNoName, Given, network_of, source, Program, Line, Channel, Print, IsNetworkLine, IsAskable, IsLineNamed, IsPlaceGiven, IsPlaceWord}
use Rattle.kahn_streams.proofs.Entered.{names_count}

pub line_listed : (t : Program) (word : List ℕ) (c : Line) → IsLineNamed t word c → IsNetworkLine (network_of t) c
line_listed t word (Channel c) h = let l = h.1 in let e = names_count t in omega (arith, l, e)
line_listed t word (Print p) h = h.2

pub no_line : (t : Program) (word : List ℕ) → IsNoName t word → ((p : ℕ) → IsPlaceWord word p → ⊥) → (c : Line) → IsLineNamed t word c → ⊥
no_line t word none unread (Channel c) h = let e = h.0 in let l = h.1 in omega (arith, e, l, none)
no_line t word none unread (Print p) h = unread p h.1

pub none_given : (w : Option (List ℕ)) (word : List ℕ) → w ≡ Some word → ((k : ℕ) → IsPlaceWord word k → ⊥) → (k : Option ℕ) → IsPlaceGiven w k → ⊥
none_given w word is unread None h = subst (λ o. IsPlaceGiven o None) is h
none_given w word is unread (Some k) h = unread k (subst (λ o. IsPlaceGiven o (Some k)) is h)

-- whether it may be asked of an input, and of another line
pub askable_given : (t : Program) (c : Line) (wakes : Bool) → source (network_of t) c ≡ Given → (wakes ≡ true) ↔ IsAskable wakes t c
askable_given t c true given = (λ e. given, λ h. refl)
askable_given t c false given = (λ e. absurd cc, λ h. absurd (h given))

pub askable_made : (t : Program) (c : Line) (wakes : Bool) → (source (network_of t) c ≡ Given → ⊥) → (not wakes ≡ true) ↔ IsAskable wakes t c
askable_made t c true made = (λ e. absurd cc, λ h. absurd (made h))
askable_made t c false made = (λ e. made, λ h. refl)
