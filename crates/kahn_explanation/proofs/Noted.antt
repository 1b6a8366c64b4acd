-- Notes in lines, one behind another.
use Rattle.kahn_explanation.proofs.Common.{◌≡◌, ◌==◌, ℕ, Bool, true, List, [], ◌∷◌, ◌++◌, ◌∙◌, All, ap, append_assoc, arith, length, sym, take, eqb-true, All-from_recursion, All-weaker, most_notes, Note, HasShown, StandsIn}
use Rattle.kahn_diagnostic.specs.Notes.{IsRendered}

-- what stands in lines stands in longer ones
longer : (path text old more new : List ℕ) → new ≡ old ++ more → (n : Note) → StandsIn path text old n → StandsIn path text new n
longer path text old more new is n (before, one, behind, rendered, e) = (
  before,
  one,
  behind ++ more,
  rendered,
  is ∙ ap (λ l. l ++ more) e ∙ append_assoc before (one ++ behind) more ∙ ap (λ l. before ++ l) (append_assoc one behind more),
)

pub all_longer : (path text old more new : List ℕ) (ns : List Note) → new ≡ old ++ more → All (StandsIn path text old) ns → All (StandsIn path text new) ns
all_longer path text old more new ns is all = All-weaker (StandsIn path text old) (StandsIn path text new) (longer path text old more new is) ns all

-- one note more
pub has_shown : (path text old before one behind first second new : List ℕ) (n : Note) → IsRendered path text n one → first ≡ old ++ before → second ≡ first ++ one
    → new ≡ second ++ behind → HasShown path text n old new
has_shown path text old before one behind first second new n rendered a b c =
    let e : new ≡ (old ++ before) ++ (one ++ behind) = c ∙ ap (λ l. l ++ behind) (b ∙ ap (λ l. l ++ one) a) ∙ append_assoc (old ++ before) one behind in
    (before ++ (one ++ behind), e ∙ append_assoc old before (one ++ behind), (old ++ before, one, behind, rendered, e))

-- of no notes each stands anywhere
pub none_stand : (path text lines : List ℕ) (notes : List Note) (b : Bool) (n : ℕ) → b ≡ (n == 0) → n ≡ length notes → b ≡ true
    → All (StandsIn path text lines) (take most_notes notes)
none_stand path text lines [] b n e l t = All-from_recursion (StandsIn path text lines) [] tt
none_stand path text lines (note ∷ notes) b n e l t = let h : n ≡ 0 = eqb-true n 0 (sym e ∙ t) in absurd (omega (arith, l, h))
