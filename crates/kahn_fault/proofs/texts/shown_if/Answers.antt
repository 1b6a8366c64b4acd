use Rattle.std.proofs.Common.{Some, refl, subst, sym}
use Rattle.kahn_fault.specs.Shown.{IsShownIf}
use Rattle.kahn_fault.proofs.texts.shown_if.Goals as goal

pub returns-in-Some : goal.returns-in-Some
returns-in-Some c =
    let q = c.shown_or_empty.result in
    subst (λ p. IsShownIf p (Some q)) (sym c.in-Some.is) (q, c.shown_or_empty.ensures, refl)
