use Rattle.std.proofs.Common.{refl, subst, sym}
use Rattle.kahn_fault.specs.Shown.{IsShownFault}
use Rattle.kahn_fault.specs.declared.fault.Fault.TheVariants.{InputText, Open, Program}
use Rattle.kahn_fault.proofs.texts.shown_fault.Goals as goal

pub returns-in-Open-clause-shown : goal.returns-in-Open-clause-shown
returns-in-Open-clause-shown c =
    let q = c.shown_or_empty.result in
    subst (λ f. IsShownFault f (Open q)) (sym c.in-Open.is) (q, c.shown_or_empty.ensures, refl)

pub returns-in-Program-clause-shown : goal.returns-in-Program-clause-shown
returns-in-Program-clause-shown c =
    let q = c.shown_if.result in
    subst (λ f. IsShownFault f (Program q c.in-Program.fault)) (sym c.in-Program.is) (q, c.shown_if.ensures, refl)

pub returns-in-InputText-clause-shown : goal.returns-in-InputText-clause-shown
returns-in-InputText-clause-shown c =
    let q = c.shown_or_empty-in-InputText.result in
    subst (λ f. IsShownFault f (InputText q c.in-InputText.fault)) (sym c.in-InputText.is) (q, c.shown_or_empty-in-InputText.ensures, refl)
