use Rattle.kahn_explanation.proofs.Common.{◌≡◌, ◌∙◌, ℕ, List, Bool, false, subst, sym, true, Verdict, came_to}
use Rattle.kahn_chain.specs.declared.reason.Reason.{Reason}
use Rattle.kahn_explanation.specs.{Why.IsFindingTold, Why.is_silent, declared.why.told.Finding.Finding}
use Rattle.kahn_explanation.proofs.why.told.causes.Goals as goal

told_so : (v : Verdict) (rs : List Reason) (f : Finding) (b : Bool) (text : List ℕ) → f ≡ came_to v rs → is_silent f ≡ b → IsFindingTold b f text
    → IsFindingTold (is_silent (came_to v rs)) (came_to v rs) text
told_so v rs f b text e s h = subst (λ x. IsFindingTold (is_silent x) x text) e (subst (λ y. IsFindingTold y f text) (sym s) h)

pub returns-then-is_silent : goal.returns-then-is_silent
returns-then-is_silent c =
    let told = c.in_ok-told.ensures in
    let rs = c.in_ok-told.told.reasons.items in
    (rs, told.reasons, told_so c.args.verdict rs c.in_ok-told.told.told true _ told.told (sym c.is_silent.ensures ∙ c.if-is_silent.true) c.new.ensures.bytes)

pub returns : goal.returns
returns c =
    let told = c.in_ok-told.ensures in
    let rs = c.in_ok-told.told.reasons.items in
    (rs, told.reasons, told_so c.args.verdict rs c.in_ok-told.told.told false _ told.told (sym c.is_silent.ensures ∙ c.if-is_silent.false) told.begins)
