use Rattle.kahn_web.proofs.Common.{◌≡◌, ℕ, List, Some, Ok, codes, false, inl, inr, rules, subst, Global, Vec, HasRefused, IsReason}
use Rattle.kahn_web.proofs.Reasons.{of_bytes, refused, some_of}
use Rattle.kahn_web.proofs.whole.reason.Goals as goal

pub returns-in-Err-Ok : goal.returns-in-Err-Ok
returns-in-Err-Ok c =
    let program = c.in-Ok.program.now in
    let told = HasRefused (codes "program") program false in
    let new = c.admit.new.writer.items in
    let is : c.in-Err-Ok.field-0 ≡ Ok c.in-Err-Ok._came = search rules in
    let was = subst (told (Some c.new-written.result.items) (Some new)) is c.in-Err-Ok.ensures in
    of_bytes (λ p i. IsReason p i c.args.bound new) program c.in-Ok-from_utf8.input.now _ _ c.in-Ok.ensures.cases.0 c.in-Ok-from_utf8.ensures.cases.0
    (inl (refused (codes "program") program new c.in-Err-Ok._came (subst (λ (none : List ℕ). told (Some none) (Some new) (Ok c.in-Err-Ok._came)) c.new-written.ensures.items was)))

pub returns-in-Ok-answered : goal.returns-in-Ok-answered
returns-in-Ok-answered c =
    some_of _ (λ (text : Vec ℕ Global) h. of_bytes (λ p i. IsReason p i c.args.bound text.items) c.in-Ok.program.now c.in-Ok-from_utf8.input.now _ _
    c.in-Ok.ensures.cases.0 c.in-Ok-from_utf8.ensures.cases.0 (inr (inr h))) c.stopped.ensures

pub returns-in-Err-Text : goal.returns-in-Err-Text
returns-in-Err-Text c =
    some_of _ (λ (text : Vec ℕ Global) h. of_bytes (λ p i. IsReason p i c.args.bound text.items) c.in-Ok.program.now c.in-Ok-from_utf8.input.now _ _
    c.in-Ok.ensures.cases.0 c.in-Ok-from_utf8.ensures.cases.0 (inr (inl h))) c.refused.ensures
