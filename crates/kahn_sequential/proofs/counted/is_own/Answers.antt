use Rattle.std.proofs.Common.{◌≡◌, ◌∙◌, ◌==◌, ap, sym, subst, true, false, true≢false}
use Rattle.kahn_sequential.proofs.Recording.{same_number}
use Rattle.kahn_sequential.proofs.counted.is_own.Goals as goal

pub returns : goal.returns
returns c e w x r y same =
    let writer = c.in-Some.writer.instance in
    let reader = c.in-Some-reader.reader.instance in
    let one : writer ≡ reader = ap (λ s. s.instance) (sym (c.in-Some.ensures.only.1 w x)) ∙ (sym same ∙ ap (λ s. s.instance) (c.in-Some-reader.ensures.only.1 r y)) in
    let no : (writer == reader) ≡ false = e in
    let yes : (writer == reader) ≡ true = subst (λ n. (writer == n) ≡ true) one (same_number writer) in
    absurd (true≢false (sym yes ∙ no))
