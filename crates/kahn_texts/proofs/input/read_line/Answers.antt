use Rattle.kahn_texts.proofs.Common.{◌≡◌, true, inl, inr, subst, sym, AreBlanks, AreValues, HasNoHead, IsLineFault}
use Rattle.kahn_texts.proofs.input.read_line.Goals as goal

pub returns-in-Err : goal.returns-in-Err
returns-in-Err c =
    let (head, only) = c.in-Some.ensures in
    subst (λ l. IsLineFault l c.in-Err.fault) c.content-line.ensures (elim c.in-Err.ensures [
      | inl memory ↦ subst (IsLineFault c.content-line.result.now) (sym memory) tt
      | inr (values, none) ↦ subst (IsLineFault c.content-line.result.now) (sym values) (
        (c.in-Some.name.now, c.in-Some.rest.now, head),
        λ name rest values is spelled. none values (subst (λ r. AreValues r values) (only name rest is) spelled),
      )
    ])

pub returns-in_default : goal.returns-in_default
returns-in_default c =
    let dark : AreBlanks c.content-line.result.now → ⊥ = λ blank. let t : c.is_blank_line.result ≡ true = c.is_blank_line.ensures.1 blank in cc (t, c.if-is_blank_line.false) in
    subst HasNoHead c.content-line.ensures (dark, c.in_default.ensures)
