use Rattle.kahn_syntax.proofs.Parsing.{AreProper, FitsSigned, IfNone, IsUnsigned, List, None, Option, Some, a_number, false, leads, neg_ℤ, negative_fits, number_fits, subst, sym, terminals, to_z-of_z, w64, ℕ, ◌≡◌}
use Rattle.kahn_syntax.proofs.parser.next_negative.Goals as goal

none_if : {X : Type 0} (r : Option X) (P : Type 0) → P → IfNone r P
none_if None P p = p
none_if (Some x) P p = tt

pub returns-in_err-checked_neg-in-Number-default-clause-absent : goal.returns-in_err-checked_neg-in-Number-default-clause-absent
returns-in_err-checked_neg-in-Number-default-clause-absent c =
    let no : (text : List ℕ) → AreProper text c.args.input.now → leads a_number (terminals text c.args.input.now) ≡ false = λ text h.
    (let u = subst IsUnsigned c.in-Number-default.is-0 (c.in_ok-number.ensures.unsigned text h) in
    absurd (c.in_err-checked_neg-in-Number-default.ensures
    (subst (λ k. FitsSigned w64 (neg_ℤ k)) (sym (to_z-of_z w64 c.in-Number-default.number (number_fits c.in-Number-default.number u.0 u.1 u.2)))
    (negative_fits c.in-Number-default.number u.0 u.1 u.2)))) in
    none_if c.from_residual-in_err-checked_neg-in-Number-default.result ((text : List ℕ) → AreProper text c.args.input.now → leads a_number (terminals text c.args.input.now) ≡ false) no
