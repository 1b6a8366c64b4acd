use Rattle.kahn_syntax.proofs.Common.{ℕ, ◌≤◌, length, refl, arith, HasForm}
use Rattle.kahn_syntax.proofs.lexer.item_at.Goals as goal

pub returns-in-None-clause-fault : goal.returns-in-None-clause-fault
returns-in-None-clause-fault c =
    let to = c.ceil_char_boundary-to.ensures in (
      refl,
      (
        (omega (arith, to.bound), c.requires.cut, to.boundary, λ i low high. to.nearest i (omega arith) high),
        c.requires.dark,
        let none : (n : ℕ) → n ≤ length c.args.text.now → ¬ (HasForm c.args.text.now c.args.from n) =
            rw c.as_bytes.ensures.value at c.in-None.ensures.none in none,
      ),
    )
