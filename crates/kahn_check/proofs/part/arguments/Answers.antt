use Rattle.kahn_check.proofs.Common.{arith, ap, ◌≡◌, ◌∙◌, ◌+◌, ◌∷◌, [], drop, common_steps, option_or}
use Rattle.kahn_check.proofs.Told.{arguments_end, arguments_step, or_first}
use Rattle.kahn_check.proofs.part.arguments.Goals as goal

pub loop-number-preserved : goal.loop-number-preserved
loop-number-preserved c =
    let q = c.loop-number.number in
    let split : drop q c.args.parameters.now ≡ c.in-Some.parameter.now ∷ drop (q + 1) c.args.parameters.now = grind (arith, common_steps) in
    let rest : drop q c.args.arguments.now ≡ c.index-arguments-number.result ∷ drop (q + 1) c.args.arguments.now = grind (arith, common_steps) in
    let here = rw (split, rest) at c.loop-number.invariant in
    let h = c.in_ok-argument.ensures in
    let found = c.or-found.ensures ∙ ap (option_or c.loop-number.found) h.found ∙ or_first c.loop-number.found _ in
    arguments_step _ _ _ _ _ _ _ _ _ _ _ _ _ _ _ _ _ _ here found h.tables

pub returns : goal.returns
returns c =
    let none : drop c.loop-number.number c.args.arguments.now ≡ [] = grind (arith, common_steps) in
    let here = rw none at c.loop-number.invariant in
    let e = arguments_end _ _ _ _ _ _ _ _ _ _ _ _ here in
    record { found = e.0; tables = e.1 }
