use Rattle.kahn_expected.proofs.Common.{List, None, Some, ap, awaited_parts, enters, is_some, left_open, opened_parts, option_map, step, sym, terminal_with, ℕ, ℤ, ◌∙◌, ◌≡◌}
use Rattle.kahn_expected.proofs.Walking.{entered, skipped, stopped}
use Rattle.kahn_expected.proofs.found.pass.Goals as goal

pub returns-in-Some-opened : goal.returns-in-Some-opened
returns-in-Some-opened c =
    let new = c.extend_from_slice.new.self.items in
    let goes : (n : List ℕ) (z : ℤ) → step (awaited_parts c.args.stack.now.items) (terminal_with n z c.args.class) ≡ Some (awaited_parts new) = λ n z.
    let k = terminal_with n z c.args.class in
    sym (c.parts.invariant n z)
    ∙ entered c.parts.stack.items c.pop.new.self.items new c.in-Some-opened.parts.now c.in-Some.part k c.in-Some.ensures.items
    (ap (λ o. option_map opened_parts o) (sym c.in-Some-opened.is) ∙ c.entered-optional.ensures.opened n z ∙ ap (λ r. enters r.1 k) c.rules.ensures)
    c.in_ok-extend_from_slice.ensures.items in
    (λ n z. ap is_some (goes n z), λ n z. ap left_open (goes n z))

pub returns-then-not-optional : goal.returns-then-not-optional
returns-then-not-optional c =
    let stops : (n : List ℕ) (z : ℤ) → step (awaited_parts c.args.stack.now.items) (terminal_with n z c.args.class) ≡ None = λ n z.
    let k = terminal_with n z c.args.class in
    sym (c.parts.invariant n z)
    ∙ stopped c.parts.stack.items c.pop.new.self.items c.in-Some.part k c.in-Some.ensures.items
    (ap (λ o. option_map opened_parts o) (sym c.in_default-opened.is) ∙ c.entered-optional.ensures.opened n z ∙ ap (λ r. enters r.1 k) c.rules.ensures) (sym c.if-not-optional.true ∙ c.entered-optional.ensures.optional ∙ ap (λ r. r.0) c.rules.ensures) in
    (λ n z. ap is_some (stops n z), λ n z. ap left_open (stops n z) ∙ ap awaited_parts (sym c.clear.ensures.items))

pub parts-preserved : goal.parts-preserved
parts-preserved c n z =
    let k = terminal_with n z c.args.class in
    sym (skipped c.parts.stack.items c.pop.new.self.items c.in-Some.part k c.in-Some.ensures.items
    (ap (λ o. option_map opened_parts o) (sym c.in_default-opened.is) ∙ c.entered-optional.ensures.opened n z ∙ ap (λ r. enters r.1 k) c.rules.ensures) (sym c.if-not-optional.false ∙ c.entered-optional.ensures.optional ∙ ap (λ r. r.0) c.rules.ensures))
    ∙ c.parts.invariant n z
