use Rattle.kahn_warnings.proofs.Common.{Option, Scope, Value, [], ap, append-nil, append_assoc, arith, common_steps, constant_of, drop, expression_of, form_sites, sym, ◌++◌, ◌∙◌, ◌≡◌, rules, the_lemmas}
use Rattle.kahn_warnings.proofs.Folding.{level_constant, level_folds, level_sited, operands_sites}
use Rattle.kahn_warnings.proofs.sites.+add_expression.Goals as goal

pub loop-operand-init : goal.loop-operand-init
loop-operand-init t c =
    let old = c.args.sites.now.items in
    let e = c.args.expression.now in
    let f = c.in-Level.first.value in
    let xs = c.in-Level.rest.items in
    let ss = c.deref-operand-items.result.now in
    let left = c.in_ok-left-in-Level.left in
    let whole : form_sites e.form ≡ form_sites f.form ++ operands_sites (constant_of (expression_of [] f)) xs = search (rules, the_lemmas, level_sited) in
    let known : left ≡ constant_of (expression_of [] f) =
    ◌∙◌ {A = Option Value} (c.in_ok-left-in-Level.ensures.value []) (ap (λ x. constant_of (expression_of [] x)) c.deref-in-Level.ensures) in
    let value : (names : Scope) → level_constant names left ss ≡ constant_of (expression_of names e) = λ names. search (rules, the_lemmas, level_folds, c.in_ok-left-in-Level.ensures.value) in record {
      sites =
          ap (λ l. l ++ operands_sites left ss) (c.in_ok-left-in-Level.ensures.sites ∙ ap (λ x. old ++ form_sites x.form) c.deref-in-Level.ensures)
          ∙ append_assoc old (form_sites f.form) (operands_sites left ss)
          ∙ ap (λ l. old ++ (form_sites f.form ++ l)) (ap (λ v. operands_sites v ss) known ∙ ap (operands_sites (constant_of (expression_of [] f))) c.deref-operand-items.ensures.value)
          ∙ ap (λ l. old ++ l) (sym whole);
      value = value;
    }

pub returns-after-loop-operand-clause-sites : goal.returns-after-loop-operand-clause-sites
returns-after-loop-operand-clause-sites t c =
    let sites = c.loop-operand.sites.items in
    let ss = c.deref-operand-items.result.now in
    let none : drop c.loop-operand.operand-index ss ≡ [] = grind (arith, common_steps) in
    sym (append-nil sites) ∙ ap (λ rest. sites ++ operands_sites c.loop-operand.left rest) (sym none) ∙ c.loop-operand.invariant.sites
