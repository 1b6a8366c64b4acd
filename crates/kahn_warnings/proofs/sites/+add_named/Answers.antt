use Rattle.kahn_warnings.proofs.Common.{[], ap, arith, common_steps, contains, drop, expression_of, is_named, list_any, sym, ◌+◌, ◌||◌, ◌∙◌, ◌∷◌, ◌≡◌, rules, the_lemmas, or_assoc}
use Rattle.kahn_warnings.proofs.Lists.{any_done, any_next, is_named_in, level_named}
use Rattle.kahn_warnings.proofs.sites.+add_named.Goals as goal

pub loop-operand-init : goal.loop-operand-init
loop-operand-init t c x =
    let names = x ∷ [] in
    let had = contains c.args.names.now x in
    let f = c.in-Level.first.value in
    let whole : is_named 0 (expression_of names c.args.expression.now) ≡ is_named 0 (expression_of names f) || list_any (is_named_in names) c.in-Level.rest.items = search (rules, the_lemmas, level_named) in
    let told = c.in_ok-add_named-in-Level.ensures x ∙ ap (λ e. had || is_named 0 (expression_of names e)) c.deref-in-Level.ensures in
    (λ i. told i || list_any (is_named_in names) (c.deref-operand-items.ensures.value i)) ∙ or_assoc had _ _ ∙ ap (λ b. had || b) (sym whole)

pub loop-operand-preserved : goal.loop-operand-preserved
loop-operand-preserved t c x =
    let ss = c.deref-operand-items.result.now in
    let i = c.loop-operand.operand-index in
    let next : drop i ss ≡ c.operand-item.result ∷ drop (i + 1) ss = grind (arith, common_steps) in
    any_next (is_named_in (x ∷ [])) _ _ _ (c.loop-operand.invariant x) _ _ _ next (c.in_ok-add_named-in-Level-2.ensures x)

pub returns-after-loop-operand : goal.returns-after-loop-operand
returns-after-loop-operand t c x =
    let none : drop c.loop-operand.operand-index c.deref-operand-items.result.now ≡ [] = grind (arith, common_steps) in
    any_done (is_named_in (x ∷ [])) _ _ _ (c.loop-operand.invariant x) none
