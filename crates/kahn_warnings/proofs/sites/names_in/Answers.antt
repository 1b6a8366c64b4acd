use Rattle.kahn_warnings.proofs.Common.{[], arith, common_steps, contains, drop, is_assigned_in, is_used_in, list_any, sym, ◌+◌, ◌||◌, ◌∙◌, ◌∷◌, ◌≡◌}
use Rattle.kahn_warnings.proofs.Lists.{any_done, any_next, body_is_assigned_in, body_is_used_in, is_so}
use Rattle.kahn_warnings.proofs.sites.names_in.Goals as goal

pub loop-statement-init : goal.loop-statement-init
loop-statement-init c =
    let ss = c.args.process.now.statements.items in
    let same = c.deref-statement-items.ensures.value in (
      λ x. (λ i. contains (c.new-used.ensures i) x || list_any (is_so (is_used_in 0) (x ∷ [])) (same i)) ∙ sym (body_is_used_in (x ∷ []) ss),
      λ x. (λ i. contains (c.new-assigned.ensures i) x || list_any (is_so (is_assigned_in 0) (x ∷ [])) (same i)) ∙ sym (body_is_assigned_in (x ∷ []) ss),
    )

pub loop-statement-preserved : goal.loop-statement-preserved
loop-statement-preserved c =
    let ss = c.deref-statement-items.result.now in
    let i = c.loop-statement.statement-index in
    let next : drop i ss ≡ c.statement-item.result ∷ drop (i + 1) ss = grind (arith, common_steps) in (
      λ x. any_next (is_so (is_used_in 0) (x ∷ [])) _ _ _ (c.loop-statement.invariant.0 x) _ _ _ next (c.in_ok-add_both.ensures.used x),
      λ x. any_next (is_so (is_assigned_in 0) (x ∷ [])) _ _ _ (c.loop-statement.invariant.1 x) _ _ _ next (c.in_ok-add_both.ensures.assigned x),
    )

pub returns : goal.returns
returns c =
    let none : drop c.loop-statement.statement-index c.deref-statement-items.result.now ≡ [] = grind (arith, common_steps) in record {
      used = λ x. any_done (is_so (is_used_in 0) (x ∷ [])) _ _ _ (c.loop-statement.invariant.0 x) none;
      assigned = λ x. any_done (is_so (is_assigned_in 0) (x ∷ [])) _ _ _ (c.loop-statement.invariant.1 x) none;
    }
