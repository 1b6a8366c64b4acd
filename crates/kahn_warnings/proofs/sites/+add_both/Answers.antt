use Rattle.kahn_warnings.proofs.Common.{[], ap, arith, assigned_by, common_steps, contains, drop, is_assigned_in, is_used_in, list_any, statement_of, sym, ◌+◌, ◌||◌, ◌∙◌, ◌∷◌, ◌≡◌, rules}
use Rattle.kahn_streams.specs.declared.tree.Action.TheViews.{the_lemmas}
use Rattle.kahn_warnings.proofs.Lists.{any_done, any_next, block_is_assigned_in, block_is_used_in, is_so}
use Rattle.kahn_warnings.proofs.sites.+add_both.Goals as goal

pub loop-inner-init : goal.loop-inner-init
loop-inner-init t c = (
  λ x.
      let whole : is_used_in 0 (statement_of (x ∷ []) c.args.statement.now) ≡ list_any (is_so (is_used_in 0) (x ∷ [])) c.in-Block.statements.items = search (rules, the_lemmas, block_is_used_in) in
      ap (λ l. contains c.args.used.now x || list_any (is_so (is_used_in 0) (x ∷ [])) l) c.deref-inner-items.ensures.value ∙ ap (λ b. contains c.args.used.now x || b) (sym whole),
  λ x.
      let whole : assigned_by c.args.statement.now.action x ≡ list_any (is_so (is_assigned_in 0) (x ∷ [])) c.in-Block.statements.items = search (rules, the_lemmas, block_is_assigned_in) in
      ap (λ l. contains c.args.assigned.now x || list_any (is_so (is_assigned_in 0) (x ∷ [])) l) c.deref-inner-items.ensures.value ∙ ap (λ b. contains c.args.assigned.now x || b) (sym whole),
)

pub loop-inner-preserved : goal.loop-inner-preserved
loop-inner-preserved t c =
    let ss = c.deref-inner-items.result.now in
    let i = c.loop-inner.inner-index in
    let next : drop i ss ≡ c.inner-item.result ∷ drop (i + 1) ss = grind (arith, common_steps) in (
      λ x. any_next (is_so (is_used_in 0) (x ∷ [])) _ _ _ (c.loop-inner.invariant.0 x) _ _ _ next (c.in_ok-add_both-in-Block.ensures.used x),
      λ x. any_next (is_so (is_assigned_in 0) (x ∷ [])) _ _ _ (c.loop-inner.invariant.1 x) _ _ _ next (c.in_ok-add_both-in-Block.ensures.assigned x),
    )

pub returns-after-loop-inner : goal.returns-after-loop-inner
returns-after-loop-inner t c =
    let none : drop c.loop-inner.inner-index c.deref-inner-items.result.now ≡ [] = grind (arith, common_steps) in record {
      used = λ x. any_done (is_so (is_used_in 0) (x ∷ [])) _ _ _ (c.loop-inner.invariant.0 x) none;
      assigned = λ x. any_done (is_so (is_assigned_in 0) (x ∷ [])) _ _ _ (c.loop-inner.invariant.1 x) none;
    }
