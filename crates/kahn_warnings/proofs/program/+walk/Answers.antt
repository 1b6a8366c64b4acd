use Rattle.kahn_warnings.proofs.Common.{[], action_sites, ap, arith, body_of, common_steps, drop, flat_map, is_seen, list_warnings, never_ends, statement_of, statement_warnings, sym, take_all, ◌++◌, ◌+◌, ◌||◌, ◌∙◌, ◌∷◌, ◌≡◌, rules}
use Rattle.std.proofs.lemmas.Result.{IfOk-weaker}
use Rattle.kahn_streams.specs.declared.tree.Action.TheViews.{the_lemmas}
use Rattle.kahn_warnings.proofs.Folding.{row_sited, sites_of}
use Rattle.kahn_warnings.proofs.Lists.{all_told, any_done, any_next, block_body, block_statement, body_is_seen, body_never_ends, each, is_so, one_on}
use Rattle.kahn_warnings.proofs.program.+walk.Goals as goal

pub add_list-loop-statement-preserved : goal.add_list-loop-statement-preserved
add_list-loop-statement-preserved t c =
    let l = c.loop-statement in
    let ss = c.args.statements.now in
    let s = c.statement-item.result in
    let course = c.in_ok-course in
    let next : drop l.statement-index ss ≡ s ∷ drop (l.statement-index + 1) ss = grind (arith, common_steps) in record {
      warnings = grind (arith, common_steps, l.invariant.warnings, course.ensures.warnings);
      sites = grind (arith, common_steps, l.invariant.sites, course.ensures.sites);
      place = one_on l.ends course.course.0 l.place _ s _ _ next c.place_on-place.ensures (course.ensures.ends []) ∙ l.invariant.place;
      ends = λ names. any_next (is_so never_ends names) _ _ _ (l.invariant.ends names) s _ _ next (ap (λ b. l.ends || b) (course.ensures.ends names));
      seen = λ names. any_next (is_so is_seen names) _ _ _ (l.invariant.seen names) s _ _ next (ap (λ b. l.seen || b) (course.ensures.seen names));
    }

pub add_list-returns : goal.add_list-returns
add_list-returns t c =
    let l = c.loop-statement in
    let ss = c.args.statements.now in
    let none : drop l.statement-index ss ≡ [] = grind (arith, common_steps) in record {
      warnings = all_told _ _ _ l.ends l.place l.statement-index ss (omega arith) l.invariant.warnings l.invariant.place c.in_ok-add_warning.ensures;
      sites = l.invariant.sites ∙ ap (λ k. c.args.sites.now.items ++ flat_map sites_of k) (take_all l.statement-index ss (omega arith));
      ends = λ names. any_done (is_so never_ends names) _ _ _ (l.invariant.ends names) none ∙ sym (body_never_ends names ss);
      seen = λ names. any_done (is_so is_seen names) _ _ _ (l.invariant.seen names) none ∙ sym (body_is_seen names ss);
    }

pub add_statement-returns-in-Block : goal.add_statement-returns-in-Block
add_statement-returns-in-Block t c =
    let xs = c.in-Block.statements.items in
    let it = c.args.statement.now in
    let same = c.deref.ensures.value in
    let told : statement_warnings it.span it.action ≡ flat_map each xs ++ list_warnings xs = search (rules, the_lemmas, block_statement) in
    let sited : action_sites it.action ≡ flat_map sites_of xs = search (rules, the_lemmas, row_sited) in
    let list = c.add_list in record {
      warnings =
          IfOk-weaker list.result _ _
          (λ x h. h ∙ ap (λ ss. c.args.warnings.now.items ++ (flat_map each ss ++ list_warnings ss)) same ∙ ap (λ ws. c.args.warnings.now.items ++ ws) (sym told))
          list.ensures.warnings;
      sites =
          IfOk-weaker list.result _ _
          (λ x h. h ∙ ap (λ ss. c.args.sites.now.items ++ flat_map sites_of ss) same ∙ ap (λ l. c.args.sites.now.items ++ l) (sym sited))
          list.ensures.sites;
      ends =
          IfOk-weaker list.result _ _
          (λ x h names.
          let whole : statement_of names it ≡ body_of names xs = search (rules, the_lemmas, block_body) in
          h names ∙ ap (λ ss. never_ends (body_of names ss)) same ∙ ap never_ends (sym whole))
          list.ensures.ends;
      seen =
          IfOk-weaker list.result _ _
          (λ x h names.
          let whole : statement_of names it ≡ body_of names xs = search (rules, the_lemmas, block_body) in
          h names ∙ ap (λ ss. is_seen (body_of names ss)) same ∙ ap is_seen (sym whole))
          list.ensures.seen;
    }
