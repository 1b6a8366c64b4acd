use Rattle.kahn_check.proofs.Common.{arith, ap, sym, subst, ◌≡◌, ◌∙◌, ◌+◌, ◌∷◌, drop, common_steps, known, ArePlaced}
use Rattle.kahn_check.proofs.Global_names.{one_more_known, placed_more}
use Rattle.kahn_check.proofs.Told.{channel_told, full_or}
use Rattle.kahn_check.proofs.part.add_declaration.Goals as goal

pub loop-name-preserved : goal.loop-name-preserved
loop-name-preserved c =
    let i = c.loop-name.name-index in
    let names = c.deref-name-items.result.now in
    let split : drop i names ≡ c.name-item.result ∷ drop (i + 1) names = grind (arith, common_steps) in
    let here = rw split at c.loop-name.invariant.told in
    let grown = c.in_ok-keep-in-Channels.ensures in
    let found = full_or c.loop-name.left _ _ _ _ c.then_some-full.ensures c.twice.ensures in
    record {
      told = channel_told _ _ _ _ _ _ _ _ _ _ _ _ _ _ _ here (c.or.ensures ∙ found) c.in_ok-add-in-Channels.ensures (ap known grown ∙ one_more_known c.loop-name.globals _ _) c.saturating_sub-left.ensures;
      placed = λ ds h. subst (ArePlaced ds) (sym grown) (placed_more ds c.loop-name.globals _ _ (c.loop-name.invariant.placed ds h) tt);
    }

pub returns-after-loop-name-clause-placed : goal.returns-after-loop-name-clause-placed
returns-after-loop-name-clause-placed c = λ ds h at. c.loop-name.invariant.placed ds h
