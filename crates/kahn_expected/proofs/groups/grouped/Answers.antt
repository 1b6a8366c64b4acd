use Rattle.std.proofs.Common.{◌≡◌, ◌++◌, All, Contains, ap, subst, sym, ◌∙◌}
use Rattle.kahn_expected.proofs.Classes.{all_grouped}
use Rattle.kahn_expected.proofs.groups.grouped.Goals as goal

pub returns : goal.returns
returns c =
    let o = c.in_ok-others.ensures in
    let g = c.in_ok-groups.ensures in
    let same = sym c.deref.ensures.value in
    all_grouped c.args.classes.now c.deref.result.now c.in_ok-others.others.items
    (record { groups = c.in_ok-groups.groups; others = c.in_ok-others.others })
    (ap (λ l. l ++ c.in_ok-others.others.items) (sym g.0 ∙ same))
    (subst (All (Contains c.args.classes.now)) same g.1)
    o.0 o.1
