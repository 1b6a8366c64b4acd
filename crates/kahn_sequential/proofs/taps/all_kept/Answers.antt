use Rattle.kahn_sequential.proofs.Common.{arith, ap, sym, ◌∙◌, subst, length, ◌∷◌, [], HaveChanged, IsLeft, length-append}
use Rattle.kahn_sequential.proofs.Lists.{changed_more}
use Rattle.kahn_sequential.proofs.taps.all_kept.Goals as goal

pub loop-tap-preserved : goal.loop-tap-preserved
loop-tap-preserved c =
    let i = c.loop-tap.invariant in
    let e = c.into_lists.ensures in
    let x = c.in-Some.tap in
    let k = c.into_lists.result in
    let kept = c.loop-tap.kept.items in (
      tt,
      tt,
      subst (HaveChanged IsLeft _) (sym c.push_reserved.ensures.items) (changed_more c.loop-tap.yielded kept x k i.2 (e.kept, e.printed, e.parameters)),
      c.push_reserved.ensures.capacity ∙ i.3,
      ap length c.push_reserved.ensures.items ∙ (let a = length-append kept (k ∷ []) in let b = length-append c.loop-tap.yielded (x ∷ []) in let l = i.4 in omega (arith, a, b, l)),
    )
