use Rattle.kahn_warnings.proofs.Common.{append-nil, arith, common_steps, sym}
use Rattle.kahn_warnings.proofs.program.warnings.Goals as goal

pub loop-declaration-init : goal.loop-declaration-init
loop-declaration-init c = (c.in_ok-warnings.warnings.items, c.in_ok-warnings.ensures, sym (append-nil c.in_ok-warnings.warnings.items))

pub loop-declaration-preserved : goal.loop-declaration-preserved
loop-declaration-preserved c =
    let (comments, are, so_far) = c.loop-declaration.invariant in
    (comments, are, grind (arith, common_steps, so_far, c.in_ok-add_declaration.ensures))

pub loop-span-init : goal.loop-span-init
loop-span-init c =
    let (comments, are, so_far) = c.loop-declaration.invariant in
    (comments, are, grind (arith, common_steps, so_far))

pub loop-span-preserved : goal.loop-span-preserved
loop-span-preserved c =
    let (comments, are, so_far) = c.loop-span.invariant in
    (comments, are, grind (arith, common_steps, so_far, c.in_ok-add_warning.ensures))

pub returns : goal.returns
returns c =
    let (comments, are, so_far) = c.loop-span.invariant in
    (comments, are, c.deref-span-items.result.now, grind (arith, common_steps, so_far))
