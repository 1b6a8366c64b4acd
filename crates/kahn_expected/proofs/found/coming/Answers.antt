use Rattle.kahn_expected.proofs.Common.{AllMayCome, And, Contains-append_left, Contains-push, IsToldIfItComes, Word, [], ap, arith, awaited_parts, get_or, length, sym, terminals, ◌<◌, ◌∙◌, ◌∷◌}
use Rattle.kahn_expected.proofs.{Classes.all_grown, Classes.one_less, Classes.one_more, Walking.may_come, Walking.none_comes}
use Rattle.kahn_expected.proofs.found.coming.Goals as goal
use Rattle.kahn_expected.proofs.found.coming.Goals.{then-branch+in_ok-push, else-branch}

pub loop-class-preserved : goal.loop-class-preserved
loop-class-preserved c text =
    let ks = terminals text c.args.before.now in
    let some = c.args.some.now in
    let i = c.loop-class.class-index in
    let x = get_or some i (Word And) in
    let old = c.loop-class.wanted.items in
    let new = c.if-branch.wanted.items in
    let s = c.deref.result.now in
    let may = c.in_ok-may_pass.field-0 in
    let below : i < length some = omega arith in
    let is = c.in_ok-stack.ensures text ∙ ap awaited_parts (sym c.deref.ensures.value) in
    elim c.if-branch.branch [
      | then-branch+in_ok-push w ↦
          one_more (AllMayCome ks) (IsToldIfItComes ks) some i (Word And) old new (λ y d k p. Contains-append_left old (y ∷ []) d (k p)) below
          (cc (w.wanted-is, w.in_ok-push.ensures.items)) (may_come ks s x may is c.in_ok-may_pass.ensures w.if-branch.true) (λ p. Contains-push old x) (c.loop-class.invariant text)
      | else-branch w ↦
          one_less (AllMayCome ks) (IsToldIfItComes ks) some i (Word And) old new below (cc (w.wanted-is))
          (λ p. absurd (none_comes ks s x may is c.in_ok-may_pass.ensures w.if-branch.false p)) (c.loop-class.invariant text)
    ]

pub returns : goal.returns
returns c text =
    let ks = terminals text c.args.before.now in
    all_grown (AllMayCome ks) (IsToldIfItComes ks) c.args.some.now c.loop-class.class-index c.loop-class.wanted.items (omega arith) (c.loop-class.invariant text)
