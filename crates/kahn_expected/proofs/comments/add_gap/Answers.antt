use Rattle.kahn_expected.proofs.Gaps.{after_comment, behind_blank, behind_comment, gap_le, light_of, passed_blank, passed_comment}
use Rattle.kahn_expected.proofs.comments.add_gap.Goals as goal

pub gap-init : goal.gap-init
gap-init c = (gap_le _ _ _ c.requires.gap, c.requires.gap, λ a p. p)

pub gap-preserved-then-is_blank : goal.gap-preserved-then-is_blank
gap-preserved-then-is_blank c =
    let dark = c.is_blank.ensures.0 c.if-is_blank.true in
    let rest = behind_blank _ _ _ c.gap.invariant.1 c.gap-test.true dark in
    (gap_le _ _ _ rest, rest, λ a p. passed_blank _ _ _ _ (c.gap.invariant.2 a p) dark)

pub comment_end-end-requires : goal.comment_end-end-requires
comment_end-end-requires c =
    let h = behind_comment _ _ _ c.gap.invariant.1 c.gap-test.true (light_of c.is_blank.result _ c.is_blank.ensures.1 c.if-is_blank.false) in
    (h.0, h.1)

pub gap-preserved : goal.gap-preserved
gap-preserved c =
    let rest = after_comment c.args.text.now c.gap.at c.args.to c.comment_end-end.result c.gap.invariant.1 c.gap-test.true
    (light_of c.is_blank.result _ c.is_blank.ensures.1 c.if-is_blank.false) c.comment_end-end.ensures in
    (rest.1, rest.0, λ a p. passed_comment _ _ _ _ _ _ (c.gap.invariant.2 a p) c.comment_end-end.ensures c.in_ok-push.ensures.items)
