use Rattle.std.proofs.Common.{arith}
use Rattle.kahn_expected.proofs.Gaps.{all_passed, lexeme_passed}
use Rattle.kahn_expected.proofs.comments.comments_of.Goals as goal

pub loop-lexeme-preserved : goal.loop-lexeme-preserved
loop-lexeme-preserved c =
    let l = c.loop-lexeme in
    lexeme_passed c.as_bytes-bytes.result.now c.args.text.now c.deref-lexeme-items.result.now l.lexeme-index _ l.at l.comments.items c.add_gap.new.comments.items
    c.as_bytes-bytes.ensures.value (omega (arith, c.loop-lexeme-test.true, l.auto.lexeme-index-end)) l.invariant.0 l.invariant.1 c.in_ok-add_gap.ensures

pub returns : goal.returns
returns c =
    let l = c.loop-lexeme in
    all_passed c.as_bytes-bytes.result.now c.args.text.now l.at l.comments.items c.add_gap-2.new.comments.items
    c.as_bytes-bytes.ensures.value l.invariant.1 c.in_ok-add_gap-2.ensures
