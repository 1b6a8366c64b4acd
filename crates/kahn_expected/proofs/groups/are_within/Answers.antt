use Rattle.kahn_expected.proofs.Common.{All, All-more, And, Contains, Word, arith, subst, take_all}
use Rattle.kahn_expected.proofs.groups.are_within.Goals as goal

pub loop-class-preserved : goal.loop-class-preserved
loop-class-preserved c = All-more (Contains c.args.classes.now) c.args.some.now c.loop-class.class-index (Word And) (omega arith) c.loop-class.invariant c.if-not-has.ensures

pub returns : goal.returns
returns c = subst (All (Contains c.args.classes.now)) (take_all c.loop-class.class-index c.args.some.now (omega arith)) c.loop-class.invariant
