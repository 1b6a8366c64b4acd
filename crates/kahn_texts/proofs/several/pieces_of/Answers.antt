use Rattle.kahn_texts.proofs.Common.{rules}
use Rattle.kahn_texts.proofs.Cut.{one_piece}
use Rattle.kahn_texts.proofs.several.pieces_of.Goals as goal

pub loop-rest-preserved : goal.loop-rest-preserved
loop-rest-preserved c =
    one_piece c.loop-rest.pieces.items c.push.new.self.items c.loop-rest.rest c.split_at-first.result.0 c.split_at-first.result.1 _ (search rules) c.split_at-first.ensures.whole c.loop-rest.invariant
