use Rattle.kahn_texts.proofs.Characters.{repeated_more}
use Rattle.kahn_texts.proofs.shown.add_repeated.Goals as goal

pub loop-time-preserved : goal.loop-time-preserved
loop-time-preserved c = repeated_more c.loop-time._time c.args.piece.now _ _ _ c.loop-time.invariant c.in_ok-push_str.ensures.bytes
