-- The lines of the channels so far were added.
use Rattle.kahn_web.proofs.Common.{◌≡◌, channels_text}
use Rattle.kahn_web.proofs.whole.written.Given as goal

abbrev pub invariant-loop-channel : goal.invariant-loop-channel
invariant-loop-channel l = l.written.items ≡ channels_text l.network l.run l.channel
