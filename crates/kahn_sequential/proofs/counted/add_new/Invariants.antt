-- All tokens before this one.
use Rattle.kahn_sequential.proofs.Common.{◌≡◌, ◌+◌, length, slice_get, taken_of, AreTokensOf}
use Rattle.kahn_sequential.proofs.counted.add_new.Given as goal

abbrev pub invariant-loop-number : goal.invariant-loop-number
invariant-loop-number l = record {
  right : AreTokensOf l.queues.network l.queues.input l.channel l.tokens.items;
  long : length l.tokens.items ≡ taken_of (slice_get l.queues.queues l.channel) + l.number;
}
