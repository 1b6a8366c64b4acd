use Rattle.std.proofs.Common.{◌≡◌, ◌+◌}
use Rattle.kahn_code.proofs.queue.give_all.Given as goal

abbrev pub invariant-loop-number : goal.invariant-loop-number
invariant-loop-number g l = record {
  network : l.queue.network ≡ l.fn.queue.network;
  input : l.queue.input ≡ l.fn.queue.input;
  channel : l.queue.channel ≡ l.fn.queue.channel;
  taken : l.queue.taken ≡ l.fn.queue.taken;
  waiting : l.queue.waiting ≡ l.fn.queue.waiting + l.number;
  spare : l.queue.spare + l.number ≡ l.fn.queue.spare;
}
