use Rattle.kahn_job.proofs.Common.{◌≡◌, ◌+◌, Some, lane_name, receiver_lane, sender_lane, sender_name, sent}
use Rattle.kahn_job.proofs.handing.ends_at.Given as goal

abbrev pub invariant-loop-number : goal.invariant-loop-number
invariant-loop-number l = record {
  lane : sender_lane l.sender ≡ receiver_lane l.receiver;
  name : sender_name l.sender ≡ Some (lane_name l.network l.input l.channel);
  sent : sent l.sender ≡ l.taken + l.number;
}
