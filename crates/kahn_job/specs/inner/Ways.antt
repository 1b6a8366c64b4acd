-- Inner. What is seen of an end, by what it does.
use Rattle.std.specs.Prelude.{◌-◌}
use Rattle.kahn_job.specs.inner.Words.{ℕ, true, false, length, Some, None, Global, Program, Lists, inputs_of, Sender, Receiver, sender_lane, receiver_lane, sender_name, receiver_name, flushed, sent, filled, capacity, received, waiting, heard, left, lane_name}
use Rattle.kahn_job.specs.{inner.Ends.TaskEnd, declared.port.Way.Way}
use Rattle.kahn_job.specs.declared.port.Way.TheVariants as way

-- no end
abbrev pub no_end : TaskEnd
no_end = record { reads = false; writes = false; lane = None; name = None; next = 0; waiting = 0; known = 0; left = 0; asked = 0; flushed = 0; filled = 0; capacity = 0 }

-- the reader's end of a lane, and how many segments it knew to have left when it was last asked
abbrev pub taking : Receiver Global → ℕ → TaskEnd
taking r asked = record no_end {
  reads = true;
  lane = Some (receiver_lane r);
  name = receiver_name r;
  next = received r;
  waiting = waiting r;
  known = heard r;
  left = left r;
  asked = asked;
}

-- an input channel, whose list is known whole
abbrev pub feeding : Program → Lists → ℕ → ℕ → TaskEnd
feeding t lists channel next = record no_end {
  reads = true;
  name = Some (lane_name t lists channel);
  next = next;
  waiting = length (inputs_of lists channel) - next;
  known = length (inputs_of lists channel);
}

-- the writer's end of a lane
abbrev pub putting : Sender Global → TaskEnd
putting s = record no_end {
  writes = true;
  lane = Some (sender_lane s);
  name = sender_name s;
  next = sent s;
  flushed = flushed s;
  filled = filled s;
  capacity = capacity s;
}

abbrev pub end_of : Way → TaskEnd
end_of (way.Takes r asked) = taking r asked.value
end_of (way.Feeds f) = feeding f.network.value f.input.value f.channel f.next
end_of (way.Puts s) = putting s
end_of way.Nothing = no_end
