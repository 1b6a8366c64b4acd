use Rattle.kahn_live.proofs.running.plain_streams.Goals as goal

pub returns-in-Some : goal.returns-in-Some
returns-in-Some c = rw c.in-Some.is (rw c.as_bytes.ensures.value at c.stream_numbers.ensures)
