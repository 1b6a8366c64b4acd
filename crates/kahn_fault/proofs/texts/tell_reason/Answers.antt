use Rattle.kahn_fault.proofs.texts.tell_reason.Goals as goal

pub returns : goal.returns
returns g c = rw (c.as_bytes.ensures.value, c.as_bytes-2.ensures.value) at c.write_line.ensures
