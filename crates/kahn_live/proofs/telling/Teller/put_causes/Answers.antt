use Rattle.kahn_live.proofs.Common.{inl, inr, string_bytes}
use Rattle.kahn_live.proofs.telling.Teller.put_causes.Goals as goal

pub returns-in-Ok : goal.returns-in-Ok
returns-in-Ok g c = inl (string_bytes c.in-Ok.words, c.in-Ok.ensures, rw c.as_str-in-Ok.ensures.value at c.put_lines.ensures)

pub returns-in-Err : goal.returns-in-Err
returns-in-Err g c = inr c.say.ensures
