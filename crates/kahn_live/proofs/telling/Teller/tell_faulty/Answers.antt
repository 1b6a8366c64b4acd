use Rattle.kahn_live.proofs.telling.Teller.tell_faulty.Goals as goal

pub returns : goal.returns
returns g c = rw c.in-Some.is (rw (c.format-digits.ensures.text, c.process_name-name.ensures, c.network.ensures, c.saturating_sub.ensures, c.failure_words.ensures) at c.say.ensures)
