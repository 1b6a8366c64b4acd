use Rattle.kahn_session.proofs.refusal.write_said.Goals as goal

pub returns : goal.returns
returns g c = rw c.origin_words.ensures at c.put.ensures
