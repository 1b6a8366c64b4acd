use Rattle.kahn_streams.proofs.token.Token.of_word.Goals as goal

pub invariant_of-result : goal.invariant_of-result
invariant_of-result g c = record { stands = rw (c.named.ensures, c.named-2.ensures) c.requires }
