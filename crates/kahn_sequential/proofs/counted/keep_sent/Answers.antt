use Rattle.kahn_sequential.proofs.counted.keep_sent.Goals as goal

pub returns-clause-kept : goal.returns-clause-kept
returns-clause-kept c v e = (c.in-Some.streams, let f = c.in-Some.ensures.value in cc)
