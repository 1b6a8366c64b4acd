use Rattle.kahn_job.proofs.feed.Feed.regrow.Given as goal

abbrev pub ghost-named : goal.ghost-named
ghost-named g a = g.name
