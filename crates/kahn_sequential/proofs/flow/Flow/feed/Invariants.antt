use Rattle.kahn_sequential.proofs.Poured_in.{poured_lists}
use Rattle.kahn_sequential.proofs.flow.Flow.feed.Given as goal

abbrev pub ghost-pour : goal.ghost-pour
ghost-pour a = poured_lists a.channel a.values.now a.self.now.input
