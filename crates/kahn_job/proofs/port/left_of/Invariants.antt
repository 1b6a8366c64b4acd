use Rattle.kahn_job.proofs.Common.{left}
use Rattle.kahn_job.proofs.port.left_of.Given as goal

abbrev pub ghost-named_count : goal.ghost-named_count
ghost-named_count a = left a._receiver.now
