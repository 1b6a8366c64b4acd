use Rattle.kahn_job.proofs.Common.{ℕ, ◌<◌, network_of, HaveMet, rows_of, AreBehindOn}
use Rattle.kahn_job.proofs.handing.meet.Given as goal

abbrev pub invariant-loop-channel : goal.invariant-loop-channel
invariant-loop-channel l = HaveMet l.initial.idles.items l.idles.items × ((c : ℕ) → c < l.channel → AreBehindOn (network_of l.network) (rows_of l.initial.idles.items) c)
