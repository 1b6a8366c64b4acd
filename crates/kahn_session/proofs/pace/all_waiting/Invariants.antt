-- What waits of the streams so far, and of those that are left, is all that waits.
use Rattle.kahn_session.proofs.Common.{◌≡◌, ◌++◌, drop, flow_lines, next_of, waiting_from, kept_values}
use Rattle.kahn_session.proofs.pace.all_waiting.Given as goal

abbrev pub invariant-loop-number : goal.invariant-loop-number
invariant-loop-number l =
    kept_values l.left.items ++ waiting_from (next_of l.run) l.count l.columns l.number (drop l.number (flow_lines l.run.flow.run))
    ≡ waiting_from (next_of l.run) l.count l.columns 0 (flow_lines l.run.flow.run)
