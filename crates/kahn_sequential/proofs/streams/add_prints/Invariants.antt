use Rattle.kahn_sequential.proofs.Common.{◌≡◌, ◌++◌, drop, network_of, print_lines}
use Rattle.kahn_sequential.proofs.streams.add_prints.Given as goal

abbrev pub invariant-loop-instance : goal.invariant-loop-instance
invariant-loop-instance l =
    l.lines.items ++ print_lines (drop l.instance (network_of l.network).instances) l.instance ≡ l.fn.lines.items ++ print_lines (network_of l.network).instances 0
