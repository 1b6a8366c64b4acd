use Rattle.kahn_code.proofs.Common.{◌≡◌, ◌++◌, map, drop, network_of, actuals_of, channel_names, opening_of, use_of}
use Rattle.kahn_code.proofs.code.add_arguments.Given as goal

abbrev pub invariant-loop-number : goal.invariant-loop-number
invariant-loop-number g l = record {
  uses : (l.uses.items ++ map (use_of (network_of l.network)) (actuals_of (channel_names l.network) (drop l.number l.parameters) (drop l.number l.arguments)))
      ≡ (l.fn.uses.items ++ map (use_of (network_of l.network)) (actuals_of (channel_names l.network) l.parameters l.arguments));
  handed : (l.handed.items ++ map opening_of (actuals_of (channel_names l.network) (drop l.number l.parameters) (drop l.number l.arguments)))
      ≡ (l.fn.handed.items ++ map opening_of (actuals_of (channel_names l.network) l.parameters l.arguments));
}
