use Rattle.kahn_sequential.proofs.Common.{◌≡◌, ◌+◌, ◌≤◌, ◌++◌, map, take, token_value}
use Rattle.kahn_sequential.proofs.flow.lend.Given as goal

abbrev pub invariant-loop-number : goal.invariant-loop-number
invariant-loop-number l = record {
  values : map token_value l.tokens.items ≡ map token_value l.fn.tokens.items ++ take l.number l.values;
  room : l.fn.tokens.spare ≤ l.tokens.spare + l.number;
}
