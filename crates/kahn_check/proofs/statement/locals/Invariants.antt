use Rattle.kahn_check.proofs.Common.{◌≡◌, ◌++◌, [], map, drop, Value, locals_of, scope_of, entries, twice}
use Rattle.kahn_check.proofs.statement.locals.Given as goal

abbrev pub invariant-loop-parameter : goal.invariant-loop-parameter
invariant-loop-parameter l =
    let rest = map (λ q. (q.name, q.taking)) (drop l.parameter-index l.process.parameters.items) ++ map (λ v. (v.name, Value v.kind)) l.process.variables.items in
    record {
      same : twice l.scope rest ≡ twice [] (locals_of l.process);
      all : l.scope ++ entries rest ≡ scope_of l.process;
    }

abbrev pub invariant-loop-variable : goal.invariant-loop-variable
invariant-loop-variable l =
    let rest = map (λ v. (v.name, Value v.kind)) (drop l.variable-index l.process.variables.items) in
    record {
      same : twice l.scope rest ≡ twice [] (locals_of l.process);
      all : l.scope ++ entries rest ≡ scope_of l.process;
    }
