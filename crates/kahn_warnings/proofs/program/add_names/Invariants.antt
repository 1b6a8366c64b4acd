-- The warnings of the names so far were added.
use Rattle.kahn_warnings.proofs.Common.{flat_map, parameter_warnings, take, variable_warnings, ◌++◌, ◌≡◌}
use Rattle.kahn_warnings.proofs.program.add_names.Given as goal

abbrev pub invariant-loop-parameter : goal.invariant-loop-parameter
invariant-loop-parameter l = l.warnings.items ≡ l.initial.warnings.items ++ flat_map (parameter_warnings l.process) (take l.parameter-index l.process.parameters.items)

abbrev pub invariant-loop-variable : goal.invariant-loop-variable
invariant-loop-variable l =
    l.warnings.items
    ≡ (l.fn.warnings.items ++ flat_map (parameter_warnings l.process) l.process.parameters.items)
    ++ flat_map (variable_warnings l.process) (take l.variable-index l.process.variables.items)
