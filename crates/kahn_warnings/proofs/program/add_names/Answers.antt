use Rattle.kahn_streams.specs.View.{bytes_of}
use Rattle.kahn_warnings.proofs.Common.{ap, append-nil, arith, common_steps, flat_map, parameter_warnings, sym, take, ◌++◌, ◌∙◌, ◌≡◌}
use Rattle.kahn_warnings.proofs.program.add_names.Goals as goal

pub loop-variable-init : goal.loop-variable-init
loop-variable-init c =
    let old = c.args.warnings.now.items in
    let p = c.args.process.now in
    let all : take c.loop-parameter.parameter-index p.parameters.items ≡ p.parameters.items = grind (arith, common_steps) in
    c.loop-parameter.invariant ∙ ap (λ l. old ++ flat_map (parameter_warnings p) l) all ∙ sym (append-nil (old ++ flat_map (parameter_warnings p) p.parameters.items))

pub loop-parameter-preserved : goal.loop-parameter-preserved
loop-parameter-preserved c =
    let at = bytes_of c.parameter-item.result.name in
    let used = c.has.ensures ∙ c.in_ok-names.ensures.used at in
    let assigned = c.has-in-loop-parameter.ensures ∙ c.in_ok-names.ensures.assigned at in
    let added = rw (c.name_kind-kind.ensures, used, assigned) at c.in_ok-add_warning.ensures in
    grind (arith, common_steps, c.loop-parameter.invariant, added)

pub loop-variable-preserved : goal.loop-variable-preserved
loop-variable-preserved c =
    let at = bytes_of c.variable-item.result.name in
    let used = c.has-in-loop-variable.ensures ∙ c.in_ok-names.ensures.used at in
    let assigned = c.has-in-loop-variable-2.ensures ∙ c.in_ok-names.ensures.assigned at in
    let added = rw (c.name_kind-kind-in-loop-variable.ensures, used, assigned) at c.in_ok-add_warning-2.ensures in
    grind (arith, common_steps, c.loop-variable.invariant, added)
