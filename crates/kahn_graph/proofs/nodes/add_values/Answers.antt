use Rattle.kahn_graph.proofs.Common.{ap, append-nil, arith, at_index, drop, rules, string_bytes, sym, ◌++◌, ◌+◌, ◌∙◌}
use Rattle.kahn_graph.proofs.Named.{next_value, values_end}
use Rattle.kahn_graph.proofs.nodes.add_values.Goals as goal

pub loop-index-preserved : goal.loop-index-preserved
loop-index-preserved c =
    let qs = c.args.parameters.now in
    let xs = c.args.arguments.now in
    let k = c.loop-index.index in
    let q = c.index-parameters-index.result in
    let x = c.index-arguments-index.result in
    let same = next_value c.loop-index.before.now qs xs k q x (at_index qs k q (omega (arith, c.loop-index-test.true, c.min-index-end.ensures)) (search rules)) (at_index xs k x (omega (arith, c.loop-index-test.true, c.min-index-end.ensures)) (search rules)) in (
      search rules,
      c.in_ok-before.ensures (drop (k + 1) qs) (drop (k + 1) xs) ∙ (ap (λ l. string_bytes c.loop-index.text ++ l) (sym same) ∙ c.loop-index.invariant.1),
    )

pub returns : goal.returns
returns c =
    let none = values_end c.loop-index.before.now c.args.parameters.now c.args.arguments.now c.min-index-end.result c.loop-index.index c.min-index-end.ensures (omega (arith, c.loop-index-test.false)) in
    sym (append-nil (string_bytes c.loop-index.text)) ∙ (ap (λ l. string_bytes c.loop-index.text ++ l) (sym none) ∙ c.loop-index.invariant.1)
