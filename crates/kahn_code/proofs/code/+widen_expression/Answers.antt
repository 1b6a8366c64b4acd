use Rattle.kahn_code.proofs.Common.{rules, ◌≡◌, ◌+◌, max, drop, ◌∷◌, ap, arith, IfOk-equal, common_steps, names_of, expression_of, the_lemmas, need}
use Rattle.kahn_code.proofs.Widths.{operands_need, level_need}
use Rattle.kahn_code.proofs.code.+widen_expression.Goals as goal

pub loop-operand-init : goal.loop-operand-init
loop-operand-init g t c =
    let names = names_of c.args._process.now in
    let e = c.in_ok-widen_expression-in-Level.ensures in
    let whole : need (expression_of names c.args.expression.now) ≡ max (need (expression_of names c.deref-in-Level.result.now)) (operands_need names c.deref-operand-items.result.now) = search (rules, the_lemmas, level_need) in
    (omega (arith, whole, e.width), e.past)

pub returns-in_ok-widen_expression-in-Conditional-2-clause-width : goal.returns-in_ok-widen_expression-in-Conditional-2-clause-width
returns-in_ok-widen_expression-in-Conditional-2-clause-width g t c =
    let names = names_of c.args._process.now in
    let whole : need (expression_of names c.args.expression.now) ≡ max (need (expression_of names c.deref-in-Conditional.result.now)) (max (need (expression_of names c.deref-in-Conditional-2.result.now)) (need (expression_of names c.deref-in-Conditional-3.result.now))) = search (rules, the_lemmas) in
    IfOk-equal _ _ _ _ c.widen_expression-in-Conditional-3.ensures.width (omega (arith, whole, c.in_ok-widen_expression-in-Conditional.ensures.width, c.in_ok-widen_expression-in-Conditional-2.ensures.width))

pub loop-operand-preserved : goal.loop-operand-preserved
loop-operand-preserved g t c =
    let names = names_of c.args._process.now in
    let l = c.loop-operand in
    let all = c.deref-operand-items.result.now in
    let split : drop l.operand-index all ≡ c.operand-item.result ∷ drop (l.operand-index + 1) all = grind (arith, common_steps) in
    let e = c.in_ok-widen_expression-in-Level-2.ensures in
    (omega (arith, ap (operands_need names) split, e.width, l.invariant.0), omega (arith, e.width, l.invariant.1))
