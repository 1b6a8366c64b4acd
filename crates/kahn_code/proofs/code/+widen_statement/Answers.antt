use Rattle.kahn_code.proofs.Common.{rules, ◌≡◌, ◌+◌, max, ◌∷◌, drop, ap, arith, IfOk-equal, common_steps, names_of, expression_of, statement_of, need, depth}
use Rattle.kahn_streams.specs.declared.tree.Action.TheViews.{the_lemmas}
use Rattle.kahn_code.proofs.Widths.{rows_depth, block_depth}
use Rattle.kahn_code.proofs.code.+widen_statement.Goals as goal

pub loop-inner-init : goal.loop-inner-init
loop-inner-init g t c =
    let names = names_of c.args._process.now in
    let deep : depth (statement_of names c.args.statement.now) ≡ rows_depth names c.deref-inner-items.result.now = search (rules, the_lemmas, block_depth) in
    omega (arith, deep)

pub loop-inner-preserved : goal.loop-inner-preserved
loop-inner-preserved g t c =
    let l = c.loop-inner in
    let all = c.deref-inner-items.result.now in
    let split : drop l.inner-index all ≡ c.inner-item.result ∷ drop (l.inner-index + 1) all = grind (arith, common_steps) in
    omega (arith, ap (rows_depth (names_of c.args._process.now)) split, c.in_ok-widen_statement-in-Block.ensures, l.invariant)

pub returns-in-Some : goal.returns-in-Some
returns-in-Some g t c =
    let names = names_of c.args._process.now in
    let whole : depth (statement_of names c.args.statement.now) ≡ max (need (expression_of names c.in-If.test)) (max (depth (statement_of names c.deref.result.now)) (depth (statement_of names c.deref-in-Some.result.now))) = search (rules, the_lemmas) in
    IfOk-equal _ _ _ _ c.widen_statement-in-Some.ensures (omega (arith, whole, c.in_ok-widen_expression-in-If.ensures.width, c.in_ok-widen_statement-in-If.ensures))

pub returns-in-None : goal.returns-in-None
returns-in-None g t c =
    let names = names_of c.args._process.now in
    let whole : depth (statement_of names c.args.statement.now) ≡ max (need (expression_of names c.in-If.test)) (max (depth (statement_of names c.deref.result.now)) 0) = search (rules, the_lemmas) in
    omega (arith, whole, c.in_ok-widen_expression-in-If.ensures.width, c.in_ok-widen_statement-in-If.ensures)

pub returns-in_ok-widen_expression-in-While : goal.returns-in_ok-widen_expression-in-While
returns-in_ok-widen_expression-in-While g t c =
    let names = names_of c.args._process.now in
    let whole : depth (statement_of names c.args.statement.now) ≡ max (need (expression_of names c.in-While.test)) (depth (statement_of names c.deref-in-While.result.now)) = search (rules, the_lemmas) in
    IfOk-equal _ _ _ _ c.widen_statement-in-While.ensures (omega (arith, whole, c.in_ok-widen_expression-in-While.ensures.width))
