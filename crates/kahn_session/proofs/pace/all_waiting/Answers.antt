use Rattle.kahn_session.proofs.Common.{arith, rules, ◌≡◌, ◌+◌, ◌<◌, ◌++◌, ◌∷◌, [], List, drop, length, subst, sym, Global, Vec, flow_lines, Value, Line, next_of, waiting_from, kept_values}
use Rattle.kahn_session.proofs.Waiting.{kept_more}
use Rattle.kahn_session.proofs.pace.all_waiting.Goals as goal

pub loop-number-preserved : goal.loop-number-preserved
loop-number-preserved c =
    let p = c.args.run.now in
    let lines = flow_lines p.flow.run in
    let columns = c.args.columns.now in
    let number = c.loop-number.number in
    let v = c.in_ok-waiting_of.field-0 in
    let all = waiting_from (next_of p) c.args.count columns 0 lines in
    let within : number < length c.lines-lines.result.now = omega (arith, c.loop-number-test.true, c.loop-number.auto.number-end) in
    let below = subst (λ (l : List Line). number < length l) c.lines-lines.ensures within in
    let pushed : c.push.new.self.items ≡ c.loop-number.left.items ++ (v ∷ []) = search rules in
    subst (λ (l : List (Vec Value Global)). kept_values l ++ waiting_from (next_of p) c.args.count columns (number + 1) (drop (number + 1) lines) ≡ all) (sym pushed)
    (kept_more (next_of p) c.args.count columns lines number c.loop-number.left.items v all below c.loop-number.invariant c.in_ok-waiting_of.ensures)
