use Rattle.kahn_crew.proofs.Common.{arith, ◌<◌, ◌==◌, ◌∙◌, ap, dite, length, sym, true≢false, ℕ_discrete}
use Rattle.kahn_crew.proofs.Crewed.{told_among}
use Rattle.kahn_crew.proofs.crew.+run_from.Goals as goal

pub returns-then-not-may_wait-clause-quits : goal.returns-then-not-may_wait-clause-quits
returns-then-not-may_wait-clause-quits g t c = λ _.
    let rest = c.pop.new.self in
    let some : 0 < length rest.items = dite (ℕ_discrete rest.len 0)
    (λ none. absurd (true≢false (sym (c.is_empty.ensures ∙ ap (λ n. n == 0) none) ∙ c.if-is_empty.false))) (λ ne. omega (arith, ne, rest.ok.0)) in
    let e = c.halt_all-workers.ensures in
    told_among (g.T.Parallel.quit c.args.shared.now) c.args.workers.items rest.items c.push_reserved-then-not-may_wait.new.self.items c.halt_all-workers.result.items c.in-Some.worker c.work.result
    c.in-Some.ensures.items c.push_reserved-then-not-may_wait.ensures.items e.count (0, some, λ d. e.each 0 d some)

pub returns-else-not-may_wait-clause-quits : goal.returns-else-not-may_wait-clause-quits
returns-else-not-may_wait-clause-quits g t c = λ missed.
    let e = c.run_from-workers-in-Err.ensures in
    told_among (g.T.Parallel.quit c.args.shared.now) c.args.workers.items c.pop.new.self.items c.push_reserved-in-Err.new.self.items
    c.run_from-workers-in-Err.result.0.items c.in-Some.worker c.work-in-Err.result c.in-Some.ensures.items c.push_reserved-in-Err.ensures.items
    e.worked.0 (e.quits missed)
