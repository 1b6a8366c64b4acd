use Rattle.kahn_sequential.proofs.Common.{refl, sym, subst, IsLaid, table_of}
use Rattle.kahn_sequential.proofs.Laid.{laid_first, no_events}
use Rattle.kahn_sequential.proofs.bench.Sequential.new.Goals as goal

pub invariant_of-result : goal.invariant_of-result
invariant_of-result c =
    let t = c.args.network.now in
    let code = c.in_ok-code.code.network.value in
    let q = c.in_ok-queues in
    subst (λ l. IsLaid (table_of t l c.args.watch code c.in_ok-taps.taps.items q.queues)) (sym q.ensures.names.1)
    (laid_first t code c.args.input.now c.args.watch c.in_ok-taps.taps.items q.queues c.program-program.ensures.wired c.in_ok-code.ensures
    c.in_ok-taps.ensures.opening q.ensures.names q.ensures.first)

pub returns-clause-names : goal.returns-clause-names
returns-clause-names c = (refl, c.in_ok-queues.ensures.names.1, refl)

pub returns-clause-fresh : goal.returns-clause-fresh
returns-clause-fresh c = no_events _ (λ p x e. (c.in_ok-taps.ensures.opening.each p x e).events)
