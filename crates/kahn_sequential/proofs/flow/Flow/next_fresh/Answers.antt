use Rattle.kahn_sequential.proofs.Common.{rules, ◌≡◌, ℕ, ◌<◌, ◌≤◌, length, true, subst, sym, Flowing, flow_of, IsStale, IsNumberOf, is_in}
use Rattle.kahn_sequential.proofs.Flowed.{stale}
use Rattle.kahn_sequential.proofs.flow.Flow.next_fresh.Goals as goal

pub returns-clause-stale : goal.returns-clause-stale
returns-clause-stale c =
    let i = c.self.inside in
    let known : i.turned.known ≡ true = search rules in
    let none : length i.given.items ≡ 0 = search rules in
    subst (λ (f : Flowing). (j : ℕ) → c.args.from ≤ j → j < c.least_of.result → IsStale f j) c.self.view_is
    (subst (λ n. (j : ℕ) → c.args.from ≤ j → j < c.least_of.result → IsStale (flow_of i.bench i.plan i.verdict n) j) (sym none)
    (stale i.bench i.plan i.verdict i.turned i.numbers.items known c.self.invariant.spent c.self.invariant.numbered c.args.from c.least_of.result
    (λ p j k m le. c.least_of.ensures.least p j (subst (λ l. is_in l p) (sym c.deref-2.ensures.value) k) (subst (λ l. IsNumberOf l p j) (sym c.deref.ensures.value) m) le)))
