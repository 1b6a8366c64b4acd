use Rattle.std.proofs.Common.{rules, sym, subst, length, ◌≡◌}
use Rattle.std.specs.VecDeque.{deque_capacity}
use Rattle.kahn_code.proofs.Begin.{first_brought, first_holds}
use Rattle.kahn_code.proofs.Common.{Channel, Holds}
use Rattle.kahn_code.proofs.queue.Queue.bring_token.Goals as goal

pub named_token-requires : goal.named_token-requires
named_token-requires g c =
    let q = c.self.inside in
    let none : length q.tokens.items ≡ 0 = search rules in
    subst (λ v. Holds q.network.value q.input.value (Channel q.channel) q.taken v) (sym c.of-word.ensures)
    (first_holds q.network.value q.input.value q.channel q.taken q.tokens.items q.given.now c.in-Some.rest.now c.in-Some.value.now c.self.invariant.2 none c.in-Some.ensures.cases.0)

pub invariant_of-self : goal.invariant_of-self
invariant_of-self g c =
    let q = c.self.inside in
    let none : length q.tokens.items ≡ 0 = search rules in
    rw (c.push_back_reserved.ensures.items, c.push_back_reserved.ensures.capacity, c.of-first.ensures)
    (first_brought q.network.value q.input.value q.channel q.taken q.tokens.items q.given.now c.in-Some.rest.now c.in-Some.value.now (deque_capacity q.tokens) c.named_token.result
    c.self.invariant none c.in-Some.ensures.cases.0 c.named_token.ensures.names c.named_token.ensures.here.0 c.named_token.ensures.here.1)
