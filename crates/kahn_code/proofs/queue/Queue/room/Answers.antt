use Rattle.std.specs.VecDeque.{deque_capacity, deque_len}
use Rattle.kahn_code.proofs.Begin.{none_given}
use Rattle.kahn_code.proofs.Common.{arith, ◌≡◌, ◌+◌, ◌-◌, ◌<◌, length, sym, subst, Input, network_of, role_at, spare_before, Waiting}
use Rattle.kahn_code.proofs.queue.Queue.room.Goals as goal

pub returns-then-len-capacity-clause-room : goal.returns-then-len-capacity-clause-room
returns-then-len-capacity-clause-room g c =
    let q = c.self.inside in
    let inner = subst (λ (w : Waiting). role_at (network_of w.network) w.channel ≡ Input → ⊥) (sym c.self.view_is) c.requires in
    let none = none_given q.network.value q.input.value q.channel (q.taken + length q.tokens.items) q.given.now inner c.self.invariant.2 in
    let here : 0 < deque_capacity q.tokens - deque_len q.tokens = omega (arith, c.if-len-capacity.true, c.len.ensures, c.capacity.ensures) in
    subst (λ (w : Waiting). 0 < w.spare) c.self.view_is (subst (λ vs. 0 < spare_before vs (deque_capacity q.tokens - deque_len q.tokens)) (sym none) here)

pub returns-then-len-capacity-2-clause-room : goal.returns-then-len-capacity-2-clause-room
returns-then-len-capacity-2-clause-room g c =
    let q = c.self.inside in
    let ts = c.reserve-grown.new.self in
    let inner = subst (λ (w : Waiting). role_at (network_of w.network) w.channel ≡ Input → ⊥) (sym c.self.view_is) c.requires in
    let none = none_given q.network.value q.input.value q.channel (q.taken + length q.tokens.items) q.given.now inner c.self.invariant.2 in
    let here : 0 < deque_capacity ts - deque_len ts = omega (arith, c.if-len-capacity-2.true, c.len-2.ensures, c.capacity-2.ensures) in
    subst (λ vs. 0 < spare_before vs (deque_capacity ts - deque_len ts)) (sym none) here
