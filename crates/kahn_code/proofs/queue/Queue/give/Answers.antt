use Rattle.std.proofs.Common.{slice_get}
use Rattle.std.specs.VecDeque.{deque_capacity, deque_len}
use Rattle.kahn_streams.proofs.Given_values.{stands_given}
use Rattle.kahn_code.proofs.Begin.{none_before}
use Rattle.kahn_code.proofs.Common.{arith, ◌≡◌, ◌+◌, ◌-◌, ◌<◌, length, Some, sym, ap, subst, Channel, Holds, Input, network_of, role_at, inputs_of, spare_before, Waiting}
use Rattle.kahn_code.proofs.queue.Queue.give.Goals as goal

pub named_token-token-requires : goal.named_token-token-requires
named_token-token-requires g c =
    let q = c.self.inside in
    let room : 0 < spare_before q.given.now (deque_capacity q.tokens - deque_len q.tokens) = subst (λ (w : Waiting). 0 < w.spare) (sym c.self.view_is) c.requires.room in
    let none = ap length (none_before q.given.now _ room) in
    let role = subst (λ (w : Waiting). role_at (network_of w.network) w.channel ≡ Input) (sym c.self.view_is) c.requires.input in
    let here = subst (λ (w : Waiting). slice_get (inputs_of w.input w.channel) (w.taken + w.waiting) ≡ Some c.args.value) (sym c.self.view_is) c.requires.here in
    let place : q.taken + (length q.tokens.items + length q.given.now) ≡ q.taken + c.len.result = omega (arith, none, c.len.ensures) in
    subst (λ v. Holds q.network.value q.input.value (Channel q.channel) (q.taken + c.len.result) v) (sym c.of.ensures)
    (stands_given q.network.value q.input.value q.channel (q.taken + c.len.result) c.args.value role
    (subst (λ k. slice_get (inputs_of q.input.value q.channel) k ≡ Some c.args.value) place here))
