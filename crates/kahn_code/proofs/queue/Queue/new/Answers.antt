use Rattle.std.proofs.Common.{arith, ◌≡◌, ◌<◌, ◌∙◌, []}
use Rattle.std.specs.VecDeque.{deque_capacity}
use Rattle.kahn_code.proofs.queue.Queue.new.Goals as goal

pub invariant_of-result : goal.invariant_of-result
invariant_of-result g c =
    let none : c.reserve.new.self.items ≡ [] = c.reserve.ensures.items ∙ c.new-tokens.ensures.items in
    let room : 0 < deque_capacity c.reserve.new.self = omega (arith, c.in_ok-reserve.ensures.ok) in
    rw (c.named.ensures, c.named-2.ensures, none) (tt, tt, c.requires.1, room)
