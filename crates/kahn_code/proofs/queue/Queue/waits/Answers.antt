use Rattle.std.proofs.Common.{slice_get}
use Rattle.kahn_code.proofs.Common.{arith, ◌≡◌, ◌+◌, ◌-◌, ◌<◌, ◌∙◌, ap, length, pos, Some, refl, sym, subst, slice_get-get_or, slice_get_read, slice_index_or, Channel, Holds, Integer, Token, Waiting}
use Rattle.kahn_code.proofs.Begin.{begins_at, followed_at, given_holds}
use Rattle.kahn_code.proofs.queue.Queue.waits.Goals as goal

pub overflow_add-place : goal.overflow_add-place
overflow_add-place g c =
    let q = c.self.inside in
    let inside = subst (λ (w : Waiting). c.args.number < w.waiting) (sym c.self.view_is) c.requires in
    let k = c.args.number - length q.tokens.items in
    let within : k < length q.given.now = omega (arith, inside, c.if-number-len.true, c.len.ensures) in
    let h = c.self.invariant.2 k _ (slice_get-get_or q.given.now k (Integer (pos 0)) within) in
    omega (arith, h.2, c.if-number-len.true, c.len.ensures)

pub named_token-requires : goal.named_token-requires
named_token-requires g c =
    let q = c.self.inside in
    let inside = subst (λ (w : Waiting). c.args.number < w.waiting) (sym c.self.view_is) c.requires in
    let k = c.args.number - length q.tokens.items in
    let within : k < length q.given.now = omega (arith, inside, c.if-number-len.true, c.len.ensures) in
    let place : q.taken + length q.tokens.items + k ≡ q.taken + c.args.number = omega (arith, c.if-number-len.true, c.len.ensures) in
    let behind : k ≡ c.args.number - c.len-then-number-len.result = omega (arith, c.len-then-number-len.ensures) in
    let holds = given_holds q.network.value q.input.value q.channel (q.taken + length q.tokens.items) k q.given.now _ c.self.invariant.2 (slice_get-get_or q.given.now k (Integer (pos 0)) within) in
    subst (λ v. Holds q.network.value q.input.value (Channel q.channel) (q.taken + c.args.number) v) (ap (λ j. slice_index_or q.given.now j (Integer (pos 0))) behind ∙ sym c.of-word.ensures)
    (subst (λ n. Holds q.network.value q.input.value (Channel q.channel) n (slice_index_or q.given.now k (Integer (pos 0)))) place holds)

pub overflow_add-place-2 : goal.overflow_add-place-2
overflow_add-place-2 g c =
    let q = c.self.inside in
    let inside : c.args.number < length q.tokens.items = omega (arith, c.if-number-len.false, c.len.ensures) in
    let at = slice_get_read q.tokens.items (length q.tokens.items) c.args.number c.index-carried.result.now refl inside c.index-carried.ensures in
    let place = (followed_at (Channel q.channel) q.taken c.args.number q.tokens.items c.index-carried.result.now c.self.invariant.0 at).1 in
    omega (arith, place, c.counted.ensures)

pub token-token-requires : goal.token-token-requires
token-token-requires g c =
    let q = c.self.inside in
    let inside : c.args.number < length q.tokens.items = omega (arith, c.if-number-len.false, c.len.ensures) in
    let at = slice_get_read q.tokens.items (length q.tokens.items) c.args.number c.index-carried.result.now refl inside c.index-carried.ensures in
    followed_at (Channel q.channel) q.taken c.args.number q.tokens.items c.index-carried.result.now c.self.invariant.0 at

pub lift-requires-clause-names : goal.lift-requires-clause-names
lift-requires-clause-names g c =
    let q = c.self.inside in
    let inside : c.args.number < length q.tokens.items = omega (arith, c.if-number-len.false, c.len.ensures) in
    let at = slice_get_read q.tokens.items (length q.tokens.items) c.args.number c.index-carried.result.now refl inside c.index-carried.ensures in
    begins_at q.network.value q.input.value c.args.number q.tokens.items c.token-token.result c.self.invariant.1
    (subst (λ (t : Token). slice_get q.tokens.items c.args.number ≡ Some t) (sym c.token-token.ensures) at)

pub lift-requires-clause-here : goal.lift-requires-clause-here
lift-requires-clause-here g c =
    let q = c.self.inside in
    let inside : c.args.number < length q.tokens.items = omega (arith, c.if-number-len.false, c.len.ensures) in
    let at = slice_get_read q.tokens.items (length q.tokens.items) c.args.number c.index-carried.result.now refl inside c.index-carried.ensures in
    followed_at (Channel q.channel) q.taken c.args.number q.tokens.items c.token-token.result c.self.invariant.0
    (subst (λ (t : Token). slice_get q.tokens.items c.args.number ≡ Some t) (sym c.token-token.ensures) at)
