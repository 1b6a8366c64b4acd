use Rattle.std.proofs.Common.{slice_get}
use Rattle.kahn_code.proofs.Common.{arith, ◌≡◌, ◌+◌, ◌<◌, ◌^◌, length, pos, Some, subst, slice_get-get_or, slice_index_or, Integer, inputs_of}
use Rattle.kahn_code.proofs.queue.give_all.Goals as goal

pub give-requires-clause-input : goal.give-requires-clause-input
give-requires-clause-input g c =
    let i = c.loop-number.invariant in
    let within : c.loop-number.number < length c.args.values.now = omega (arith, c.loop-number-test.true) in
    rw (i.network, i.channel) (c.requires.given c.loop-number.number _ (slice_get-get_or c.args.values.now c.loop-number.number (Integer (pos 0)) within)).0

pub give-requires-clause-here : goal.give-requires-clause-here
give-requires-clause-here g c =
    let q = c.args.queue.now in
    let l = c.loop-number.queue in
    let i = c.loop-number.invariant in
    let within : c.loop-number.number < length c.args.values.now = omega (arith, c.loop-number-test.true) in
    let h = c.requires.given c.loop-number.number _ (slice_get-get_or c.args.values.now c.loop-number.number (Integer (pos 0)) within) in
    let place : q.taken + q.waiting + c.loop-number.number ≡ l.taken + l.waiting = omega (arith, i.taken, i.waiting) in
    rw (i.input, i.channel) (subst (λ k. slice_get (inputs_of q.input q.channel) k ≡ Some (slice_index_or c.args.values.now c.loop-number.number (Integer (pos 0)))) place h.1)

pub give-requires-clause-few : goal.give-requires-clause-few
give-requires-clause-few g c =
    let q = c.args.queue.now in
    let l = c.loop-number.queue in
    let i = c.loop-number.invariant in
    let within : c.loop-number.number < length c.args.values.now = omega (arith, c.loop-number-test.true) in
    let h = c.requires.given c.loop-number.number _ (slice_get-get_or c.args.values.now c.loop-number.number (Integer (pos 0)) within) in
    let place : q.taken + q.waiting + c.loop-number.number ≡ l.taken + l.waiting = omega (arith, i.taken, i.waiting) in
    subst (λ k. k < 2 ^ 64) place h.2
