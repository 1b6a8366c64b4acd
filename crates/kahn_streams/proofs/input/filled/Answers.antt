use Rattle.kahn_streams.proofs.Common.{rules, arith, ◌≡◌, ap, ◌+◌, length, map, false, slice_index_or, length_push, map-append, err_from_is_err_and, Entry, entry_of, channel_of, IsFitHere, IsRefusedAt}
use Rattle.std.proofs.{lemmas.Iterator.Adapters.YieldsList-from_vec, lemmas.Iterator.Consumers.YieldsList-so_far, lemmas.Iterator.Consumers.YieldsList-turn}
use Rattle.kahn_streams.proofs.Entered.{more_filled, first_refused, made_fits, read_here, read_so_far}
use Rattle.kahn_streams.proofs.input.filled.Goals as goal

pub returns-in_err-channel-clause-made : goal.returns-in_err-channel-clause-made
returns-in_err-channel-clause-made c =
    let items = c.args.entries.items in
    let done = c.loop-name.yielded in
    let fault = c.in_err-channel.field-0.0 in
    let entry : Entry = entry_of (c.in-Some.name, c.in-Some.values) in
    let refused : IsRefusedAt c.args.network.now c.loop-name.given.items entry (c.loop-name.number + 1) fault = search rules in
    let road = YieldsList-from_vec {s = c.into_iter-name-iterator.result} items (search rules) (search rules) in
    let t = YieldsList-turn road done c.loop-name.name-iterator c.loop-name.yielded_by c.next.result c.next.new.self (c.in-Some.name, c.in-Some.values) c.in-Some.is c.next.ensures.steps in
    let it = first_refused c.args.network.now (map entry_of done) c.loop-name.given.items c.loop-name.input entry c.loop-name.invariant.filled
    (map entry_of items) (length done) (c.loop-name.number + 1) fault
    (read_here entry_of items (length done) (c.in-Some.name, c.in-Some.values) t.0 t.1)
    (read_so_far entry_of done items (YieldsList-so_far road done c.loop-name.name-iterator c.loop-name.yielded_by))
    (ap (λ n. n + 1) c.loop-name.invariant.number) refused in
    let p = err_from_is_err_and c.from_residual.result c.from_residual.ensures.1 in
    rw (p.1, p.2) it

pub loop-name-preserved : goal.loop-name-preserved
loop-name-preserved c =
    let entry : Entry = entry_of (c.in-Some.name, c.in-Some.values) in
    let done = c.loop-name.yielded in
    let e = length_push done (c.in-Some.name, c.in-Some.values) in
    let fit : IsFitHere c.args.network.now (slice_index_or c.loop-name.given.items (channel_of c.args.network.now entry) false) entry = search rules in
    let is : c.in_ok-channel.channel ≡ channel_of c.args.network.now entry = search rules in
    record {
      next = search rules;
      ends = search rules;
      number = omega (arith, c.loop-name.invariant.number, e);
      filled = rw (map-append, c.give.ensures) (more_filled c.args.network.now (map entry_of done) c.loop-name.given.items c.loop-name.input entry c.loop-name.invariant.filled c.in_ok-channel.channel is fit);
    }

pub returns-clause-fits : goal.returns-clause-fits
returns-clause-fits c =
    made_fits c.args.network.now (map entry_of c.loop-name.yielded) c.loop-name.input c.loop-name.invariant.filled.made
