use Rattle.kahn_sequential.proofs.Common.{◌∙◌, ap, rules, slice_get, Lines as Queues, sight_of, taken_of}
use Rattle.kahn_sequential.specs.inner.Recording.{IsCountOf}
use Rattle.kahn_sequential.proofs.Recording.{counts_more, taken_seen}
use Rattle.kahn_sequential.proofs.counted.counts_of.Goals as goal

pub loop-channel-preserved : goal.loop-channel-preserved
loop-channel-preserved c =
    let i = c.loop-channel.invariant in
    let n = c.loop-channel.channel in
    let sent = c.sent_on-sent.result in
    let taken = c.taken-taken.result in
    let is : IsCountOf (sight_of c.args.bench.now) n (record { sent = sent; taken = taken }) = record {
      sent = c.sent_on-sent.ensures;
      taken = λ p q r.
          c.taken-taken.ensures ∙ (ap (λ (x : Queues). taken_of (slice_get x.queues n)) c.queues.ensures ∙ taken_seen c.args.bench.now c.stood.ensures.laid p q n r);
    } in
    record {
      are = counts_more (sight_of c.args.bench.now) c.loop-channel.counts.items c.push_reserved.new.self.items n (record { sent = sent; taken = taken }) i.are is c.push_reserved.ensures.items;
      room = search rules;
    }
