use Rattle.kahn_sequential.proofs.Common.{rules, ◌∙◌, length-set}
use Rattle.kahn_sequential.proofs.{Lists.all_changed, Lists.next_old, Lists.one_changed, Recording.adds_one, Recording.all_added}
use Rattle.kahn_sequential.proofs.counted.add_sent.Goals as goal

pub add_sent_on-requires-clause-short : goal.add_sent_on-requires-clause-short
add_sent_on-requires-clause-short c =
    c.requires.each c.loop-channel.channel c.index_mut.result.now (next_old c.loop-channel.invariant.changed (search rules) c.index_mut.ensures.value)

pub loop-channel-preserved : goal.loop-channel-preserved
loop-channel-preserved c =
    let i = c.loop-channel.invariant in
    let n = c.loop-channel.channel in
    let x = c.index_mut.result.now in
    let y = c.add_sent_on.new.stream in
    let short = c.requires.each n x (next_old i.changed (search rules) c.index_mut.ensures.value) in
    record {
      changed = one_changed i.changed (search rules) c.index_mut.ensures.value (adds_one c.args.network.now c.args.queues.now n x y short c.in_ok-add_sent_on.ensures);
      size = length-set c.loop-channel.streams.items n y ∙ i.size;
    }

pub returns : goal.returns
returns c =
    all_added c.args.network.now c.args.queues.now c.args.streams.now.items c.loop-channel.streams.items c.requires (all_changed c.loop-channel.invariant.changed (search rules))
