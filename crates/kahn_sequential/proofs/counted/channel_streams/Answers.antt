use Rattle.std.proofs.Common.{rules}
use Rattle.kahn_sequential.proofs.Recording.{channels_more}
use Rattle.kahn_sequential.proofs.counted.channel_streams.Goals as goal

pub loop-channel-preserved : goal.loop-channel-preserved
loop-channel-preserved c =
    let i = c.loop-channel.invariant in
    let e = c.in_ok-opening_stream.ensures in
    record {
      are = channels_more c.args.network.now c.args.input.now c.loop-channel.streams.items c.push_reserved.new.self.items c.loop-channel.channel c.in_ok-opening_stream.field-0 i.are e.line e.given c.push_reserved.ensures.items;
      room = search rules;
    }
