use Rattle.kahn_job.proofs.Common.{rows_of}
use Rattle.kahn_job.proofs.Settles.{can_feed, can_settle, feed_settled, output_settled}
use Rattle.kahn_job.proofs.handing.settle_channel.Goals as goal

pub settle_lane-requires-clause-lane : goal.settle_lane-requires-clause-lane
settle_lane-requires-clause-lane c =
    can_settle c.args.network.now c.program-program.ensures.wired c.args.input.now (rows_of c.args.idles.now.items) c.requires.resting c.args.channel
    c.in-Some-writer.writer c.in-Some.reader c.in-Some-writer.ensures.only c.in-Some.ensures.only

pub settle_feed-requires-clause-feed : goal.settle_feed-requires-clause-feed
settle_feed-requires-clause-feed c =
    can_feed c.args.network.now c.program-program.ensures.wired c.args.input.now (rows_of c.args.idles.now.items) c.requires.resting c.args.channel
    c.in-Some.reader c.in-None-writer.ensures.only c.in-Some.ensures.only

pub returns-in-None-writer-clause-ends : goal.returns-in-None-writer-clause-ends
returns-in-None-writer-clause-ends c =
    feed_settled c.args.network.now c.program-program.ensures.wired c.args.input.now (rows_of c.args.idles.now.items) c.requires.resting c.args.channel
    c.in-Some.reader c.in-None-writer.ensures.only c.in-Some.ensures.only (rows_of c.settle_feed.new.idles.items) c.settle_feed.ensures.ends

pub returns-in-None-clause-ends : goal.returns-in-None-clause-ends
returns-in-None-clause-ends c =
    output_settled c.args.network.now c.program-program.ensures.wired c.args.input.now (rows_of c.args.idles.now.items) c.requires.resting c.args.channel c.requires.here
    c.in-None.ensures.only
