use Rattle.kahn_job.proofs.Common.{arith, reads_listed, rows_of}
use Rattle.kahn_job.proofs.{Settles.rests_met}
use Rattle.kahn_job.proofs.handing.meet.Goals as goal

pub meet_on-requires-clause-resting : goal.meet_on-requires-clause-resting
meet_on-requires-clause-resting c =
    let r = c.requires in
    (r.0, rests_met c.args.network.now r.0 (rows_of c.args.idles.items) (rows_of c.loop-channel.idles.items) c.loop-channel.invariant.0.rows r.1)

pub returns-clause-behind : goal.returns-clause-behind
returns-clause-behind c d p r o q i j =
    let least = c.loop-channel-test.false in
    let most = c.loop-channel.auto.channel-end in
    let end = c.channels-channel-end.ensures in
    let l = reads_listed c.args.network.now c.program-program.ensures.wired r q d j in
    c.loop-channel.invariant.1 d (omega (arith, least, most, end, l)) p r o q i j
