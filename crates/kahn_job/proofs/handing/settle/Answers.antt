use Rattle.kahn_job.proofs.Common.{arith, ◌≡◌, length, ◌∙◌, subst, network_of, rows_of}
use Rattle.kahn_job.proofs.{Idles.all_settled, Settles.AreGoing, Settles.going_on}
use Rattle.kahn_job.proofs.handing.settle.Goals as goal

pub loop-channel-preserved : goal.loop-channel-preserved
loop-channel-preserved c = (
  going_on c.args.network.now c.program-program.ensures.wired c.args.input.now c.loop-channel.channel (rows_of c.args.idles.now.items) (rows_of c.loop-channel.idles.items)
      (rows_of c.settle_channel.new.idles.items) c.loop-channel.invariant.0 c.in_ok-settle_channel.ensures.ends,
  c.settle_channel.ensures.cells ∙ c.loop-channel.invariant.1,
)

pub returns-clause-settled : goal.returns-clause-settled
returns-clause-settled c =
    let least = c.loop-channel-test.false in
    let most = c.loop-channel.auto.channel-end in
    let end = c.channels-channel-end.ensures in
    let all : c.loop-channel.channel ≡ length (network_of c.args.network.now).channels = omega (arith, least, most, end) in
    all_settled c.args.network.now c.program-program.ensures.wired c.args.input.now (rows_of c.args.idles.now.items) (rows_of c.loop-channel.idles.items)
    (subst (λ k. AreGoing c.args.network.now c.args.input.now k (rows_of c.args.idles.now.items) (rows_of c.loop-channel.idles.items)) all c.loop-channel.invariant.0)
