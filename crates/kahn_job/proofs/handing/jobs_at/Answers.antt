use Rattle.kahn_job.proofs.Common.{◌≡◌, ℕ, ◌+◌, ap, arith, length, network_of, refl, subst, sym, ◌∙◌, rows_of, placed, IsAhead, ServesAt}
use Rattle.kahn_job.proofs.{Begun.all_bare, Begun.all_at, Handed.AreHanded, Handed.handed_more}
use Rattle.kahn_job.proofs.handing.jobs_at.Goals as goal

pub loop-channel-init : goal.loop-channel-init
loop-channel-init c =
    (all_bare c.args.network.now c.args.input.now c.args.watch (ServesAt c.args.network.now c.args.input.now c.args.queues.now.queues) IsAhead (omega arith, λ w. refl) c.in_ok-idles.idles.items c.in_ok-idles.ensures, refl)

pub loop-channel-preserved : goal.loop-channel-preserved
loop-channel-preserved c =
    let i = c.loop-channel.invariant in
    let t = c.args.network.now in
    let w = c.in_ok-writer.writer in
    let r = c.in_ok-writer.reader in (
      subst (AreHanded t (ServesAt c.args.network.now c.args.input.now c.args.queues.now.queues) IsAhead (c.loop-channel.channel + 1)) (sym (c.place-in-loop-channel.ensures.rows ∙ ap (λ rows. placed rows c.reader.result r) c.place.ensures.rows))
          (handed_more t c.program-program.ensures.wired (ServesAt c.args.network.now c.args.input.now c.args.queues.now.queues) IsAhead c.loop-channel.channel w r c.in_ok-writer.ensures (rows_of c.loop-channel.idles.items) i.0
          c.writer.result c.reader.result c.writer.ensures.only c.reader.ensures.only),
      c.place-in-loop-channel.ensures.cells ∙ c.place.ensures.cells ∙ i.1,
    )

pub returns : goal.returns
returns c =
    let k = c.loop-channel in
    let last = c.channels-channel-end.ensures in
    let many = k.auto.channel-end in
    let few = c.loop-channel-test.false in
    let all : k.channel ≡ length (network_of c.args.network.now).channels = omega (arith, last, many, few) in
    all_at c.args.network.now c.program-program.ensures.wired c.args.input.now c.args.watch c.args.queues.now.queues c.in_ok-idles.idles.items k.idles.items c.in_ok-idles.ensures k.invariant.1
    (subst (λ (n : ℕ). AreHanded c.args.network.now (ServesAt c.args.network.now c.args.input.now c.args.queues.now.queues) IsAhead n (rows_of k.idles.items)) all k.invariant.0)
