use Rattle.kahn_crew.proofs.Common.{arith, ◌≡◌, ◌<◌, ◌∙◌, sym, subst, Some, None, IsWellWired, Writes, Program, wires, network_of, instance_at, actual_at, Tasked, IsAtWork, terms_of}
use Rattle.kahn_crew.proofs.{Wirings.writer_is, Wirings.written_inside, Wirings.written_so, Publishing.flushed_few, Publishing.nothing_written, Working.in_hand, Working.inside_lent, Working.told, Working.written_here}
use Rattle.kahn_crew.proofs.worker.publish_one.Goals as goal

pub target-requires-clause-code : goal.target-requires-clause-code
target-requires-clause-code c = let fits = c.args.run.now.fits in fits.code ∙ sym fits.network

pub target-requires-clause-inside : goal.target-requires-clause-inside
target-requires-clause-inside c = inside_lent c.args.run.now c.args.p c.requires.works.2.inside

pub publish-requires-clause-board : goal.publish-requires-clause-board
publish-requires-clause-board c = c.requires.works.2.seated

pub publish-requires-clause-holds : goal.publish-requires-clause-holds
publish-requires-clause-holds c = let w = c.requires.works in (w.0, 0, None, w.2.holds)

pub publish-requires-clause-writes : goal.publish-requires-clause-writes
publish-requires-clause-writes c =
    let run = c.args.run.now in
    let well = subst IsWellWired run.fits.network c.program-program.ensures.wired in
    let t = (terms_of run).network.value in
    let p = c.args.p in
    let o = c.args.parameter in
    let d = c.in_ok-channel.channel in
    let w = c.requires.works in
    let hand = in_hand run p w.0 w.1 c.args.task.now c.args.seat.now w.2 in
    let written = written_here run p o (Some d) c.in_ok-channel.ensures in
    let here : actual_at (instance_at (network_of t) p) o ≡ Writes d = (written_so (network_of t) (actual_at (instance_at (network_of t) p) o) d written).0 in
    let inside = written_inside t well p o d here in
    let counts = run.board.now.counts.1 in
    let few = flushed_few t well c.args.task.now p o d hand.1 written c.parameters.ensures.job c.parameters.ensures.counts hand.2 in
    let count = c.flushed-count.ensures in
    (omega (arith, inside, counts), writer_is t well p o d here, omega (arith, few, count))

pub reader_of-requires : goal.reader_of-requires
reader_of-requires c =
    let run = c.args.run.now in
    let well = subst IsWellWired run.fits.network c.program-program.ensures.wired in
    let t = (terms_of run).network.value in
    let p = c.args.p in
    let o = c.args.parameter in
    let d = c.in_ok-channel.channel in
    let written = written_here run p o (Some d) c.in_ok-channel.ensures in
    let here : actual_at (instance_at (network_of t) p) o ≡ Writes d = (written_so (network_of t) (actual_at (instance_at (network_of t) p) o) d written).0 in
    subst (λ (x : Program). d < (wires x).channels) (sym run.fits.network) (written_inside t well p o d here)

pub returns-in_err-channel-clause-published : goal.returns-in_err-channel-clause-published
returns-in_err-channel-clause-published c =
    let run = c.args.run.now in
    let well = subst IsWellWired run.fits.network c.program-program.ensures.wired in
    let p = c.args.p in
    let o = c.args.parameter in
    let w = c.requires.works in
    nothing_written (terms_of run).network.value well c.args.task.now p o (in_hand run p w.0 w.1 c.args.task.now c.args.seat.now w.2).1 (written_here run p o None c.in_err-channel.ensures)

pub returns-clause-works : goal.returns-clause-works
returns-clause-works c = λ n k a.
    let run = c.args.run.now in
    let well = subst IsWellWired run.fits.network c.program-program.ensures.wired in
    let lists = c.parameters.ensures.lists.0 in
    let width = c.parameters.ensures.width in
    let inside = c.requires.inside in
    subst (λ (y : Tasked). IsAtWork run c.args.p n k y c.publish.new.seat) (sym c.mark.ensures)
    (told run well c.args.p n k c.args.parameter c.in_ok-channel.channel c.flushed-count.result c.args.task.now c.args.seat.now c.publish.new.seat a
    (c.publish.ensures.holds n 0 None a.holds) c.publish.ensures.same.0 c.publish.ensures.tells (written_here run c.args.p c.args.parameter (Some c.in_ok-channel.channel) c.in_ok-channel.ensures)
    (omega (arith, lists, width, inside)))
