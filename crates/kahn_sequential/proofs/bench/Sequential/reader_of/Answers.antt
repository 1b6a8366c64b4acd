use Rattle.kahn_sequential.proofs.Common.{arith, subst, None, Some, Table, network_of, sight_of, IsOnlyReader}
use Rattle.kahn_sequential.proofs.Noted.{none_past, reads_none, reads_one}
use Rattle.kahn_sequential.proofs.bench.Sequential.reader_of.Goals as goal

pub returns-then-channel-channels : goal.returns-then-channel-channels
returns-then-channel-channels c =
    subst (λ (b : Table). IsOnlyReader (sight_of b).network c.args.channel None) c.self.view_is
    (none_past c.self.inside.network.now c.self.invariant.wired c.args.channel (λ l. let t = c.if-channel-channels.true in let n = c.channels.ensures in absurd (omega (arith, l, t, n))))

pub returns-in-Some : goal.returns-in-Some
returns-in-Some c =
    subst (λ (b : Table). IsOnlyReader (sight_of b).network c.args.channel (Some c.in-Some.side.instance)) c.self.view_is
    (reads_one (network_of c.self.inside.network.now) c.args.channel c.in-Some.side c.in-Some.ensures.only)

pub returns-in-None : goal.returns-in-None
returns-in-None c =
    subst (λ (b : Table). IsOnlyReader (sight_of b).network c.args.channel None) c.self.view_is (reads_none (network_of c.self.inside.network.now) c.args.channel c.in-None.ensures.only)
