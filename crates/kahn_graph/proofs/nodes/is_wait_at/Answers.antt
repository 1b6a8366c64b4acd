use Rattle.kahn_graph.proofs.Common.{false, network_of, refl, sym, true}
use Rattle.kahn_streams.specs.declared.answer.Outcome.TheVariants.{Ended}
use Rattle.kahn_graph.proofs.Marked.{wait_at}
use Rattle.kahn_graph.proofs.nodes.is_wait_at.Goals as goal

pub returns-then-not-rings-instance : goal.returns-then-not-rings-instance
returns-then-not-rings-instance c =
    wait_at (network_of c.args._network.now) c.args.ends.now c.args.rings.now c.requires.known c.args.channel c.args.instance false false (record { outcome = Ended; events = 0 }) _ c.requires.here
    c.if-not-rings-instance.true refl

pub returns : goal.returns
returns c =
    wait_at (network_of c.args._network.now) c.args.ends.now c.args.rings.now c.requires.known c.args.channel c.args.instance false true _ _ c.requires.here
    c.if-not-rings-instance.false (sym c.waits_on.ensures)
