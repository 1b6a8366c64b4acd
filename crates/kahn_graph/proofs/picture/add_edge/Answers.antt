use Rattle.kahn_streams.specs.Network.{network_of}
use Rattle.kahn_graph.proofs.{Named.edge_of, Named.reader_within, Named.writer_within, Texts.five_grown}
use Rattle.kahn_graph.proofs.picture.add_edge.Goals as goal

pub add_port-requires : goal.add_port-requires
add_port-requires c = writer_within (network_of c.args.network.now) c.args.channel c.writer-writer.result c.writer-writer.ensures.only

pub add_port-requires-2 : goal.add_port-requires-2
add_port-requires-2 c = reader_within (network_of c.args.network.now) c.args.channel c.reader-reader.result c.reader-reader.ensures.only

pub returns : goal.returns
returns c =
    let (tail, is_tail, after_tail) = c.in_ok-add_port.ensures in
    let (head, is_head, after_head) = c.in_ok-add_port-2.ensures in (
      _,
      edge_of c.args.network.now c.args.streams.now c.args.ends.now c.args.channel c.channel-found.result.name.now tail head c.channel-found.result.kind c.channel-found.result.role c.writer-writer.result c.reader-reader.result
          c.is_ring_channel-ring.result c.channel-found.ensures.name c.channel-found.ensures.kind c.channel-found.ensures.role c.writer-writer.ensures.only c.reader-reader.ensures.only is_tail is_head c.is_ring_channel-ring.ensures,
      five_grown _ _ tail head _ _ _ _ _ _ _ c.in_ok-add_mark.ensures c.in_ok-add_line.ensures after_tail after_head (rw c.text_if-awaited.ensures at c.in_ok-add.ensures),
    )
