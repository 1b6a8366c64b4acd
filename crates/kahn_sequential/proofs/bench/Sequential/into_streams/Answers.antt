use Rattle.kahn_sequential.proofs.Common.{arith, ap, sym, subst, length, map, vec_capacity, length-map, network_of, AreStreams, AreStreamsReady, AreWhole, stream_lines, Table, sight_of, told_in}
use Rattle.kahn_sequential.proofs.{Filled.are_streams, Kept.lists_of_cells, Tapping.left_whole}
use Rattle.kahn_sequential.proofs.bench.Sequential.into_streams.Goals as goal

pub all_kept-kept-requires-clause-room : goal.all_kept-kept-requires-clause-room
all_kept-kept-requires-clause-room c =
    let m = c.requires.ready.enough in
    omega (arith, length-map c.self.inside.taps.items told_in, c.self.invariant.count, ap (λ (x : Table). length (network_of x.network).instances) c.self.view_is, m)

pub fill-requires : goal.fill-requires
fill-requires c =
    let i = c.self.inside in
    let x = c.args.streams.items in
    let k = c.args.kept in
    let ls = c.all_kept-kept.result.items in
    let whole = subst (λ (b : Table). AreWhole (length (network_of b.network).instances) b.gone) (sym c.self.view_is) c.requires.whole in
    record {
      named = (i.watch, (subst (λ (b : Table). AreStreamsReady b.network b.input b.watch x k.items (vec_capacity k)) (sym c.self.view_is) c.requires.ready).begun.lines);
      lists = lists_of_cells i.network.now (map told_in i.taps.items) c.self.invariant.count (λ p d e. let s = c.self.invariant.each p d e in (s.network, s.instance)) ls
          (left_whole i.taps.items ls _ c.all_kept-kept.ensures whole);
    }

pub returns : goal.returns
returns c =
    let i = c.self.inside in
    let k = c.args.kept in
    let ready = subst (λ (b : Table). AreStreamsReady b.network b.input b.watch c.args.streams.items k.items (vec_capacity k)) (sym c.self.view_is) c.requires.ready in
    let whole = subst (λ (b : Table). AreWhole (length (network_of b.network).instances) b.gone) (sym c.self.view_is) c.requires.whole in
    subst (λ (b : Table). AreStreams (sight_of b) c.fill.new.streams.items (stream_lines (network_of b.network) b.watch)) c.self.view_is
    (are_streams i.network.now i.queues.input i.watch (map told_in i.taps.items) (left_whole i.taps.items c.all_kept-kept.result.items _ c.all_kept-kept.ensures whole) ready.begun c.fill.ensures)
