use Rattle.kahn_pool.proofs.Common.{arith, ◌-◌, refl, Answer, cells_of, are_streams, answer_right}
use Rattle.kahn_pool.proofs.Kept.{idle_lists}
use Rattle.kahn_pool.proofs.running.answer_of.Goals as goal

pub all_kept-kept-requires-clause-room : goal.all_kept-kept-requires-clause-room
all_kept-kept-requires-clause-room c =
    let n = c.requires.held.idle.count in
    let m = c.requires.ready.enough in
    omega (arith, n, m)

pub fill-requires-clause-named : goal.fill-requires-clause-named
fill-requires-clause-named c = (c.args.part.now.crew.watch, c.requires.ready.begun.lines)

pub fill-requires-clause-lists : goal.fill-requires-clause-lists
fill-requires-clause-lists c =
    let t = c.args.part.now in
    idle_lists t.network.now t.input.now c.args.stopped.idles.items c.requires.held.idle c.all_kept-kept.result.items c.all_kept-kept.ensures

pub returns-in-Ok : goal.returns-in-Ok
returns-in-Ok c =
    let t = c.args.part.now in
    let ended = rw c.in-Ok.is at c.requires.ended in
    let s = c.args.stopped in
    let a : Answer = record { verdict = c.in-Ok.verdict; streams = c.fill.new.streams; ends = s.ends; events = t.bound - s.budget } in
    answer_right a ended.1 (are_streams t.network.now t.input.now t.crew.watch (cells_of s.idles.items) c.all_kept-kept.ensures c.requires.ready.begun c.fill.ensures) refl

pub returns-in-Err : goal.returns-in-Err
returns-in-Err c = rw c.in-Err.is at c.requires.ended
