use Rattle.kahn_pool.proofs.Common.{◌<◌, length, sym, subst, refl, slice_get_read}
use Rattle.kahn_pool.proofs.Ended.{given_all, sent_all}
use Rattle.kahn_pool.proofs.held.given.Goals as goal

pub returns-in-Some : goal.returns-in-Some
returns-in-Some c =
    let t = c.args.part.now.network.now in
    let tasks = c.args.tasks.now in
    let w = c.in-Some.side in
    let only = c.in-Some.ensures.only in
    let x = c.index-tasks-side.result in
    let here : w.instance < length tasks = subst (λ n. w.instance < n) (sym c.requires.told.count) only.0.0.0 in
    let at = slice_get_read tasks (length tasks) w.instance x refl here c.index-tasks-side.is in
    sent_all t tasks c.requires.told c.args.part.now.input.now c.args.channel w x c.sent.result c.program-program.ensures.wired only at c.sent.ensures

pub returns-in-None : goal.returns-in-None
returns-in-None c =
    given_all c.args.part.now.network.now c.args.tasks.now c.requires.told c.args.part.now.input.now c.args.channel c.count.result c.in-None.ensures.only c.count.ensures.count
