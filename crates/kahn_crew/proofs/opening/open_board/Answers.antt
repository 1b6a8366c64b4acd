use Rattle.kahn_crew.proofs.Common.{arith, sym, subst, List, ℕ, Opens, wires, AreReadyTasks, Tasked, IsLater, told_tale}
use Rattle.kahn_crew.proofs.Started.{opens}
use Rattle.kahn_crew.proofs.opening.open_board.Goals as goal

pub number-requires-clause-ready : goal.number-requires-clause-ready
number-requires-clause-ready c = (c.args.crewing.watch, subst (AreReadyTasks c.args.network.now c.args.input.now c.args.crewing.watch) (sym c.deref.ensures.value) c.requires.ready)

pub new-requires : goal.new-requires
new-requires c =
    let t = c.args.network.now in
    let i = c.loop-channel.invariant in
    subst (λ (xs : List Tasked). Opens told_tale IsLater (wires t) c.args.bound c.deref-2.result.now xs) (sym c.in_ok-boxes.ensures.boxed)
    (subst (λ (xs : List ℕ). Opens told_tale IsLater (wires t) c.args.bound xs c.args.tasks.items) (sym c.deref-2.ensures.value)
    (opens t c.program-program.ensures.wired c.args.input.now c.args.crewing.watch c.loop-channel.numbers.items c.args.tasks.items c.requires.ready
    (omega (arith, i.0, c.loop-channel-test.false, c.loop-channel.auto.channel-end, c.channels-channel-end.ensures)) i.1 c.args.bound c.requires.few))
