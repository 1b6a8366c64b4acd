use Rattle.kahn_sequential.proofs.Common.{sym, subst, HasAdvanced, Table}
use Rattle.kahn_sequential.proofs.Turns.{advanced_none, moved_on, turned}
use Rattle.kahn_sequential.proofs.rounds.Driver.awake_turns.Goals as goal

pub loop-preserved : goal.loop-preserved
loop-preserved g c =
    let before : HasAdvanced c.args.bench.now c.next.new.self c.args.last c.loop.round = subst (λ (b : Table). HasAdvanced c.args.bench.now b c.args.last c.loop.round) (sym c.next.ensures.same) c.loop.invariant in
    subst (λ (b : Table). HasAdvanced c.args.bench.now b c.args.last c.visit-end.new.round) (sym c.note_left.ensures) (moved_on before (turned before.may c.in-Some.ensures.here c.visit-end.ensures.turn))

pub loop-init : goal.loop-init
loop-init g c = subst (λ (b : Table). HasAdvanced c.args.bench.now b c.args.last c.args.last) (sym c.wake_all.ensures) (advanced_none c.args.last c.requires)
