use Rattle.kahn_program_notes.proofs.Common.{◌<◌, ◌≡◌, [], All, Contains, arith, length, refl, subst, sym, All-contains_itself, All-from_recursion, All-get_or, DeclaredTwice, TellsOne}
use Rattle.kahn_program_notes.proofs.Telling.{no_faults}
use Rattle.kahn_program_notes.proofs.network.notes.fault_notes.Goals as goal

pub loop-fault-init : goal.loop-fault-init
loop-fault-init c = (subst (All (TellsOne c.args.text.now c.args.faults.now)) (sym c.new-notes.ensures.items) (All-from_recursion (TellsOne c.args.text.now c.args.faults.now) [] tt), λ none. refl)

pub loop-fault-preserved : goal.loop-fault-preserved
loop-fault-preserved c =
    let faults = c.args.faults.now in
    let below : c.loop-fault.fault-index < length faults = omega arith in
    let has = All-get_or (Contains faults) faults c.loop-fault.fault-index (DeclaredTwice (record { from = 0; to = 0 })) below (All-contains_itself faults) in
    (c.in_ok-tell.ensures.told has c.loop-fault.invariant.0, λ none. absurd (c.in_ok-tell.ensures.some none))

pub returns-then-branch-clause-told : goal.returns-then-branch-clause-told
returns-then-branch-clause-told c =
    let faults = c.args.faults.now in
    let below : c.loop-fault.fault-index < length faults = omega arith in
    let has = All-get_or (Contains faults) faults c.loop-fault.fault-index (DeclaredTwice (record { from = 0; to = 0 })) below (All-contains_itself faults) in
    c.in_ok-tell.ensures.told has c.loop-fault.invariant.0

pub returns-clause-told : goal.returns-clause-told
returns-clause-told c = c.loop-fault.invariant.0

pub returns-clause-some : goal.returns-clause-some
returns-clause-some c = λ none.
    let zero = c.loop-fault.invariant.1 none in
    no_faults c.args.faults.now (omega (arith, zero))
