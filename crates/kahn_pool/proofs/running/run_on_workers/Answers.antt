use Rattle.kahn_pool.proofs.Common.{arith, rules, ◌≡◌, ℕ, List, ◌+◌, ◌∙◌, Option, Err, ap, length, length-map, map, replicate, sym, subst, AreHeld, CellView, IsLaid, IsWide, Lists, NoMemory, Plan, Program, Table, Work, all_events, cell_for, network_of, nothing_gone, sight_of, told_in, IsRoomFor}
use Rattle.kahn_pool.proofs.Handing.{seated_again}
use Rattle.kahn_pool.proofs.running.run_on_workers.Goals as goal

pub invariant_of-part : goal.invariant_of-part
invariant_of-part g c =
    let h = c.hand_over-vacant.ensures in
    record { fits = c.code.ensures ∙ ap (λ (v : Table). v.code) h.vacant ∙ h.laid.code ∙ c.requires.names.0 }

pub run_settled-stopped-requires-clause-part : goal.run_settled-stopped-requires-clause-part
run_settled-stopped-requires-clause-part g c κs within =
    let b = c.args.bench in
    let n = c.requires.names in
    let ws = c.hand_over-vacant.result.1.items in
    let left = c.args.round.left in
    let sum = c.requires.wide.total in
    let all : left + all_events (sight_of b) ≡ c.args.bound = omega (arith, sum) in
    record {
      crew = c.requires.crew.0;
      few = c.requires.crew.1;
      held = subst (λ (x : Program × Lists × Option ℕ). AreHeld x.0 x.1 x.2 c.args.bound ws left) (λ i. (n.0 i, n.1 i, n.2 i))
          (subst (λ k. AreHeld b.network b.input b.watch k ws left) all (c.hand_over-vacant.ensures.held left));
    }

pub run_settled-stopped-requires-clause-room : goal.run_settled-stopped-requires-clause-room
run_settled-stopped-requires-clause-room g c κs within =
    subst (λ (t : Program). IsRoomFor (length (network_of t).instances) c.args.room.part) c.requires.names.0 c.requires.room.part

pub with_taps-bench-requires-clause-laid : goal.with_taps-bench-requires-clause-laid
with_taps-bench-requires-clause-laid g c =
    let h = c.hand_over-vacant.ensures in
    let refused : c.run_settled-stopped.result.outcome ≡ Err NoMemory = search rules in
    subst IsLaid (sym (seated_again c.args.bench h.laid c.requires.wide.whole c.args.input.now c.requires.names.1 c.hand_over-vacant.result.0 h.vacant (map told_in c.unseat-taps.result.items)
    (c.unseat-taps.ensures.tolds ∙ c.run_settled-stopped.ensures.untouched refused ∙ ap (map (cell_for c.args.input.now)) h.cells))) h.laid

pub with_taps-bench-requires-clause-whole : goal.with_taps-bench-requires-clause-whole
with_taps-bench-requires-clause-whole g c =
    let u = c.unseat-taps in
    let many = sym (length-map c.run_settled-stopped.result.idles.items (λ (w : Work). w.cell)) ∙ sym (ap (λ (cs : List CellView). length cs) u.ensures.tolds)
    ∙ length-map u.result.items told_in in
    u.ensures.whole ∙ ap (λ n. replicate n nothing_gone) many

pub run_on_alone-requires-clause-wide : goal.run_on_alone-requires-clause-wide
run_on_alone-requires-clause-wide g c =
    let h = c.hand_over-vacant.ensures in
    let refused : c.run_settled-stopped.result.outcome ≡ Err NoMemory = search rules in
    subst (λ k. IsWide c.with_taps-bench.result k c.args.round) (sym (ap (λ (p : Plan). p.bound) c.plan-plan.ensures))
    (subst (λ x. IsWide x c.args.bound c.args.round)
    (sym (c.with_taps-bench.ensures ∙ seated_again c.args.bench h.laid c.requires.wide.whole c.args.input.now c.requires.names.1 c.hand_over-vacant.result.0 h.vacant (map told_in c.unseat-taps.result.items)
    (c.unseat-taps.ensures.tolds ∙ c.run_settled-stopped.ensures.untouched refused ∙ ap (map (cell_for c.args.input.now)) h.cells))) c.requires.wide)
