use Rattle.kahn_crew.proofs.Common.{arith, sym, true≢false, ◌∙◌}
use Rattle.kahn_crew.proofs.Round.{looked, not_ready_of}
use Rattle.kahn_crew.proofs.worker.pick_one.Goals as goal

pub claim-requires-clause-rests : goal.claim-requires-clause-rests
claim-requires-clause-rests c = let r = c.requires in (r.0, (looked c.args.run.now c.args.seat.now c.looks_ready.new.self c.args.p r.0 c.looks_ready.result c.looks_ready.ensures r.1).1)

pub returns-clause-picked : goal.returns-clause-picked
returns-clause-picked c = λ has _ n r.
    let q = looked c.args.run.now c.args.seat.now c.looks_ready.new.self c.args.p n c.looks_ready.result c.looks_ready.ensures r in
    let b = c.claim.ensures.picked has n q.1 in
    (c.claim.ensures.same.0 ∙ q.0, omega (arith, c.if-p-run.false, c.args.run.now.board.now.counts.0), omega (arith, c.claim.ensures.few has, b.1.drawn), b)

pub returns-clause-missed : goal.returns-clause-missed
returns-clause-missed c = λ no n r.
    let q = looked c.args.run.now c.args.seat.now c.looks_ready.new.self c.args.p n c.looks_ready.result c.looks_ready.ensures r in
    (c.claim.ensures.same.0 ∙ q.0, c.claim.ensures.missed no n q.1)

pub returns-clause-late : goal.returns-clause-late
returns-clause-late c = λ no inside.
    let m = c.claim.ensures.late no in
    not_ready_of c.args.run.now c.args.seat.now c.looks_ready.new.self c.args.p c.looks_ready.ensures.0.0.1 (c.looks_ready.new.self.seat.me.0, m.0, m.1, m.2)

pub returns-then-not-looks_ready-clause-missed : goal.returns-then-not-looks_ready-clause-missed
returns-then-not-looks_ready-clause-missed c = λ _ n. looked c.args.run.now c.args.seat.now c.looks_ready.new.self c.args.p n c.looks_ready.result c.looks_ready.ensures

-- one that only looks rests as it did
pub returns-clause-looked : goal.returns-clause-looked
returns-clause-looked c = λ no. absurd (true≢false (sym c.if-not-claims.false ∙ no))

pub returns-then-not-claims-clause-picked : goal.returns-then-not-claims-clause-picked
returns-then-not-claims-clause-picked c = λ _ yes. absurd (true≢false (sym yes ∙ c.if-not-claims.true))

pub returns-then-not-claims-clause-looked : goal.returns-then-not-claims-clause-looked
returns-then-not-claims-clause-looked c = λ _ n. looked c.args.run.now c.args.seat.now c.looks_ready.new.self c.args.p n c.looks_ready.result c.looks_ready.ensures

pub returns-then-not-looks_ready-clause-looked : goal.returns-then-not-looks_ready-clause-looked
returns-then-not-looks_ready-clause-looked c = λ _ n. looked c.args.run.now c.args.seat.now c.looks_ready.new.self c.args.p n c.looks_ready.result c.looks_ready.ensures

pub returns-then-not-looks_ready-clause-late : goal.returns-then-not-looks_ready-clause-late
returns-then-not-looks_ready-clause-late c = λ _ inside.
    let e = c.looks_ready.ensures.1 in
    (c.args.seat.now.seat.me.0, e.0, e.3 c.if-not-looks_ready.true, e.1)
