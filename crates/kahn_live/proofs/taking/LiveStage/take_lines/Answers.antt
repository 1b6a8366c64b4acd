use Rattle.kahn_live.proofs.Common.{◌≡◌, inl, inr, false, true, suc, arith, rules, sym, err_from_is_err_and, reader_remaining, point_of}
use Rattle.kahn_live.proofs.Meeting.{unmoved}
use Rattle.kahn_live.proofs.taking.LiveStage.take_lines.Goals as goal

pub returns-in_err-take_next-clause-met : goal.returns-in_err-take_next-clause-met
returns-in_err-take_next-clause-met g c =
    let known = c.loop-number.invariant.1 in
    let left = reader_remaining g.I.Read.remaining c.loop-number.reader in
    let last = point_of g.W.Write.contents g.E.Write.contents c.loop-number.self in
    let p = err_from_is_err_and c.from_residual.result c.from_residual.ensures.1 in
    let stopped = rw known.1 at c.in_err-take_next.ensures.met in
    rw (p.1, p.2) (known.0, left, last, known.2, c.if-is_deaf.ensures, stopped)

pub loop-number-preserved : goal.loop-number-preserved
loop-number-preserved g c =
    let known = c.loop-number.invariant.1 in
    let left = reader_remaining g.I.Read.remaining c.loop-number.reader in
    let last = point_of g.W.Write.contents g.E.Write.contents c.loop-number.self in
    let more : c.in_ok-take_next.field-0 ≡ true = search rules in
    let step = rw (more, known.1) at c.in_ok-take_next.ensures.met in
    (c.in_ok-take_next.ensures.broken, (suc known.0, omega (arith, known.1), (left, last, known.2, c.if-is_deaf.ensures, step)))

pub returns-clause-met : goal.returns-clause-met
returns-clause-met g c =
    let known = c.loop-number.invariant.1 in
    let left = reader_remaining g.I.Read.remaining c.loop-number.reader in
    let last = point_of g.W.Write.contents g.E.Write.contents c.loop-number.self in
    let end : 18446744073709551615 ≡ suc known.0 = omega (arith, known.1, c.loop-number-test.false, c.loop-number.auto.number, c.loop-number.auto.number-end) in
    (known.0, left, last, known.2, unmoved last, inr (inr (sym end)))

pub returns-then-is_deaf-clause-met : goal.returns-then-is_deaf-clause-met
returns-then-is_deaf-clause-met g c =
    let known = c.loop-number.invariant.1 in
    let left = reader_remaining g.I.Read.remaining c.loop-number.reader in
    let last = point_of g.W.Write.contents g.E.Write.contents c.loop-number.self in
    (known.0, left, last, known.2, unmoved last, inr (inl c.if-is_deaf.ensures))

pub returns-then-not-branch-clause-met : goal.returns-then-not-branch-clause-met
returns-then-not-branch-clause-met g c =
    let known = c.loop-number.invariant.1 in
    let left = reader_remaining g.I.Read.remaining c.loop-number.reader in
    let last = point_of g.W.Write.contents g.E.Write.contents c.loop-number.self in
    let none : c.in_ok-take_next.field-0 ≡ false = search rules in
    let (ended, sent) = rw none at c.in_ok-take_next.ensures.met in
    (known.0, left, last, known.2, sent, inl ended)
