use Rattle.kahn_live.proofs.Common.{◌≡◌, inl, inr, refl, rules, true, false, err_from_is_err_and, point_of, telling_of}
use Rattle.kahn_live.proofs.Whole.{fresh}
use Rattle.kahn_live.proofs.running.work.Goals as goal

pub returns-in_err-take_all : goal.returns-in_err-take_all
returns-in_err-take_all g c =
    let made = c.in-Ok.ensures in
    let met = rw (fresh g.I.Read.remaining c.in-Ok.reader c.args.text made.inner made.empty made.capacity) at c.in_err-take_all.ensures.met in
    let p = err_from_is_err_and c.from_residual.result c.from_residual.ensures.1 in
    rw (p.1, p.2) (inl (inl met))

pub returns-then-not-branch : goal.returns-then-not-branch
returns-then-not-branch g c =
    let made = c.in-Ok.ensures in
    let met = rw (fresh g.I.Read.remaining c.in-Ok.reader c.args.text made.inner made.empty made.capacity) at c.in_ok-take_all.ensures.met in
    let none : c.in_ok-take_all.field-0 ≡ false = search rules in
    inl (rw none at met)

pub returns-in_err-send : goal.returns-in_err-send
returns-in_err-send g c =
    let made = c.in-Ok.ensures in
    let met = rw (fresh g.I.Read.remaining c.in-Ok.reader c.args.text made.inner made.empty made.capacity) at c.in_ok-take_all.ensures.met in
    let last = point_of g.W.Write.contents g.E.Write.contents c.take_all.new.stage in
    let there : c.in_ok-take_all.field-0 ≡ true = search rules in
    let p = err_from_is_err_and c.from_residual-in_err-send.result c.from_residual-in_err-send.ensures.1 in
    rw (p.1, p.2) (inl (inr (last, c.judged-amiss.result, rw there at met, (c.judged-amiss.ensures, (c.in_err-send.ensures.fault, (refl, (refl, c.send.ensures.kept)))))))

pub returns : goal.returns
returns g c =
    let made = c.in-Ok.ensures in
    let met = rw (fresh g.I.Read.remaining c.in-Ok.reader c.args.text made.inner made.empty made.capacity) at c.in_ok-take_all.ensures.met in
    let last = point_of g.W.Write.contents g.E.Write.contents c.take_all.new.stage in
    let left = telling_of g.E.Write.contents c.tell_left.new.self in
    let there : c.in_ok-take_all.field-0 ≡ true = search rules in
    inl (last, rw there at met, (c.judged-amiss.ensures, ((refl, c.send.ensures.kept), (left, c.tell_left.ensures, c.tell_end-verdict.ensures))))
