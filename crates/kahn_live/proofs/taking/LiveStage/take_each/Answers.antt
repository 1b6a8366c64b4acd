use Rattle.kahn_live.proofs.Common.{◌≡◌, inl, inr, Ok, AreEachMet, rules, true, option_copied, err_from_is_err_and, reader_remaining, point_of}
use Rattle.kahn_live.proofs.{Begun.histories, Feeding.all_shown}
use Rattle.kahn_live.proofs.taking.LiveStage.take_each.Goals as goal

pub returns-in_err-take_lines-clause-met : goal.returns-in_err-take_lines-clause-met
returns-in_err-take_lines-clause-met g c =
    let begun = point_of g.W.Write.contents g.E.Write.contents c.begin.new.self in
    let ready = point_of g.W.Write.contents g.E.Write.contents c.tell_alone.new.self in
    let alone = c.tell_alone.ensures in
    let there : c.in_ok-begin.field-0 ≡ true = search rules in
    let has = rw there at c.in_ok-begin.ensures.begun in
    let p = err_from_is_err_and c.from_residual-in_err-take_lines.result c.from_residual-in_err-take_lines.ensures.1 in
    rw (p.1, p.2) (inr (begun, ready, has, alone, inl c.in_err-take_lines.ensures.met))

pub returns-in_err-take_last-clause-met : goal.returns-in_err-take_last-clause-met
returns-in_err-take_last-clause-met g c =
    let begun = point_of g.W.Write.contents g.E.Write.contents c.begin.new.self in
    let ready = point_of g.W.Write.contents g.E.Write.contents c.tell_alone.new.self in
    let alone = c.tell_alone.ensures in
    let last = point_of g.W.Write.contents g.E.Write.contents c.take_lines.new.self in
    let there : c.in_ok-begin.field-0 ≡ true = search rules in
    let has = rw there at c.in_ok-begin.ensures.begun in
    let p = err_from_is_err_and c.from_residual-in_err-take_last.result c.from_residual-in_err-take_last.ensures.1 in
    rw (p.1, p.2) (inr (begun, ready, has, alone, inr (last, c.in_ok-take_lines.ensures.met, c.in_err-take_last.ensures.met)))

pub returns : goal.returns
returns g c =
    let text = reader_remaining g.I.Read.remaining c.args.reader.now in
    let old = point_of g.W.Write.contents g.E.Write.contents c.args.self.now in
    let begun = point_of g.W.Write.contents g.E.Write.contents c.begin.new.self in
    let ready = point_of g.W.Write.contents g.E.Write.contents c.tell_alone.new.self in
    let alone = c.tell_alone.ensures in
    let last = point_of g.W.Write.contents g.E.Write.contents c.take_lines.new.self in
    let new = point_of g.W.Write.contents g.E.Write.contents c.take_last.new.self in
    let there : c.in_ok-begin.field-0 ≡ true = search rules in
    let has = rw there at c.in_ok-begin.ensures.begun in
    let met : AreEachMet (option_copied c.args.input) c.args.at_end.now (Ok true) text old new = (begun, has, (ready, last, alone, c.in_ok-take_lines.ensures.met, c.in_ok-take_last.ensures.met)) in
    let shown = all_shown (option_copied c.args.input) c.args.at_end.now text old new met in
    record { settled = λ _. (c.in_ok-take_last.ensures.broken, (shown.0, shown.1)); histories = λ _. histories new.session shown; met = met }
