use Rattle.kahn_live.proofs.Common.{◌∙◌, inl, inr, err_from_is_err_and, reader_remaining, point_of}
use Rattle.kahn_live.proofs.taking.LiveStage.take_next.Goals as goal

pub returns-in_err-take_read-in-Line-clause-met : goal.returns-in_err-take_read-in-Line-clause-met
returns-in_err-take_read-in-Line-clause-met g c =
    let sent = c.in_ok-send_before.ensures.sent in
    let (line, come, kept) = c.in-Line.ensures in
    let p = err_from_is_err_and c.from_residual-in_err-take_read-in-Line.result c.from_residual-in_err-take_read-in-Line.ensures.1 in
    rw (p.1, p.2) (inr (
      line,
      reader_remaining g.I.Read.remaining c.come.new.reader,
      point_of g.W.Write.contents g.E.Write.contents c.send_before.new.self,
      rw sent.1.0 at come,
      sent,
      rw (c.deref.ensures.value ∙ kept) at c.in_err-take_read-in-Line.ensures.met,
    ))

pub returns-in_ok-take_read-in-Line-clause-met : goal.returns-in_ok-take_read-in-Line-clause-met
returns-in_ok-take_read-in-Line-clause-met g c =
    let sent = c.in_ok-send_before.ensures.sent in
    let (line, come, kept) = c.in-Line.ensures in
    let met = rw (c.deref.ensures.value ∙ kept) at c.in_ok-take_read-in-Line.ensures.met in
    (line, point_of g.W.Write.contents g.E.Write.contents c.send_before.new.self, rw sent.1.0 at come, sent, inl (c.in_ok-take_read-in-Line.field-0, met))

pub returns-in_ok-tell_behind-in-NoMemory-clause-met : goal.returns-in_ok-tell_behind-in-NoMemory-clause-met
returns-in_ok-tell_behind-in-NoMemory-clause-met g c =
    let sent = c.in_ok-send_before.ensures.sent in
    let (line, come) = c.in-NoMemory.ensures in
    (line, point_of g.W.Write.contents g.E.Write.contents c.send_before.new.self, rw sent.1.0 at come, sent, inr c.in_ok-tell_behind-in-NoMemory.ensures.told)

pub returns-in-End-clause-met : goal.returns-in-End-clause-met
returns-in-End-clause-met g c = (rw c.in_ok-send_before.ensures.sent.1.0 at c.in-End.ensures, c.in_ok-send_before.ensures.sent)
