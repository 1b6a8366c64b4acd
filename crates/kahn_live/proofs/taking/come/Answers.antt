use Rattle.kahn_live.proofs.Common.{[], ◌∙◌, inr, refl, sym, reader_remaining, most_kept}
use Rattle.kahn_live.proofs.Meeting.{come_read, none_kept}
use Rattle.kahn_live.proofs.taking.come.Goals as goal

pub returns-in-Some : goal.returns-in-Some
returns-in-Some g c =
    let left = g.I.Read.remaining in
    come_read c.args.session.now (reader_remaining left c.args.reader.now) (reader_remaining left c.read_line.new.reader) c.read_line.new.line.items c.read_line.result
    (c.in-Some._name.now, rw c.in-Some.is at c.first_input.ensures) c.read_line.ensures

pub returns-then-lacks_memory : goal.returns-then-lacks_memory
returns-then-lacks_memory g c = inr (rw c.in_default.is at c.first_input.ensures, sym c.lacks_memory.ensures ∙ c.if-lacks_memory.true)

pub returns : goal.returns
returns g c = (
  [],
  inr (rw c.in_default.is at c.first_input.ensures, sym c.lacks_memory.ensures ∙ c.if-lacks_memory.false, refl, refl),
  c.clear.ensures.items ∙ sym (none_kept most_kept),
)
