use Rattle.kahn_live.specs.Course.{telling_of}
use Rattle.kahn_live.proofs.telling.Teller.tell_last.Goals as goal

pub returns-clause-told : goal.returns-clause-told
returns-clause-told g c = (
  telling_of g.E.Write.contents c.tell_more.new.self,
  telling_of g.E.Write.contents c.tell_fault.new.self,
  c.tell_more.ensures,
  c.tell_fault.ensures,
  c.tell_more_of.ensures,
)
