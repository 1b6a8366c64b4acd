use Rattle.kahn_session.proofs.Common.{List, rules, subst, Value, Writes, plain_text}
use Rattle.kahn_session.proofs.pace.show.Goals as goal

pub returns-then-is_empty : goal.returns-then-is_empty
returns-then-is_empty g c =
    let wrote = subst (λ (vs : List Value). Writes (g.W.Write.contents c.args.writer.now) (g.W.Write.contents c.write_plain.new.writer) c.write_plain.result (plain_text vs)) c.fresh_of.ensures c.write_plain.ensures in
    search rules
