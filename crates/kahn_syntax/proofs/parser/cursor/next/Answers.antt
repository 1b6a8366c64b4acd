use Rattle.kahn_syntax.proofs.Parsing.{next_made}
use Rattle.kahn_syntax.proofs.parser.cursor.next.Goals as goal

pub returns-in-len1-up-clause-first : goal.returns-in-len1-up-clause-first
returns-in-len1-up-clause-first c = next_made c.args.input.now _ c.in-len1-up.len_at_least
