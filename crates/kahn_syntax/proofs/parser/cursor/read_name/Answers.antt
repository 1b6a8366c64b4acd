use Rattle.kahn_syntax.proofs.Parsing.{arith, common_steps, get_or, name_first, refl}
use Rattle.kahn_syntax.proofs.parser.cursor.read_name.Goals as goal

pub returns-in_ok-text-in-Name-clause-spans : goal.returns-in_ok-text-in-Name-clause-spans
returns-in_ok-text-in-Name-clause-spans c =
    name_first c.args.text.now (record { text = c.in_ok-text-in-Name.text; span = (get_or c.args.input.now 0 _).span }) c.args.input.now _ c.in-Name.len_at_least refl
    (grind (arith, common_steps))
