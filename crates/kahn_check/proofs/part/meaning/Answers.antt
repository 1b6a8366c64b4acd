use Rattle.kahn_check.proofs.Common.{sym, subst, IfSome, bytes_of, IsPlaced}
use Rattle.kahn_check.proofs.Global_names.{placed_found}
use Rattle.kahn_check.proofs.part.meaning.Goals as goal

pub returns-clause-placed : goal.returns-clause-placed
returns-clause-placed c = λ ds h. subst (λ o. IfSome o (IsPlaced ds)) (sym c.find.ensures) (placed_found ds (bytes_of c.args.name.now) c.args.globals.now h)
