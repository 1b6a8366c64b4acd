use Rattle.kahn_code.proofs.Common.{sym, subst, AreInputsExtended, inputs_of}
use Rattle.kahn_code.proofs.cell.Cell.grown.Goals as goal

pub regrown-requires : goal.regrown-requires
regrown-requires g c κs within = (within, subst (λ v. AreInputsExtended (inputs_of v.input) (inputs_of c.args.input.now)) (sym c.self.view_is) c.requires)
