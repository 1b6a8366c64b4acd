use Rattle.std.proofs.Common.{inl, inr, refl}
use Rattle.kahn_explanation.proofs.Parts.{broke_off, went_out}
use Rattle.kahn_explanation.proofs.explaining.write_both.Goals as goal

pub returns-in-Ok : goal.returns-in-Ok
returns-in-Ok g c = inl (refl, went_out _ _ c.args.first.now c.args.second.now (rw c.as_bytes-2.ensures.value at (rw c.as_bytes.ensures.value at c.in-Ok.ensures)))

pub returns-in-Err : goal.returns-in-Err
returns-in-Err g c =
    inr (c.in-Err.fault, refl, broke_off _ _ c.args.first.now c.args.second.now (rw c.as_bytes-2.ensures.value at (rw c.as_bytes.ensures.value at c.in-Err.ensures)))
