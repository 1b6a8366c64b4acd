use Rattle.kahn_fault.proofs.Places.{fault_in}
use Rattle.kahn_fault.proofs.work.fault_lies.Goals as goal

pub returns : goal.returns
returns c = fault_in
