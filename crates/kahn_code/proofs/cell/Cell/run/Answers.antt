use Rattle.kahn_code.proofs.Common.{subst, HasRunFor}
use Rattle.kahn_code.proofs.cell.Cell.run.Goals as goal

pub returns-clause-ran : goal.returns-clause-ran
returns-clause-ran g c =
    let P = g.P.Ports in
    subst (λ v. HasRunFor P.site P.next P.is_dry P.is_ready P.has_room c.args.quantum c.run.result c.args.ports.now c.run.new.ports c.args.steps.now c.run.new.steps v c.run.new.self.told) c.self.view_is c.run.ensures.ran
