use Rattle.std.proofs.Common.{ap}
use Rattle.kahn_code.proofs.Grown.{standing}
use Rattle.kahn_code.proofs.cell.Tap.regrow.Goals as goal

pub invariant_of-self : goal.invariant_of-self
invariant_of-self g c =
    let i = c.self.inside in
    standing i.progress i.network.value i.input.value g.input c.named.result.value c.args.self.now.told (ap (λ v. v.told) c.self.view_is) c.named.ensures c.requires.1 c.self.invariant
