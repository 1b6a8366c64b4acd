use Rattle.kahn_code.proofs.Common.{subst, network_of, inputs_of, core_of, AreCounts}
use Rattle.kahn_code.proofs.Few.{taken_bound, sent_bound}
use Rattle.kahn_code.proofs.cell.Tap.sized.Goals as goal

pub returns : goal.returns
returns g c =
    let i = c.self.inside in
    let N = network_of i.network.value in
    let I = inputs_of i.input.value in
    let w = i.progress.watch in
    let p = i.progress.instance in
    let s = c.self.invariant.stands in
    subst (λ v. AreCounts v.told) c.self.view_is (record {
      taken_size = s.1.taken_size;
      sent_size = s.1.sent_size;
      taken_few = taken_bound N I w p (core_of i.progress) s.0 s.1;
      sent_few = sent_bound N I w p (core_of i.progress) s.0 s.1;
      bare = s.1.bare;
    })
