use Rattle.kahn_streams.proofs.Common.{arith, ◌≡◌, map, common_steps, inputs_of}
use Rattle.kahn_streams.proofs.Few.{list_few}
use Rattle.kahn_streams.proofs.input.Input.list.Goals as goal

pub returns-in-Some-clause-few : goal.returns-in-Some-clause-few
returns-in-Some-clause-few c =
    let at : c.as_slice.result.now ≡ inputs_of c.args.self.now c.args.channel = grind (arith, common_steps) in
    list_few (map (λ l. l.items) c.self.inside.lists.items) c.args.self.now c.args.channel c.as_slice.result.now c.self.invariant c.self.view_is at
