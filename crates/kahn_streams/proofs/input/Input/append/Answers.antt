use Rattle.kahn_streams.proofs.Common.{rules, arith, ◌≡◌, ◌≤◌, ◌+◌, ◌++◌, length, length-append, map, slice_set, sym, most_values, inputs_of}
use Rattle.kahn_streams.proofs.{Fed.item_fed, Few.put_few, Few.same_few}
use Rattle.kahn_streams.proofs.input.Input.append.Goals as goal

pub invariant_of-self-2 : goal.invariant_of-self-2
invariant_of-self-2 c =
    let fed : c.add_values.new.list.items ≡ c.index_mut.result.now.items ++ c.args.values.items = search rules in
    let few = same_few (map (λ v. v.items) c.self.inside.lists.items) c.args.self.now c.self.invariant (sym c.self.view_is) in
    let list = inputs_of c.args.self.now c.args.channel ++ c.args.values.items in
    let long = length-append (inputs_of c.args.self.now c.args.channel) c.args.values.items in
    let room : length (inputs_of c.args.self.now c.args.channel) + length c.args.values.items ≤ most_values = c.requires.few in
    let short : length list ≤ most_values = omega (arith, long, room) in
    put_few c.args.self.now (map (λ v. v.items) (slice_set c.self.inside.lists.items c.args.channel c.add_values.new.list)) c.args.channel list c.requires.here few short
    (item_fed (λ v. v.items) c.self.inside.lists.items c.args.self.now c.args.channel c.index_mut.result.now c.add_values.new.list c.self.view_is c.requires.here c.index_mut.ensures.value c.args.values.items fed)
