use Rattle.kahn_streams.proofs.Common.{rules, ◌≡◌, ◌≤◌, ◌++◌, slice_set, Entry, channel_of, most_values, inputs_of, IsMeant, total_after}
use Rattle.kahn_streams.proofs.Fed.{fed, fed_grown}
use Rattle.kahn_streams.proofs.input.Input.extend.Goals as goal

pub returns-clause-grown : goal.returns-clause-grown
returns-clause-grown c =
    let t = c.args.network.now in
    let before = c.args.self.now in
    let after = c.append.new.self in
    let entry : Entry = (c.args.channel.now, c.args.values.items) in
    let is : c.in_ok-number.number ≡ channel_of t entry = search rules in
    let meant : IsMeant t entry = search rules in
    let within : total_after t before entry ≤ most_values = search rules in
    let made : after ≡ slice_set before c.in_ok-number.number (inputs_of before c.in_ok-number.number ++ c.args.values.items) = search rules in
    fed_grown t before entry after (fed t before entry c.in_ok-number.number after c.requires is meant within made)
