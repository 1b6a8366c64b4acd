use Rattle.kahn_graph.proofs.Common.{at_index, channel_names, network_of, rules}
use Rattle.kahn_graph.proofs.Named.{port_within}
use Rattle.kahn_graph.proofs.picture.port_name.Goals as goal

pub index-parameter-requires : goal.index-parameter-requires
index-parameter-requires c =
    let within = port_within (network_of c.args.network.now) (channel_names c.args.network.now) c.instance-made.result.process.now c.instance-made.result.arguments.now c.args.side c.requires c.instance-made.ensures.made in
    search (rules, within)

pub returns : goal.returns
returns c =
    let process = c.instance-made.result.process.now in
    let within = port_within (network_of c.args.network.now) (channel_names c.args.network.now) process c.instance-made.result.arguments.now c.args.side c.requires c.instance-made.ensures.made in
    let parameter = c.index-parameter.result.now in
    (process, c.instance-made.result.arguments.now, parameter, c.instance-made.ensures.declared, at_index process.parameters.items c.args.side.parameter parameter within (search rules), search rules)
