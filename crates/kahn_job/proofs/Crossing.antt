-- Which types threads may share.
--     network_sync      threads may share a network. Its trees hold one another, so this is searched for once, apart
use denote.Param.Send.{IsSync, sendable}
use Rattle.std.proofs.Crossing as std
use Rattle.kahn_streams.proofs.tree.Action.TheLaws.TheKnot as actions
use Rattle.kahn_streams.proofs.tree.Form.TheLaws.TheKnot as forms
use Rattle.kahn_streams.specs.contracts.network.Network as Network

pub network_sync : IsSync Network.the_row
network_sync = search (std.crosses, actions.crosses, forms.crosses, sendable) depth 60 fits 20000
