use Rattle.kahn_sequential.proofs.Common.{subst, sym, refl, ap, ◌∙◌, network_of, Reads, joins_within, Joins, none-some, route_of, same_Some}
use Rattle.kahn_sequential.proofs.one.channel_read.Goals as goal

pub channel-requires : goal.channel-requires
channel-requires c = joins_within (network_of c.args.code.now.network.value) c.args.instance c.args.parameter c.requires.0 (subst (λ a. Joins a c.requires.0) (sym c.requires.1) refl)

pub unreachable-requires : goal.unreachable-requires
unreachable-requires c = none-some _ (sym c.in-None.is ∙ c.channel.ensures ∙ ap route_of c.requires.1)

pub returns : goal.returns
returns c = c.requires.1 ∙ ap Reads (sym (same_Some _ _ (sym c.in-Some.is ∙ c.channel.ensures ∙ ap route_of c.requires.1)))
