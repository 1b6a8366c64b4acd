use Rattle.kahn_sequential.proofs.Common.{sym, ap, ◌∙◌, length, subst, Lists, inputs_of, network_of, IsWithin}
use Rattle.kahn_sequential.proofs.Recording.{has_input, has_sent}
use Rattle.kahn_sequential.proofs.counted.sent_on.Goals as goal

pub sent_by-requires : goal.sent_by-requires
sent_by-requires c = subst (λ t. IsWithin (network_of t) c.in-Some.side) (sym c.requires.names.0) c.in-Some.ensures.only.0.0

pub returns-in-Some : goal.returns-in-Some
returns-in-Some c =
    has_sent c.args.bench.now c.args.network.now c.requires.names.0 c.args.channel c.sent_by.result c.in-Some.side c.in-Some.ensures.only.0 c.in-Some.ensures.source c.sent_by.ensures

pub returns-in-None : goal.returns-in-None
returns-in-None c =
    has_input c.args.bench.now c.args.network.now c.requires.names.0 c.args.channel c.count.result c.in-None.ensures.source
    (c.count.ensures.count ∙ ap (λ (l : Lists). length (inputs_of l c.args.channel)) (sym c.requires.names.1))
