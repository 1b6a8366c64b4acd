use Rattle.kahn_sequential.proofs.Common.{◌≡◌, ◌∙◌, ap, same_Some, subst, sym, Channel, Line, network_of, inputs_of, source, OpensWith}
use Rattle.kahn_sequential.proofs.Giving.{opens_given}
use Rattle.kahn_sequential.proofs.streams.given_first.Goals as goal

pub returns : goal.returns
returns c d e role =
    let N = network_of c.args.network.now in
    let I = inputs_of c.args.input.now in
    let ts = c.in_ok-stream.stream.tokens.items in
    let same : c.in-Some.channel ≡ d = same_Some c.in-Some.channel d (sym c.in-Some.is ∙ e) in
    let line = c.in_ok-stream.ensures.line ∙ ap Channel same in
    opens_given N I d ts (subst (λ (k : Line). OpensWith N I (source N k) k ts) line c.in_ok-stream.ensures.given) role
