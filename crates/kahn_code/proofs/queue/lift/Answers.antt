use Rattle.kahn_code.proofs.Common.{sym, subst, Holds}
use Rattle.kahn_streams.proofs.Fed.{lifted}
use Rattle.kahn_code.proofs.queue.lift.Goals as goal

pub named_token-requires : goal.named_token-requires
named_token-requires c =
    let x = c.args.token in
    let t = c.args.network.now.value in
    let after = c.args.input.now.value in
    let here = subst (λ t. Holds t after x.line x.place x.value) c.requires.names.0 (lifted x.network.value x.input.value after x.line x.place x.value c.requires.names.1 x.stands) in
    subst (λ v. Holds t after c.args.line c.args.at v) (sym c.word-value.ensures)
    (subst (λ k. Holds t after c.args.line k x.value) c.requires.here.1 (subst (λ l. Holds t after l x.place x.value) c.requires.here.0 here))
