use Rattle.std.proofs.Common.{ap, ◌∙◌, ◌++◌, option_to_list}
use Rattle.kahn_code.proofs.Begin.{first_begins}
use Rattle.kahn_code.proofs.queue.Queue.take.Goals as goal

pub lift-requires-clause-names : goal.lift-requires-clause-names
lift-requires-clause-names g c =
    let q = c.self.inside in
    let rest = c.pop_front.new.self.items in
    first_begins q.network.value q.input.value q.tokens.items rest c.unwrap-carried.result c.token-token.result
    (c.pop_front.ensures.items ∙ ap (λ o. option_to_list o ++ rest) c.unwrap-carried.ensures) c.token-token.ensures c.self.invariant.1
