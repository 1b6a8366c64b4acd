use Rattle.kahn_code.proofs.Common.{◌+◌, length, sym, subst, AreInputsExtended, inputs_of, AllBegin, AreGivenFrom}
use Rattle.kahn_code.proofs.Begin.{all_longer, given_longer}
use Rattle.kahn_code.proofs.queue.Queue.regrow.Goals as goal

pub invariant_of-self : goal.invariant_of-self
invariant_of-self g c =
    let q = c.self.inside in
    let grown = subst (λ w. AreInputsExtended (inputs_of w.input) (inputs_of g.input)) (sym c.self.view_is) c.requires.1 in (
      c.self.invariant.0,
      subst (λ i. AllBegin q.network.value i q.tokens.items) (sym c.named.ensures) (all_longer q.network.value q.input.value g.input q.tokens.items grown c.self.invariant.1),
      subst (λ i. AreGivenFrom q.network.value i q.channel (q.taken + length q.tokens.items) q.given.now) (sym c.named.ensures)
          (given_longer q.network.value q.input.value g.input q.channel (q.taken + length q.tokens.items) q.given.now grown c.self.invariant.2),
      c.self.invariant.3,
    )
