use Rattle.kahn_board.proofs.Common.{arith, ◌∷◌, ◌++◌, [], sym, ◌∙◌, same_Some}
use Rattle.kahn_board.proofs.Seats.{facts_turned}
use Rattle.kahn_board.proofs.seat.Seat.rotate.Goals as goal

pub invariant_of-self : goal.invariant_of-self
invariant_of-self g c = let me = c.args.self.now in let pop = c.pop_front.ensures in
    let first = same_Some _ _ (sym c.unwrap-first.ensures ∙ pop.value 0 (omega (arith, me.held.ok.0, c.requires))) in record {
      facts = facts_turned me.seat.me _ _ _ me.held.items _ _ _ me.facts c.turn.ensures.0 c.turn.ensures.2 c.requires
          (c.push_back_reserved.ensures.items ∙ (λ i. pop.rest i ++ first i ∷ [])) (c.push_back_reserved.ensures.capacity ∙ pop.capacity);
    }
