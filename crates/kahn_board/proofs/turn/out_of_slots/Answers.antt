use Rattle.kahn_board.proofs.Common.{rules, ◌++◌, ◌∷◌, [], List, Some, map, reverse, sym, ap, ◌∙◌}
use Rattle.kahn_board.proofs.Closes.{is_full, last_full, one_back}
use Rattle.kahn_board.proofs.turn.out_of_slots.Goals as goal

pub unreachable-requires : goal.unreachable-requires
unreachable-requires g c = let t = last_full c.pop.new.self.items c.in-Some.slot c.loop-slot.invariant.0.0 (sym c.in-Some.ensures.items ∙ c.loop-slot.invariant.0.1) in is_full c.in-Some.slot t.1 t.3 c.in_default-slot.is

pub loop-slot-preserved : goal.loop-slot-preserved
loop-slot-preserved g c = let t = last_full c.pop.new.self.items c.in-Some.slot c.loop-slot.invariant.0.0 (sym c.in-Some.ensures.items ∙ c.loop-slot.invariant.0.1) in
    let before = c.pop.new.self.items in let cells = c.loop-slot.cells.items in let y = c.in-Some-slot.cell in
    let same = sym c.in-Some.ensures.items in (
      (
        t.0,
        t.2,
        ap (λ (l : List _). before ++ map Some (reverse l)) c.push_reserved.ensures.items ∙ (one_back before cells y ∙ (ap (λ o. (before ++ o ∷ []) ++ map Some (reverse cells)) (sym c.in-Some-slot.is) ∙ (ap (λ (l : List _). l ++ map Some (reverse cells)) same ∙ c.loop-slot.invariant.0.2))),
      ),
      search rules,
    )
