use Rattle.kahn_board.proofs.Common.{rules, Some, None, sym, ap, ◌∙◌, subst, refl, inl, IsSome, Carries, same_Some}
use Rattle.kahn_board.proofs.Seats.{front_is, carries_others, carries_once}
use Rattle.kahn_board.proofs.seat.Seat.take_cell.Goals as goal

pub unwrap-requires : goal.unwrap-requires
unwrap-requires g c = let up = c.bring_to_front.new.self in let y = c.requires.held.1 in
    let is = front_is up.seat.me up.seat.table_id up.held.items _ c.args.p c.exchange.result (Some y.0) up.facts c.exchange.ensures.slots.0 (c.bring_to_front.ensures.kept c.args.p (Some y.0) y.1) in subst (λ o. IsSome o) (sym is) refl

pub returns-clause-swaps : goal.returns-clause-swaps
returns-clause-swaps g c = let up = c.bring_to_front.new.self in let y = c.requires.held.1 in let p = c.args.p in
    let is = front_is up.seat.me up.seat.table_id up.held.items _ p c.exchange.result (Some y.0) up.facts c.exchange.ensures.slots.0 (c.bring_to_front.ensures.kept p (Some y.0) y.1) in
    let now = c.exchange.ensures.slots.1 in (
      search rules,
      ap (λ m. m.0) now ∙ c.bring_to_front.ensures.same.1,
      subst (λ o. Carries c.args.self.now.seat.me.1 p o) (sym is ∙ c.unwrap.ensures) y.1,
      subst (λ m. Carries m.1 p None) (sym now) (inl refl),
      (λ q x ne h. subst (λ m. Carries m.1 q x) (sym now) (carries_others _ p c.exchange.result None q x ne (subst (λ l. Carries l q x) c.exchange.ensures.slots.0 (c.bring_to_front.ensures.kept q x h)))),
    )

pub returns-clause-only : goal.returns-clause-only
returns-clause-only g c = let me = c.args.self.now in let y = c.requires.held.1 in let p = c.args.p in let up = c.bring_to_front.new.self in
    let is = front_is up.seat.me up.seat.table_id up.held.items _ p c.exchange.result (Some y.0) up.facts c.exchange.ensures.slots.0 (c.bring_to_front.ensures.kept p (Some y.0) y.1) in
    λ z has. same_Some z c.unwrap.result (carries_once me.seat.me me.seat.table_id me.held.items _ p (Some z) (Some y.0) me.facts has y.1 ∙ (sym is ∙ c.unwrap.ensures))
