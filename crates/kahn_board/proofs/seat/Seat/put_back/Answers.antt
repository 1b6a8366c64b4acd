use Rattle.kahn_board.proofs.Common.{rules, Some, None, sym, ap, ◌∙◌, subst, refl, inl, Carries}
use Rattle.kahn_board.proofs.Seats.{front_is, carries_others}
use Rattle.kahn_board.proofs.seat.Seat.put_back.Goals as goal

pub unreachable-requires : goal.unreachable-requires
unreachable-requires g c = let up = c.bring_to_front.new.self in
    let is = front_is up.seat.me up.seat.table_id up.held.items _ c.args.p c.exchange-old.result None up.facts c.exchange-old.ensures.slots.0 (c.bring_to_front.ensures.kept c.args.p None c.requires.held.1) in c.in_default.not-None is

pub returns : goal.returns
returns g c = let p = c.args.p in let now = c.exchange-old.ensures.slots.1 in (
  search rules,
  ap (λ m. m.0) now ∙ c.bring_to_front.ensures.same.1,
  c.requires.held.1,
  subst (λ m. Carries m.1 p (Some c.args.cell)) (sym now) (inl refl),
  (λ q x ne h. subst (λ m. Carries m.1 q x) (sym now) (carries_others _ p c.exchange-old.result (Some c.args.cell) q x ne (subst (λ l. Carries l q x) c.exchange-old.ensures.slots.0 (c.bring_to_front.ensures.kept q x h)))),
)
