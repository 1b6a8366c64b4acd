use Rattle.kahn_board.proofs.Common.{rules, ◌≡◌, refl, sym, arith, ap, ◌∙◌, holds, after_step, steps_of, dite, ℕ_discrete}
use Rattle.kahn_board.proofs.{Hot.looks_halted, Hot.looks_count, Hot.looks_budget, Keeps.was_at, Placed.placed, Placed.noted}
use Rattle.kahn_board.proofs.seat.Seat.look.Goals as goal

pub load-requires : goal.load-requires
load-requires g c = let b = c.args.board.now in (
  search rules,
  omega (arith, c.halted_word.ensures, b.sized.0, b.counts.0, b.counts.1),
  looks_halted _ _ _ _ _ _ _ _ (placed b c.args.self.now c.requires.board) c.halted_word.ensures,
  (λ r _ t. dite (ℕ_discrete r 0) (λ z. ap steps_of (t.1 z).1) (λ ne. ap steps_of (t.0 ne))),
)

pub load-requires-2 : goal.load-requires-2
load-requires-2 g c = let b = c.args.board.now in let z = c.load.ensures.2.0.1 c.if-load-ne0.false in (
  search rules,
  omega (arith, c.count_word.ensures, b.sized.0, b.counts.0, b.counts.1),
  looks_count _ _ _ _ _ _ _ _ (noted _ _ _ z.1 (placed b c.args.self.now c.requires.board)) (λ two. z.0 (ap (λ k. k.0.seen) (sym z.1) ∙ two)) c.count_word.ensures,
  (λ r _ t. dite (ℕ_discrete r 0) (λ z. ap steps_of (t.0 z)) (λ ne. ap steps_of (t.1 ne).1)),
)

pub load-requires-3 : goal.load-requires-3
load-requires-3 g c = let b = c.args.board.now in let z = c.load.ensures.2.0.1 c.if-load-ne0.false in let z' = c.load-2.ensures.2.0.1 c.if-load-eq0.false in (
  search rules,
  omega (arith, c.budget_word.ensures, b.sized.0, b.counts.0, b.counts.1),
  looks_budget _ _ _ _ _ _ _ _ (noted _ _ _ z'.1 (noted _ _ _ z.1 (placed b c.args.self.now c.requires.board))) c.budget_word.ensures,
  (λ r _ t. dite (ℕ_discrete r 0) (λ z. ap steps_of (t.0 z)) (λ ne. ap steps_of (t.1 ne))),
)

pub returns-else-load-eq0-2 : goal.returns-else-load-eq0-2
returns-else-load-eq0-2 g c = let b = c.args.board.now in let rule = holds g.T.Reports.told g.T.Reports.after b.table.shared.key in let m = c.args.self.now.seat in let none = c.if-load-ne0.false in
    let e = c.load.ensures in let e' = c.load-2.ensures in let e'' = c.load-3.ensures in let z = e.2.0.1 none in let z' = e'.2.0.1 c.if-load-eq0.false in
    let one : c.load.new.seat.me ≡ (after_step m.me.0, m.me.1) = z.1 in
    let two : c.load-2.new.seat.me ≡ (after_step (after_step m.me.0), m.me.1) = z'.1 ∙ ap (λ k. (after_step k.0, k.1)) one in (
      ((e''.0 ∙ (e'.0 ∙ e.0), e''.1 ∙ (e'.1 ∙ e.1)), e''.2.0.1 c.if-load-eq0-2.false ∙ ap (λ k. (after_step k.0, k.1)) two),
      (
        c.load-3.result,
        c.if-load-eq0-2.false,
        (
          z.0,
          (λ is. z'.0 (ap (λ k. k.0.seen) one ∙ is)),
          was_at rule _ _ _ _ _ _ _ _ refl refl c.halted_word.ensures none e.2.1,
          (c.load-2.result, c.if-load-eq0.false, was_at rule _ _ _ _ _ _ _ _ e.1 (ap (λ k. k.0) one) c.count_word.ensures refl e'.2.1),
          was_at rule _ _ _ _ _ _ _ _ (e'.1 ∙ e.1) (ap (λ k. k.0) two) c.budget_word.ensures refl e''.2.1,
        ),
      ),
    )
