use Rattle.kahn_board.proofs.Common.{◌≡◌, ℕ, ◌<◌, List, Option, Some, map, get_or, arith, sym, ap, ◌∙◌, subst, Carries, IsIn, Seat, SeatView, only, total}
use Rattle.std.specs.Option.{option_map, unwrap_or}
use denote.Bor.{Bor}
use Rattle.kahn_board.proofs.{Counting.before, Counting.before_turned, Counting.some_listed, Seats.carries_shifted, Seats.first_is, Seats.numbers_shifted}
use Rattle.kahn_board.proofs.seat.Seat.bring_to_front.Goals as goal

-- an instance in the hands is listed
is_listed : {T : Type 0} (me : Seat T) (p : ℕ) (v : SeatView) → me.seat.me.0 ≡ v → IsIn v p → 0 < total (only p) me.held.items
is_listed me p v is is_in = omega (arith, me.facts.4 p, ap (λ (u : SeatView). get_or u.hands p 0) is, is_in)

-- what is read at the front
first_read : (items : List ℕ) (o : Option (Bor ℕ)) (x : Bor ℕ) → o ≡ Some x → ((d : ℕ) → unwrap_or (option_map (λ (y : Bor ℕ). y.now) o) d ≡ get_or items 0 d) → x.now ≡ get_or items 0 0
first_read items o x is f = subst (λ k. unwrap_or (option_map (λ (y : Bor ℕ). y.now) k) 0 ≡ get_or items 0 0) is (f 0)

pub unwrap-requires : goal.unwrap-requires
unwrap-requires g c = let me = c.loop-self.self in
    c.front.ensures.item.2 (some_listed (only c.args.p) me.held.items (is_listed me c.args.p _ c.loop-self.invariant.1 c.requires))

pub rotate-requires : goal.rotate-requires
rotate-requires g c = let me = c.loop-self.self in
    some_listed (only c.args.p) me.held.items (is_listed me c.args.p _ c.loop-self.invariant.1 c.requires)

pub loop-self-smaller : goal.loop-self-smaller
loop-self-smaller g c = let me = c.loop-self.self in
    subst (λ (l : List ℕ). before c.args.p l < before c.args.p me.held.items)
    (sym (sym c.rotate.new.self.facts.3 ∙ (ap (λ m. map (λ x. x.0) m.1) c.rotate.ensures.1 ∙ numbers_shifted me.seat.me.1 me.held.items me.facts.3 (some_listed (only c.args.p) me.held.items (is_listed me c.args.p _ c.loop-self.invariant.1 c.requires)))))
    (before_turned c.args.p me.held.items (is_listed me c.args.p _ c.loop-self.invariant.1 c.requires) (λ e. c.loop-self-test.true (first_read me.held.items _ c.unwrap.result c.unwrap.ensures (c.front.ensures.item.4 (omega arith)) ∙ e)))

pub loop-self-preserved : goal.loop-self-preserved
loop-self-preserved g c = let i = c.loop-self.invariant in let t = c.rotate.ensures in
    ((t.0.0 ∙ i.0.0, t.0.1 ∙ i.0.1), ap (λ m. m.0) t.1 ∙ i.1, (λ q x h. subst (λ m. Carries m.1 q x) (sym t.1) (carries_shifted _ q x (i.2 q x h))))

pub returns-clause-first : goal.returns-clause-first
returns-clause-first g c = let me = c.loop-self.self in
    first_is me.seat.me.1 me.held.items c.args.p me.facts.3 (some_listed (only c.args.p) me.held.items (is_listed me c.args.p _ c.loop-self.invariant.1 c.requires)) (sym (first_read me.held.items _ c.unwrap.result c.unwrap.ensures (c.front.ensures.item.4 (omega arith))) ∙ c.loop-self-test.false)
