use Rattle.kahn_crew.proofs.Common.{arith, ◌≡◌, ◌+◌, List, [], ◌∷◌, ◌++◌, length, All, map, reverse, refl, sym, ap, ◌∙◌, subst, Option, option_to_list, append_assoc, length-append, map-append, All-push, Seat, Tasked, reverse-append, Worker, WantsNone, seat_of}
use Rattle.kahn_crew.proofs.crew.workers_at.Goals as goal

longer : {A : Type 0} {ys : List A} (xs : List A) (x : A) → ys ≡ xs ++ x ∷ [] → length ys ≡ length xs + 1
longer xs x e = omega (arith, ap length e, length-append xs (x ∷ []))

pub loop-seat-preserved : goal.loop-seat-preserved
loop-seat-preserved c =
    let i = c.loop-seat.invariant in
    let before = c.loop-seat.workers.items in
    let rest = c.pop.new.self.items in
    let s = c.in-Some.seat in
    let items = c.push_reserved.ensures.items in
    let popped = c.in-Some.ensures.items in
    let taken = c.pop-in-Some.ensures.items ∙ ap (λ (o : Option _). c.pop-in-Some.new.self.items ++ option_to_list o) c.unwrap-own.ensures in (
      ap (λ (l : List Worker). map seat_of l ++ reverse rest) items ∙ (ap (λ (l : List (Seat Tasked)). l ++ reverse rest) (map-append seat_of before _) ∙
          (append_assoc (map seat_of before) (s ∷ []) (reverse rest) ∙ (ap (λ (l : List (Seat Tasked)). map seat_of before ++ l) (sym (reverse-append rest (s ∷ []))) ∙
          (ap (λ (l : List (Seat Tasked)). map seat_of before ++ reverse l) (sym popped) ∙ i.0)))),
      subst (All WantsNone) (sym items) (All-push WantsNone before _ i.1 refl),
      omega (arith, i.2, longer c.pop-in-Some.new.self.items _ taken, longer rest _ popped),
      omega (arith, i.3, longer before _ items, longer rest _ popped, c.push_reserved.ensures.capacity),
      omega (arith, i.4, longer before _ items, longer rest _ popped),
    )
