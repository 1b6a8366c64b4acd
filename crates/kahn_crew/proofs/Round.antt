-- A worker that goes round all instances, and finds none that is ready.
use Rattle.kahn_crew.proofs.Common.{Option, Some, None, arith, ◌≡◌, ℕ, ◌+◌, ◌-◌, ◌*◌, ◌%◌, ◌<◌, refl, ap, ◌∙◌, subst, dite, ℕ_discrete, add-mod_left, mod-eq_of_lt, mod-lt, holds, Seat, Run, HasPicked, IsSameWorker, WasNotReady, terms_of, Tasked, IsLater, told_tale, Bool, Sat, sym, LooksAt, RestsWith, SitsWith, Worker}
use Rattle.kahn_board.proofs.Keeps.{was_at}

-- each is met once
met : (n a p : ℕ) → a < n → p < n → (k : ℕ) × (k < n) × ((a + k) % n ≡ p)
met n a p la lp = by (p - a) refl (a - p) refl
  where
    by : (d : ℕ) → p - a ≡ d → (e : ℕ) → a - p ≡ e → (k : ℕ) × (k < n) × ((a + k) % n ≡ p)
    by d is e f = dite (ℕ_discrete e 0)
        (λ z. (d, omega (arith, is, lp), ap (λ k. k % n) (omega (arith, is, f, z)) ∙ mod-eq_of_lt lp))
        (λ ne. (n - e, omega (arith, f, la, ne), ap (λ k. k % n) (omega (arith, f, la, ne)) ∙ (add-mod_left n p ∙ mod-eq_of_lt lp)))

-- a seat that looked rests as it did
pub looked : (run : Run) (s t : Seat Tasked) (p n : ℕ) (b : Bool) → LooksAt told_tale IsLater (terms_of run) s t p b → SitsWith run n s → SitsWith run n t
looked run s t p n b e r = (e.0.0.0 ∙ r.0, subst (λ (m : Sat Tasked). RestsWith n m.0) (sym e.0.1) r.1)

-- it is the same worker's
pub still_same : (run : Run) (a b d : Worker) → IsSameWorker a b → IsSameWorker b d × SitsWith run 0 d.seat → IsSameWorker a d × SitsWith run 0 d.seat
still_same run a b d f (s, i) = (((s.0.0 ∙ f.0.0, s.0.1 ∙ f.0.1, s.0.2 ∙ f.0.2, s.0.3 ∙ f.0.3), s.1 ∙ f.1, s.2 ∙ f.2), i)

-- the same seat tells it
pub not_ready_of : (run : Run) (s t : Seat Tasked) (p : ℕ) → t.seat.id ≡ s.seat.id → WasNotReady run t p → WasNotReady run s p
not_ready_of run s t p same w = (w.0, w.1, w.2, was_at (holds told_tale IsLater (terms_of run)) t.seat.id s.seat.id w.0 w.0 (8 * p) (8 * p) w.1 w.1 same refl refl refl w.3)

-- once it has gone round, each wasn't ready at a moment
pub none_ready : (run : Run) (s : Seat Tasked) (n start : ℕ) → ((k : ℕ) → k < n → WasNotReady run s ((start % n + k) % n)) → (p : ℕ) → p < n → WasNotReady run s p
none_ready run s n start each p lt =
    let m = met n (start % n) p (mod-lt start (omega (arith, lt))) lt in
    subst (WasNotReady run s) m.2 (each m.0 m.1)

-- the same worker picked before
pub picked_since : (run : Run) (a b c : Worker) (found : Option ℕ) → IsSameWorker a b → HasPicked run found b c → HasPicked run found a c
picked_since run a b c None same h = (h.0, λ p lt. not_ready_of run a.seat b.seat p same.0.1 (h.1 p lt))
picked_since run a b c (Some p) same h = h
