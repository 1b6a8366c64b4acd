-- A worker that halts the run where memory is wanted, and nowhere else.
use Rattle.kahn_crew.proofs.Common.{arith, inl, inr, ℕ, Bool, ◌∙◌, Heeds, IsSameWorker, RaisesAsWanted, Worker}

raises_then : (a b c : Bool) (i j k : ℕ) → RaisesAsWanted a i b j → RaisesAsWanted b j c k → RaisesAsWanted a i c k
raises_then a b c i j k (inl x) (inl y) = inl (y.0 ∙ x.0, y.1 ∙ x.1)
raises_then a b c i j k (inl x) (inr y) = inr (omega (arith, x.0, y.0), y.1)
raises_then a b c i j k (inr x) (inl y) = inr (omega (arith, x.0, y.0), y.1 ∙ x.1)
raises_then a b c i j k (inr x) (inr y) = inr (omega (arith, x.0, y.0), y.1)

pub heeds_then : (a b c : Worker) → Heeds a b → Heeds b c → Heeds a c
heeds_then a b c f g = (
  g.0 ∙ f.0,
  g.1 ∙ f.1,
  g.2 ∙ f.2,
  raises_then a.hints.wanted b.hints.wanted c.hints.wanted a.seat.seat.me.0.raised b.seat.seat.me.0.raised c.seat.seat.me.0.raised f.3 g.3,
  g.4 ∙ f.4,
)

-- one that didn't halt the run
pub heeds_still : (a b : Worker) → IsSameWorker a b → Heeds a b
heeds_still a b f = (f.0.0, f.0.1, f.0.2, inl (f.0.3, f.1), f.2)
