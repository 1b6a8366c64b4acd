-- What many calls make of a held run: it goes on, so each answer says no less than those before it.
use Rattle.kahn_sequential.proofs.Common.{arith, ◌≡◌, inl, inr, ℕ, List, [], ◌∷◌, refl, sym, ap, ◌∙◌, subst, IsPrefix, inputs_of, prefix_refl, prefix_trans, AreCalls, GoesOn, HeldRun, IsAnswerOf, IsCall, IsUnresumed, SaysNoLess, last_of, so_far, values_of, Answer, HeldFault}
use Rattle.kahn_sequential.specs.declared.flow.HeldFault.TheVariants as held

pub goes_on_same : (h : HeldRun) → GoesOn h h
goes_on_same h = record {
  network = refl;
  watch = refl;
  workers = refl;
  quantum = refl;
  input = λ c. prefix_refl (inputs_of h.input c);
  streams = λ c. prefix_refl (so_far h c);
  events = λ p. omega arith;
}

pub goes_on_then : (a b c : HeldRun) → GoesOn a b → GoesOn b c → GoesOn a c
goes_on_then a b c g h = record {
  network = h.network ∙ g.network;
  watch = h.watch ∙ g.watch;
  workers = h.workers ∙ g.workers;
  quantum = h.quantum ∙ g.quantum;
  input = λ d. prefix_trans (inputs_of a.input d) (inputs_of b.input d) (inputs_of c.input d) (g.input d) (h.input d);
  streams = λ d. prefix_trans (so_far a d) (so_far b d) (so_far c d) (g.streams d) (h.streams d);
  events = λ p. let x = g.events p in let y = h.events p in omega (arith, x, y);
}

refused : (old new : HeldRun) → new ≡ old → GoesOn old new
refused old new e = subst (GoesOn old) (sym e) (goes_on_same old)

unresumed : (more : ℕ) (old new : HeldRun) (f : HeldFault) → IsUnresumed more old new f → GoesOn old new
unresumed more old new held.BadMore h = refused old new h.0
unresumed more old new held.NoMemory h = refused old new h.0
unresumed more old new held.NoThread h = h.0.goes_on
unresumed more old new held.Stalled h = absurd h

call : (old new : HeldRun) → IsCall old new → GoesOn old new
call old new (inl (more, v, h)) = h.0.goes_on
call old new (inr (inl (more, f, h))) = unresumed more old new f h
call old new (inr (inr (inl (entry, h)))) = h.goes_on
call old new (inr (inr (inr (entry, f, h)))) = refused old new h.0

pub calls : (h : HeldRun) (later : List HeldRun) → AreCalls h later → GoesOn h (last_of h later)
calls h [] all = goes_on_same h
calls h (x ∷ later) (one, rest) = goes_on_then h x (last_of x later) (call h x one) (calls x later rest)

pub answers : (h k : HeldRun) (a b : Answer) → GoesOn h k → IsAnswerOf h a → IsAnswerOf k b → SaysNoLess a b
answers h k a b g x y = record {
  streams = λ s z u w e.
      subst (λ vs. IsPrefix vs (values_of z)) (sym (x.streams s u))
      (subst (IsPrefix (so_far h s.line)) (ap (so_far k) e ∙ sym (y.streams z w)) (g.streams s.line));
  events = λ p c d u w. let m = g.events p in let i = x.events p c u in let j = y.events p d w in omega (arith, m, i, j);
}
