-- Finished answers say the same.
use Rattle.kahn_sequential.proofs.Common.{arith, ◌≡◌, ℕ, zero, suc, List, [], ◌∷◌, length, map, sum_by, refl, sym, ap, ◌∙◌, subst, Option, Some, slice_get, Schema, Actual, Reads, Writes, Hands, instance_at, actual_at, Inputs, HasEnd, IsWhole, Ending, determined, Answer, Stream, Finished, Ended, Faulted, More, IsRight, IsEnd, AreOne, stream_line, values_of, end_events, End, Outcome, Waits}
use Rattle.kahn_streams.specs.Solution as net

-- the channel of a parameter
channel_of : Actual → ℕ
channel_of (Reads c) = c
channel_of (Writes c) = c
channel_of (Hands v) = 0

outcome_of : Schema → ℕ → Ending → Outcome
outcome_of N p net.Ended = Ended
outcome_of N p (net.Faulted k) = Faulted k
outcome_of N p (net.Waiting q) = Waits (channel_of (actual_at (instance_at N p) q))

told : (N : Schema) (I : Inputs) (p e : ℕ) (o : Outcome) → IsEnd N I p o e → (y : Ending) × HasEnd N I p y e × (o ≡ outcome_of N p y)
unfolding outcome_of channel_of
told N I p e Ended h = (net.Ended, h, refl)
told N I p e (Faulted k) h = (net.Faulted k, h, refl)
told N I p e (Waits c) h = (net.Waiting h.0, h.2, ap (λ a. Waits (channel_of a)) (sym h.1))
told N I p e More h = absurd h

same_end : (N : Schema) (I : Inputs) (p : ℕ) (x y : End) → IsEnd N I p x.outcome x.events → IsEnd N I p y.outcome y.events → x ≡ y
same_end N I p x y h g =
    let a = told N I p x.events x.outcome h in
    let b = told N I p y.events y.outcome g in
    let d = (determined N I).one_end p x.events y.events a.0 b.0 a.1 b.1 in
    let o : x.outcome ≡ y.outcome = a.2 ∙ (ap (outcome_of N p) d.0 ∙ sym b.2) in
    λ j. record { outcome = o j; events = d.1 j }

same_lists : (xs ys : List End) → length xs ≡ length ys →
    ((p : ℕ) (x y : End) → slice_get xs p ≡ Some x → slice_get ys p ≡ Some y → x ≡ y) → xs ≡ ys
same_lists [] [] l h = refl
same_lists (x ∷ xs) (y ∷ ys) l h =
    ap (λ z. z ∷ xs) (h zero x y refl refl) ∙ ap (λ zs. y ∷ zs) (same_lists xs ys (omega (arith, l)) (λ p. h (suc p)))
same_lists xs ys l h = absurd (omega (arith, l))

same_streams : (N : Schema) (I : Inputs) (ss ts : List Stream) → map stream_line ss ≡ map stream_line ts →
    ((j : ℕ) (s : Stream) → slice_get ss j ≡ Some s → IsWhole N I s.line (values_of s)) →
    ((j : ℕ) (t : Stream) → slice_get ts j ≡ Some t → IsWhole N I t.line (values_of t)) → map values_of ss ≡ map values_of ts
same_streams N I [] [] e h g = refl
same_streams N I (s ∷ ss) (t ∷ ts) e h g =
    let l : s.line ≡ t.line = cc in
    let w : IsWhole N I t.line (values_of s) = subst (λ c. IsWhole N I c (values_of s)) l (h zero s refl) in
    let v : values_of s ≡ values_of t = (determined N I).one_whole t.line (values_of s) (values_of t) w (g zero t refl) in
    ap (λ z. z ∷ map values_of ss) v ∙
    ap (λ zs. values_of t ∷ zs) (same_streams N I ss ts (cc) (λ j. h (suc j)) (λ j. g (suc j)))
same_streams N I ss ts e h g = absurd cc

pub finished_is_one : (N : Schema) (I : Inputs) (watch : Option ℕ) (n m : ℕ) (a b : Answer) → IsRight N I n watch a → IsRight N I m watch b →
    a.verdict ≡ Finished → b.verdict ≡ Finished → AreOne a b
finished_is_one N I watch n m a b r s f g =
    record {
      lines = lines;
      values = same_streams N I a.streams.items b.streams.items lines (λ j x e. r.whole f x (j, e)) (λ j x e. s.whole g x (j, e));
      ends = ends;
      events = r.run.total ∙ (ap (λ l. sum_by end_events l) ends ∙ sym s.run.total);
    }
  where
    lines : map stream_line a.streams.items ≡ map stream_line b.streams.items
    lines = r.named ∙ sym s.named

    ends : a.ends.items ≡ b.ends.items
    ends =
        same_lists a.ends.items b.ends.items (r.run.instances ∙ sym s.run.instances) (λ p x y h k.
        same_end N I p x y (r.run.ended f p x h) (s.run.ended g p y k))
