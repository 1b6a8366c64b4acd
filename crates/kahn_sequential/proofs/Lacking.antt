-- An answer that want of memory cut short.
use Rattle.kahn_sequential.proofs.Common.{fun_ext, arith, ◌≡◌, ◌⊎◌, inl, inr, ℕ, ◌+◌, refl, sym, ap, ◌∙◌, subst, Option, Bool, true, none-some, there, Schema, Reads, instance_at, actual_at, Channel, Cut, Store, Inputs, ending, View, Answer, Ended, Faulted, More, IsCutShort, view_at, IsOutcomeOf, RunState, events_at, IsLast, IsVerdict, LacksMemory, PausedAt, HasEndIn, StoodBy, exec_on, Tapes, End, Outcome, Waits}
use Rattle.kahn_sequential.proofs.Lists.{all_of_it, both_stand, reads_or}
use Rattle.kahn_streams.specs.Script as script
use Rattle.kahn_code.specs.declared.progress.Pause.TheVariants as pause

-- a cell stands on one family of tapes
one_tapes : (N : Schema) (I : Inputs) (watch : Option ℕ) (p : ℕ) (c : View) (a b : StoodBy N I watch p c) → a.tapes ≡ b.tapes
one_tapes N I watch p c a b = fun_ext (λ q. by q (reads_or (actual_at (instance_at N p) q)))
  where
    by : (q : ℕ) → ((d : ℕ) × (actual_at (instance_at N p) q ≡ Reads d)) ⊎ ((d : ℕ) → actual_at (instance_at N p) q ≡ Reads d → ⊥) → a.tapes q ≡ b.tapes q
    by q (inl (d, r)) =
        let e = a.took q ∙ sym (b.took q) in
        sym (all_of_it (a.tapes q) (b.tapes q) (both_stand N I (Channel d) (a.tapes q) (b.tapes q) (a.stand q d r) (b.stand q d r) (omega (arith, e))) e)
    by q (inr n) = a.none q n ∙ sym (b.none q n)

-- what is told of an instance that has a next event
next_told : (s : RunState) (p : ℕ) (o : script.ScriptOutcome Store) (y : Outcome) → o ≡ Cut → IsOutcomeOf s.network s.input s.cells p o y → y ≡ More
next_told s p o Ended cut h = absurd (none-some _ (sym (ap ending cut) ∙ h))
next_told s p o (Faulted k) cut h = absurd (none-some _ (sym (ap ending cut) ∙ h))
next_told s p o (Waits c) cut (q, r, dry, all) = let e : Cut ≡ script.Dry q = sym cut ∙ dry in absurd cc
next_told s p o More cut h = refl

-- one that is paused for want of memory has a next event, so its end says so
pub wants_more : (s : RunState) (p : ℕ) (x : End) → PausedAt s p pause.NoMemory → HasEndIn s p x → x.outcome ≡ More
wants_more s p x paused rests =
    next_told s p (exec_on s.network (events_at s p) p rests.stood.tapes).outcome x.outcome
    (ap (λ (T : Tapes). (exec_on s.network (events_at s p) p T).outcome) (one_tapes s.network s.input s.watch p (view_at s.cells p) rests.stood paused.stood)
    ∙ paused.is)
    rests.told

pub cut_short : (s : RunState) (bound left : ℕ) (memory : Bool) (a : Answer) → IsLast s bound left memory a.ends.items → LacksMemory s left memory →
    IsVerdict memory a.ends.items a.verdict → a.events + left ≡ bound → IsCutShort bound a
cut_short s bound left memory a last lacks rule count f =
    let refused : memory ≡ true = subst (IsVerdict memory a.ends.items) f rule in
    let l = lacks refused in
    let p = l.1.0 in
    let x = there a.ends.items p (omega (arith, l.1.1, last.size, last.known)) in
    (omega (arith, l.0, count), (p, x.0, x.1, wants_more s p x.0 l.1.2 (last.ends p x.0 x.1).0))
