-- Ends of an instance's channels, one of which changes.
use Rattle.kahn_job.proofs.Common.{arith, ◌≡◌, ◌⊎◌, inl, inr, ⊎_elim, ℕ, ◌<◌, List, length, refl, sym, ap, ◌∙◌, subst, slice_set, slice_index_or, cases_lt, get_or_past, Writes, network_of, instance_at, actual_at, handed_within, Joins, Grows, TaskEnd, Identity, IsSame, identity_of, no_end, AreServed, end_at, identities, HaveAdvanced, HasStayed, Program, Lists, map-set_same, length-map}
use Rattle.std.proofs.Math.ListN.{get_or-map}

pub same_self : (e : TaskEnd) → IsSame e e
same_self e = record { reads = refl; writes = refl; lane = refl; name = refl }

pub same_then : (d e f : TaskEnd) → IsSame d e → IsSame e f → IsSame d f
same_then d e f a b = record { reads = b.reads ∙ a.reads; writes = b.writes ∙ a.writes; lane = b.lane ∙ a.lane; name = b.name ∙ a.name }

pub within_written : (t : Program) (lists : Lists) (p : ℕ) (es : List TaskEnd) → AreServed t lists p es → (q d : ℕ) →
    actual_at (instance_at (network_of t) p) q ≡ Writes d → q < length es
within_written t lists p es h q d e = let l = (handed_within (network_of t) p q d (subst (λ a. Joins a d) (sym e) refl)).1 in let n = h.count in omega (arith, l, n)

identity_same : (old new : TaskEnd) → identity_of new ≡ identity_of old → IsSame old new
identity_same old new e = record {
  reads = ap (λ (i : Identity). i.0) e;
  writes = ap (λ (i : Identity). i.1) e;
  lane = ap (λ (i : Identity). i.2) e;
  name = ap (λ (i : Identity). i.3) e;
}

pub advanced : (old new : List TaskEnd) → identities new ≡ identities old → Grows (λ q. (end_at old q).flushed) (λ q. (end_at new q).flushed) → HaveAdvanced old new
advanced old new e g = record {
  count = sym (length-map new identity_of) ∙ ap (λ (l : List Identity). length l) e ∙ length-map old identity_of;
  same = λ q. identity_same (end_at old q) (end_at new q)
      (sym (get_or-map identity_of new q no_end) ∙ ap (λ l. slice_index_or l q (identity_of no_end)) e ∙ get_or-map identity_of old q no_end);
  flushed = g;
}

-- one of them, which these ports take from or put on, has changed
pub same_ends : (borrow q : ℕ) (es : List TaskEnd) (old new : TaskEnd) → old ≡ slice_index_or es q old → IsSame old new →
    ◌≡◌ {A = ℕ × List Identity} (borrow, identities (slice_set es q new)) (borrow, identities es)
same_ends borrow q es old new is s = ap (λ i. (borrow, i)) (map-set_same identity_of es q new old (same ∙ ap identity_of is))
  where
    same : identity_of new ≡ identity_of old
    same = λ i. (s.reads i, s.writes i, s.lane i, s.name i)

pub past_none : (es : List TaskEnd) (q : ℕ) → (q < length es) ⊎ (end_at es q ≡ no_end)
past_none es q = ⊎_elim inl (λ l. inr (get_or_past es q no_end l)) (cases_lt q (length es))

pub stayed_self : (e : TaskEnd) → HasStayed e e
stayed_self e = record { same = same_self e; next = refl; flushed = refl; ready = λ r. r }
