-- The queues, which count what is taken.
use Rattle.kahn_needs.proofs.Common.{arith, ◌≡◌, inl, inr, ◌⊎◌, ◌+◌, ◌<◌, ℕ, List, length, replicate, refl, sym, ap, ◌∙◌, subst, slice_get, slice_set, length-replicate, length-set, get_or-set_other, get_or-set_same, cases_eq, Lists, Reads, Writes, actual_at, instance_at, network_of, Program, AreFirst, AreQueued, Lines, actual_here, next_at, place_at, taken_of, LeavesOthers, Site, count, IsTally, Tallied, reads_listed, taken_zero}
use Rattle.kahn_code.specs.Standing.{DoesRead, DoesWrite, Moved, Stays}
use Rattle.kahn_streams.proofs.Entered.{none_of}

pub tally_first : (t : Program) (lists : Lists) (s : Lines) (n : ℕ) (taken : List ℕ) → AreQueued s → (s.network ≡ t) × (s.input ≡ lists) → AreFirst t lists s.queues →
    n ≡ length (network_of t).channels → taken ≡ replicate n 0 → IsTally s taken
tally_first t lists s n taken queued names first size none = record {
  queued = queued;
  size = ap length none ∙ length-replicate n 0 ∙ size ∙ ap (λ k. length (network_of k).channels) (sym names.0);
  read = λ p q d r. zero_at d ∙ sym (taken_zero t lists s.queues first d _ refl);
  unread = λ d h. zero_at d;
}
  where
    zero_at : (d : ℕ) → count taken d ≡ 0
    zero_at d = ap (λ l. count l d) none ∙ none_of n d 0

abbrev pub site_of_lines : Lines → Site
site_of_lines s = record { network = s.network; input = s.input; instance = s.instance }

abbrev pub next_of : Lines → ℕ → ℕ
next_of s q = next_at s.queues (actual_here s q)

-- the channel that a parameter reads is counted, and its next place is how many were taken
pub read_at : (s : Lines) (taken : List ℕ) → IsTally s taken → (q d : ℕ) → DoesRead (site_of_lines s) q d → (d < length taken) × (next_of s q ≡ count taken d)
read_at s taken h q d reads =
    let l = reads_listed s.network h.queued.wired s.instance q d reads in
    (omega (arith, l, h.size), ap (next_at s.queues) reads ∙ sym (h.read s.instance q d reads))

-- what holds of a parameter in what contracts see of them
pub as_seen : {v : Tallied} (s : Lines) (taken : List ℕ) (P : Lines → Type 0) → record { lines = s; taken = taken } ≡ v → P v.lines → P s
as_seen s taken P is = subst (λ (v : Tallied). P v.lines) (sym is)

module _ (s s' : Lines) (taken : List ℕ) (h : IsTally s taken) (site : site_of_lines s' ≡ site_of_lines s) (others : LeavesOthers (site_of_lines s) (place_at s) (place_at s'))
    (queued : AreQueued s') where
  same : s'.network ≡ s.network
  same = ap (λ (x : Site). x.network) site

  same_instance : s'.instance ≡ s.instance
  same_instance = ap (λ (x : Site). x.instance) site

  actual_before : (p q d : ℕ) → actual_at (instance_at (network_of s'.network) p) q ≡ Reads d → actual_at (instance_at (network_of s.network) p) q ≡ Reads d
  actual_before p q d r = ap (λ t. actual_at (instance_at (network_of t) p) q) (sym same) ∙ r

  actual_after : (p q d : ℕ) → actual_at (instance_at (network_of s.network) p) q ≡ Reads d → actual_at (instance_at (network_of s'.network) p) q ≡ Reads d
  actual_after p q d r = ap (λ t. actual_at (instance_at (network_of t) p) q) same ∙ r

  -- the next place of a parameter that reads is how many were taken
  place_before : (p q d : ℕ) → actual_at (instance_at (network_of s.network) p) q ≡ Reads d → place_at s p q ≡ taken_of (slice_get s.queues d)
  place_before p q d r = ap (next_at s.queues) r

  place_after : (p q d : ℕ) → actual_at (instance_at (network_of s.network) p) q ≡ Reads d → place_at s' p q ≡ taken_of (slice_get s'.queues d)
  place_after p q d r = ap (next_at s'.queues) (actual_after p q d r)

  next_after : (q : ℕ) → next_of s' q ≡ place_at s' s.instance q
  next_after q = ap (λ p. place_at s' p q) same_instance

  stays_by : (p q d : ℕ) → actual_at (instance_at (network_of s.network) p) q ≡ Reads d → (p ≡ s.instance → next_of s' q ≡ next_of s q) →
      taken_of (slice_get s'.queues d) ≡ taken_of (slice_get s.queues d)
  stays_by p q d r own = sym (place_after p q d r) ∙ by (cases_eq p s.instance) ∙ place_before p q d r
    where
      by : (p ≡ s.instance) ⊎ (p ≡ s.instance → ⊥) → place_at s' p q ≡ place_at s p q
      by (inl e) = ap (λ o. place_at s' o q) e ∙ sym (next_after q) ∙ own e ∙ ap (λ o. place_at s o q) (sym e)
      by (inr n) = others p q n

  sized : length taken ≡ length (network_of s'.network).channels
  sized = h.size ∙ ap (λ t. length (network_of t).channels) (sym same)

  pub tally_same : Stays (next_of s) (next_of s') → IsTally s' taken
  tally_same stays = record {
    queued = queued;
    size = sized;
    read = λ p q d r. let r' = actual_before p q d r in h.read p q d r' ∙ sym (stays_by p q d r' (λ e. stays q));
    unread = λ d none. h.unread d (λ p q r. none p q (actual_after p q d r));
  }

  -- what is put on a channel is taken from none
  pub tally_put : (q d : ℕ) → DoesWrite (site_of_lines s) q d → Moved (next_of s) (next_of s') q → IsTally s' taken
  tally_put q d writes moved = record {
    queued = queued;
    size = sized;
    read = λ p r e a. let a' = actual_before p r e a in h.read p r e a' ∙ sym (stays_by p r e a' (λ o. moved.1 r (λ g. no_reader (own p r e o a') g)));
    unread = λ e none. h.unread e (λ p r a. none p r (actual_after p r e a));
  }
    where
      own : (p r e : ℕ) → p ≡ s.instance → actual_at (instance_at (network_of s.network) p) r ≡ Reads e → actual_at (instance_at (network_of s.network) s.instance) r ≡ Reads e
      own p r e o a = subst (λ k. actual_at (instance_at (network_of s.network) k) r ≡ Reads e) o a

      no_reader : {r e : ℕ} → actual_at (instance_at (network_of s.network) s.instance) r ≡ Reads e → r ≡ q → ⊥
      no_reader {r} {e} a g = let f : Reads e ≡ Writes d = sym a ∙ ap (actual_at (instance_at (network_of s.network) s.instance)) g ∙ writes.0 in absurd cc

  module _ (q d n : ℕ) (reads : DoesRead (site_of_lines s) q d) (one : n ≡ count taken d + 1) (moved : Moved (next_of s) (next_of s') q) where
    here : d < length taken
    here = (read_at s taken h q d reads).0

    abbrev pub more : List ℕ
    more = slice_set taken d n

    at_here : count more d ≡ n
    at_here = get_or-set_same taken d n 0 here

    elsewhere : (e : ℕ) → (e ≡ d → ⊥) → count more e ≡ count taken e
    elsewhere e other = get_or-set_other taken d e n 0 other

    was : next_of s q ≡ count taken d
    was = (read_at s taken h q d reads).1

    is : taken_of (slice_get s'.queues d) ≡ next_of s' q
    is = sym (next_after q ∙ place_after s.instance q d reads)

    read_more : (p r e : ℕ) → actual_at (instance_at (network_of s'.network) p) r ≡ Reads e → count more e ≡ taken_of (slice_get s'.queues e)
    read_more p r e a = by (cases_eq e d)
      where
        a' : actual_at (instance_at (network_of s.network) p) r ≡ Reads e
        a' = actual_before p r e a

        by : (e ≡ d) ⊎ (e ≡ d → ⊥) → count more e ≡ taken_of (slice_get s'.queues e)
        by (inl f) = subst (λ k. count more k ≡ taken_of (slice_get s'.queues k)) (sym f) (omega (arith, at_here, one, was, is, moved.0))
        by (inr f) = elsewhere e f ∙ h.read p r e a' ∙ sym (stays_by p r e a' (λ o. moved.1 r (λ g. f (same_channel (sym (subst (λ k. actual_at (instance_at (network_of s.network) k) r ≡ Reads e) o a') ∙ ap (actual_at (instance_at (network_of s.network) s.instance)) g ∙ reads)))))
          where
            same_channel : {x y : ℕ} → Reads x ≡ Reads y → x ≡ y
            same_channel z = cc

    pub tally_more : IsTally s' more
    tally_more = record {
      queued = queued;
      size = length-set taken d n ∙ sized;
      read = read_more;
      unread = λ e none. by e none (cases_eq e d);
    }
      where
        by : (e : ℕ) → ((p r : ℕ) → actual_at (instance_at (network_of s'.network) p) r ≡ Reads e → ⊥) → (e ≡ d) ⊎ (e ≡ d → ⊥) → count more e ≡ 0
        by e none (inl f) = absurd (none s.instance q (actual_after s.instance q e (reads ∙ ap Reads (sym f))))
        by e none (inr f) = elsewhere e f ∙ h.unread e (λ p r a. none p r (actual_after p r e a))
