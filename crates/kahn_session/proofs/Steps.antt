-- The sum of all bounds of a part, and the events so far.
use Rattle.kahn_session.proofs.Common.{arith, ◌≡◌, ◌∙◌, ℕ, zero, suc, ◌+◌, ◌≤◌, List, [], ◌∷◌, sum_by, refl, sym, ap, subst, HasResumed, HeldRun, Seen, seen_at, seen_events, Flowing, IsUnpoured, IsNotMeant, Entry, Program, Pace, events_of, most_bound, part_bound}
use Rattle.std.proofs.{lemmas.List.Sums.sum_by-cons, Math.Nat.min-le_left, Math.Nat.min-le_right}
use Rattle.kahn_streams.proofs.Fed.{not_many, not_memory}
use Rattle.kahn_streams.specs.{declared.feeds.FeedFault.FeedFault, declared.feeds.FeedFault.TheVariants.NoMemory, declared.feeds.FeedFault.TheVariants.NotAnInput, declared.feeds.FeedFault.TheVariants.TooMany, declared.feeds.FeedFault.TheVariants.UnknownName, declared.feeds.FeedFault.TheVariants.WrongKind}

-- where no process has fewer events, neither have all together
no_fewer : (xs ys : List Seen) → ((p : ℕ) → (seen_at xs p).events ≤ (seen_at ys p).events) → sum_by seen_events xs ≤ sum_by seen_events ys
no_fewer [] ys h = omega arith
no_fewer (x ∷ xs) [] h =
    let more = sum_by-cons seen_events x xs in
    let first : x.events ≤ 0 = h 0 in
    let rest = no_fewer xs [] (λ p. subst (λ (s : Seen). (seen_at xs p).events ≤ s.events) (past p) (h (suc p))) in
    omega (arith, more, first, rest)
  where
    past : (p : ℕ) → seen_at [] (suc p) ≡ seen_at [] p
    past zero = refl
    past (suc p) = refl
no_fewer (x ∷ xs) (y ∷ ys) h =
    let one = sum_by-cons seen_events x xs in
    let two = sum_by-cons seen_events y ys in
    let first : x.events ≤ y.events = h 0 in
    let rest = no_fewer xs ys (λ p. h (suc p)) in
    omega (arith, one, two, first, rest)

-- what stays true of a run that was allowed so many events more
pub after_part : (h k : HeldRun) (step allowed more : ℕ) → allowed ≡ h.bound → h.bound + more ≡ part_bound step h → HasResumed more h k
    → (allowed + more ≡ k.bound) × (k.bound ≤ most_bound) × (k.bound ≤ events_of k + step)
after_part h k step allowed more is part resumed =
    let whole : k.bound ≡ part_bound step h = resumed.bound ∙ part in
    let events : events_of h ≤ events_of k = no_fewer h.cells k.cells resumed.goes_on.events in
    let most : k.bound ≤ most_bound = subst (λ n. n ≤ most_bound) (sym whole) (min-le_right (events_of h + step) most_bound) in
    let few : k.bound ≤ events_of h + step = subst (λ n. n ≤ events_of h + step) (sym whole) (min-le_left (events_of h + step) most_bound) in
    (ap (λ n. n + more) is ∙ sym resumed.bound, most, omega (arith, few, events))

-- one with the same flow
pub one_pace : (p q : Pace) → p.flow ≡ q.flow → p ≡ record q { flow = p.flow } → p ≡ q
one_pace p q flow rest = rest ∙ ap (λ (f : Flowing). record q { flow = f }) flow

-- a refusal changes nothing, and is one of what stands
pub unpoured : (entry : Entry) (a b : Flowing) (f : FeedFault) → IsUnpoured entry a b f → (b ≡ a) × IsUnpoured entry a a f
unpoured entry a b TooMany (same, meant, why) = (same, (refl, meant, why))
unpoured entry a b NoMemory (same, meant) = (same, (refl, meant))
unpoured entry a b UnknownName (same, why) = (same, (refl, why))
unpoured entry a b NotAnInput (same, why) = (same, (refl, why))
unpoured entry a b WrongKind (same, why) = (same, (refl, why))

-- what isn't meant for an input channel isn't fed
pub unmeant : (t : Program) (entry : Entry) (h : Flowing) (f : FeedFault) → h.run.network ≡ t → IsNotMeant t entry f → IsUnpoured entry h h f
unmeant t entry h TooMany same why = absurd (not_many t entry why)
unmeant t entry h NoMemory same why = absurd (not_memory t entry why)
unmeant t entry h UnknownName same why = (refl, subst (λ (s : Program). IsNotMeant s entry UnknownName) (sym same) why)
unmeant t entry h NotAnInput same why = (refl, subst (λ (s : Program). IsNotMeant s entry NotAnInput) (sym same) why)
unmeant t entry h WrongKind same why = (refl, subst (λ (s : Program). IsNotMeant s entry WrongKind) (sym same) why)
