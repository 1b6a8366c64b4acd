-- The laws of needs, proved.
use Rattle.kahn_needs.proofs.Common.{fun_ext, arith, ◌≡◌, ℕ, zero, suc, ◌≤◌, ◌<◌, List, [], ◌∷◌, ◌++◌, length, take, refl, sym, ap, ◌∙◌, subst, le_refl, le_trans, Option, Some, None, slice_get, slice_index_or, get_or_past, take-append-le, slice_get_within, Value, Line, Channel, Schema, idle, instance_at, Given, Written, Histories, Inputs, out, source, iterate, IsPrefix, Stands, AreInputsExtended, AreRight, prefix_refl, prefix_trans, prefix_get, feeds, out_grows, chain, one_value, inputs_grow, stand_in, Cut, first_values, held_in, Suffices, IsCutWithin, AreNeeds, AreInOrder, AreParts, HaveNeeds, AreOneCut, AreEnough, AreExact, IsMadeIn, AreRunsNeeds, AreDone, AreSameNeeds, IsTight, AreTight}
use Rattle.std.proofs.Math.Nat.{le_antisymm}
use Rattle.kahn_streams.specs.{declared.answer.End.End, declared.answer.Verdict.Verdict}
use Rattle.kahn_needs.proofs.{Needing.take_below, Needing.held_all, Needing.held_made, Needing.held_more, Needing.held_stands, Needing.held_within, Needing.Found, Needing.found, Ways.get_there}

pub parts : (N : Schema) (I : Inputs) → AreParts N I
parts N I = record { more = λ x y w n. held_within N I x y w n n (le_refl n); begin = λ x n c. stand_in N I c (held_in N I x n c) (held_all N I x n c) }

-- ---- a place that is filled has the value that stands there

module _ (N : Schema) (I : Inputs) (c : Line) (k : ℕ) (v : Value) where
  stands_below : (x : Cut) → Suffices N I c k v x → Stands N I c k v
  stands_below x s = held_all N I x s.0 c k v s.1

  pub suffices_there : Stands N I c k v → (x : Cut) (n : ℕ) → k < length (held_in N I x n c) → Suffices N I c k v x
  suffices_there s x n h =
      let g = get_there (held_in N I x n c) k v h in
      (n, subst (λ w. slice_get (held_in N I x n c) k ≡ Some w) (one_value N I c k g.0 v (held_all N I x n c k g.0 g.1) s) g.1)

  -- the least cut, also among all that make histories which have the value
  pub the_needs : Stands N I c k v → Found N I c k
  the_needs s = found N I s.0 c k (slice_get_within (iterate N I s.0 c) k v s.1)

  needs_of : (s : Stands N I c k v) → AreNeeds N I c k v (the_needs s).cut
  needs_of s =
      let f = the_needs s in
      record {
        enough = suffices_there s f.cut f.enough.0 f.enough.1;
        least = λ y t. f.least y (held_in N I y t.0) (held_made N I y t.0) (slice_get_within (held_in N I y t.0 c) k v t.1);
      }

  -- so the least cut is within each that makes such histories
  pub within_made : (x : Cut) → AreNeeds N I c k v x → (y : Cut) (A : Histories) → IsMadeIn N I y A → slice_get (A c) k ≡ Some v → IsCutWithin x y
  within_made x h y A made e =
      let s = stands_below x h.enough in
      let f = the_needs s in
      let a = h.least f.cut (needs_of s).enough in
      let b = f.least y A made (slice_get_within (A c) k v e) in
      (λ d. le_trans (a.0 d) (b.0 d), λ p. le_trans (a.1 p) (b.1 p))

pub have_needs : (N : Schema) (I : Inputs) → HaveNeeds N I
have_needs N I c k v s = ((the_needs N I c k v s).cut, needs_of N I c k v s)

-- ---- one cut

same_cut : (x y : Cut) → IsCutWithin x y → IsCutWithin y x → x ≡ y
same_cut x y h g =
    let e : x.values ≡ y.values = fun_ext (λ d. le_antisymm (h.0 d) (g.0 d)) in
    let f : x.events ≡ y.events = fun_ext (λ p. le_antisymm (h.1 p) (g.1 p)) in
    λ j. record { values = e j; events = f j }

pub one_cut : (N : Schema) (I : Inputs) → AreOneCut N I
one_cut N I c k v w x y h g =
    let e : v ≡ w = one_value N I c k v w (stands_below N I c k v x h.enough) (stands_below N I c k w y g.enough) in
    same_cut x y (h.least y (subst (λ u. Suffices N I c k u y) (sym e) g.enough)) (g.least x (subst (λ u. Suffices N I c k u x) e h.enough))

-- ---- inputs

pub enough : (N : Schema) → AreEnough N
enough N I J c k v x h longer = held_stands N I x J longer h.enough.0 c k v h.enough.1

-- with so many events each, and so many values
abbrev all_of : Inputs → ℕ → Cut
all_of J n = record { values = λ d. length (J d); events = λ p. n }

input_length : (N : Schema) (J : Inputs) (n d : ℕ) → source N (Channel d) ≡ Given → length (iterate N J n (Channel d)) ≤ length (J d)
input_length N J zero d e = rw e (le_refl (length (J d)))
input_length N J (suc n) d e = rw e (le_refl (length (J d)))

iterate_written : (N : Schema) (J : Inputs) (n : ℕ) (c : Line) (p : ℕ) → source N c ≡ Written p → IsPrefix (iterate N J n c) (out N n p (iterate N J n) c)
iterate_written N J zero c p e = rw e (_, refl)
iterate_written N J (suc n) c p e =
    rw e (out_grows N n (suc n) p (iterate N J n) (iterate N J (suc n)) c (omega arith) (feeds (instance_at N p) (iterate N J n) (iterate N J (suc n)) (chain N J n)))

iterate_made : (N : Schema) (I J : Inputs) → AreInputsExtended J I → (n : ℕ) → IsMadeIn N I (all_of J n) (iterate N J n)
iterate_made N I J h n =
    record {
      below = λ c. (n, inputs_grow N J I h n c);
      given = λ d e. input_length N J n d e;
      written = λ c p e. iterate_written N J n c p e;
    }

-- the first values of a longer list
take_alike : (a : ℕ) (xs ys : List Value) → IsPrefix xs ys → a ≤ length xs → take a ys ≡ take a xs
take_alike a xs ys (zs, e) l = ap (take a) e ∙ take-append-le a xs zs l

pub exact : (N : Schema) → AreExact N
exact N I J c k v x h shorter = (needed, λ l. enough N I J c k v x h (λ d. subst (λ o. IsPrefix o (J d)) (sym (take_alike (x.values d) (J d) (I d) (shorter d) (l d))) (take_below (x.values d) (J d))))
  where
    needed : Stands N J c k v → (d : ℕ) → x.values d ≤ length (J d)
    needed s = (within_made N I c k v x h (all_of J s.0) (iterate N J s.0) (iterate_made N I J shorter s.0) s.1).0

-- ---- longer inputs

suffices_alike : (N : Schema) (I J : Inputs) (c : Line) (k : ℕ) (v : Value) (x : Cut) → ((d : ℕ) → take (x.values d) (I d) ≡ take (x.values d) (J d)) → Suffices N I c k v x
    → Suffices N J c k v x
suffices_alike N I J c k v x same s =
    (s.0, prefix_get _ _ (held_more N I J x x (λ d. subst (IsPrefix (take (x.values d) (I d))) (same d) (prefix_refl _)) (λ p. le_refl (x.events p)) s.0 s.0 (le_refl s.0) c) k v s.1)

kept : (N : Schema) (I J : Inputs) (c : Line) (k : ℕ) (v : Value) (x : Cut) → AreInputsExtended I J → AreNeeds N I c k v x → AreNeeds N J c k v x
kept N I J c k v x longer h =
    let sI = stands_below N I c k v x h.enough in
    let sJ = enough N I J c k v x h (λ d. prefix_trans _ _ _ (take_below (x.values d) (I d)) (longer d)) in
    let y = (the_needs N J c k v sJ).cut in
    let hy = needs_of N J c k v sJ in
    let few = (exact N J I c k v y hy longer).0 sI in
    let all = (exact N I I c k v x h (λ d. prefix_refl (I d))).0 sI in
    let in_I = suffices_alike N J I c k v y (λ d. take_alike (y.values d) (I d) (J d) (longer d) (few d)) hy.enough in
    let in_J = suffices_alike N I J c k v x (λ d. sym (take_alike (x.values d) (I d) (J d) (longer d) (all d))) h.enough in
    subst (AreNeeds N J c k v) (same_cut y x (hy.least x in_J) (h.least y in_I)) hy

pub same : (N : Schema) → AreSameNeeds N
same N I J c k v x h begins =
    let O = first_values x.values I in
    let s : Stands N O c k v = enough N I O c k v x h (λ d. prefix_refl (O d)) in
    let y = (the_needs N O c k v s).cut in
    let hy = needs_of N O c k v s in
    let e : y ≡ x = one_cut N I c k v v y x (kept N O I c k v y (λ d. take_below (x.values d) (I d)) hy) h in
    subst (AreNeeds N J c k v) e (kept N O J c k v y begins hy)

-- ---- runs

pub runs : (N : Schema) (I : Inputs) → AreRunsNeeds N I
runs N I y A made c k v e =
    let b = made.below c in
    let s : Stands N I c k v = (b.0, prefix_get _ _ b.1 k v e) in
    let f = the_needs N I c k v s in
    let w = f.least y A made (slice_get_within (A c) k v e) in
    let h = (needs_of N I c k v s).enough in
    record {
      needed = λ x g. within_made N I c k v x g y A made e;
      suffices = (h.0, prefix_get _ _ (held_within N I f.cut y w h.0 h.0 (le_refl h.0) c) k v h.1);
    }

-- the cut of an answer
events_in : Option End → ℕ
events_in None = 0
events_in (Some x) = x.events

abbrev cut_of : Inputs → List End → Cut
cut_of I ends = record { values = λ d. length (I d); events = λ p. events_in (slice_get ends p) }

-- an instance that there isn't sends nothing
module _ (N : Schema) (I : Inputs) (c : Line) (p : ℕ) (src : source N c ≡ Written p) (out_of : instance_at N p ≡ idle) where
  nothing_sent : (n : ℕ) (H : Histories) → out N n p H c ≡ []
  nothing_sent n H = rw out_of refl

  nothing_there : (n : ℕ) → iterate N I n c ≡ []
  nothing_there zero = rw src refl
  nothing_there (suc n) = rw src (nothing_sent n (iterate N I n))

  nothing_below_it : (xs : List Value) → ((m : ℕ) × IsPrefix xs (iterate N I m c)) → (ys : List Value) → IsPrefix xs ys
  nothing_below_it [] b ys = (ys, refl)
  nothing_below_it (x ∷ xs) b ys = let e : [] ≡ x ∷ (xs ++ b.1.0) = sym (nothing_there b.0) ∙ b.1.1 in absurd cc

module _ (N : Schema) (I : Inputs) (bound : ℕ) (verdict : Verdict) (ends : List End) (events : ℕ) (run : AreRight N I bound verdict ends events) where
  sends_all : (c : Line) (p : ℕ) → source N c ≡ Written p → (x : Option End) → slice_get ends p ≡ x → IsPrefix (run.tapes c) (out N (events_in x) p run.tapes c)
  unfolding events_in
  sends_all c p src (Some x) e = subst (λ l. IsPrefix (run.tapes c) l) (sym (run.sends p x e c src)) (prefix_refl (run.tapes c))
  sends_all c p src None e =
      nothing_below_it N I c p src (past_end (past_ends ends p e)) (run.tapes c) (run.others c) (out N 0 p run.tapes c)
    where
      past_ends : (xs : List End) (k : ℕ) → slice_get xs k ≡ None → length xs ≤ k
      past_ends [] k f = omega arith
      past_ends (x ∷ xs) zero f = absurd cc
      past_ends (x ∷ xs) (suc k) f = let l = past_ends xs k f in omega (arith, l)

      past_end : length ends ≤ p → slice_index_or N.instances p idle ≡ idle
      past_end l = let e = run.instances in get_or_past N.instances p idle (omega (arith, l, e))

  answer_made : IsMadeIn N I (cut_of I ends) run.tapes
  answer_made =
      record {
        below = run.others;
        given = λ d e. let f : length (run.tapes (Channel d)) ≡ length (I d) = ap length (run.inputs (Channel d) e) in omega (arith, f);
        written = λ c p src. sends_all c p src (slice_get ends p) refl;
      }

pub done : (N : Schema) (I : Inputs) → AreDone N I
unfolding events_in
done N I c k v x h bound verdict ends events run e p end at =
    let w = within_made N I c k v x h (cut_of I ends) run.tapes (answer_made N I bound verdict ends events run) e in
    subst (λ o. x.events p ≤ events_in o) at (w.1 p)

-- ---- no event and no value fewer

less_not : (a b : ℕ) → a < b → b ≤ a → ⊥
less_not a b h g = omega (arith, h, g)

no_less : (a b : ℕ) → (a < b → ⊥) → b ≤ a
no_less a b h = omega (arith, h)

pub tight : (N : Schema) (I : Inputs) → AreTight N I
tight N I c k v x = (there, back)
  where
    there : AreNeeds N I c k v x → IsTight N I c k v x
    there h =
        record {
          enough = h.enough;
          no_event = λ y w p l s. less_not (y.events p) (x.events p) l ((h.least y s).1 p);
          no_value = λ y w d l s. less_not (y.values d) (x.values d) l ((h.least y s).0 d);
        }

    back : IsTight N I c k v x → AreNeeds N I c k v x
    back t =
        let s = stands_below N I c k v x t.enough in
        let z = (the_needs N I c k v s).cut in
        let hz = needs_of N I c k v s in
        let w = hz.least x t.enough in
        let e : z ≡ x = same_cut z x w (
          λ d. no_less (z.values d) (x.values d) (λ l. t.no_value z w d l hz.enough),
          λ p. no_less (z.events p) (x.events p) (λ l. t.no_event z w p l hz.enough),
        ) in
        subst (AreNeeds N I c k v) e hz

-- ---- the values before it

pub in_order : (N : Schema) (I : Inputs) → AreInOrder N I
in_order N I c j k v w x y le h g =
    h.least y (suffices_there N I c j v (stands_below N I c j v x h.enough) y g.enough.0 (omega (arith, slice_get_within (held_in N I y g.enough.0 c) k w g.enough.1, le)))
