-- Lists whose values stand.
use Rattle.std.proofs.Common.{length-append}
use Rattle.kahn_sequential.proofs.Common.{⊎_elim, arith, ◌≡◌, ◌⊎◌, inl, inr, subst, slice_set, slice_index_or, sum_by, ℕ, zero, suc, ◌+◌, ◌<◌, ◌≤◌, List, [], ◌∷◌, ◌++◌, length, map, refl, sym, ap, ◌∙◌, Some, slice_get, append-nil, le_refl, at_last, found_in, set_each, cases_lt, get_or_past, fold-map, get_or-le-sum_by, same_Some, slice_get_read, slice_get_within, there, HaveChanged, Value, Line, Schema, Inputs, iterate, IsPrefix, prefix_get, one_value, AllStand, Actual, Reads, Writes, Hands, Written, cases_eq, get_or_from_slice_get, length-set}

pub prefix_stands : (N : Schema) (I : Inputs) (c : Line) (xs : List Value) → ((n : ℕ) × IsPrefix xs (iterate N I n c)) → AllStand N I c xs
prefix_stands N I c xs h k v e = (h.0, prefix_get xs (iterate N I h.0 c) h.1 k v e)

-- of two lists that stand the shorter begins the longer
pub both_stand : (N : Schema) (I : Inputs) (c : Line) (xs ys : List Value) → AllStand N I c xs → AllStand N I c ys →
    length xs ≤ length ys → IsPrefix xs ys
both_stand N I c xs ys h g le =
    found_in xs ys (λ k v e. let w = there ys k (omega (arith, slice_get_within xs k v e, le)) in w.1 ∙ ap Some (one_value N I c k w.0 v (g k w.0 w.1) (h k v e)))

-- behind a prefix of the same length nothing stands
pub nothing_more : (xs ys : List Value) (h : IsPrefix xs ys) → length xs ≡ length ys → h.0 ≡ []
nothing_more xs ys h e = by h.0 (ap length h.1 ∙ length-append xs h.0)
  where
    by : (zs : List Value) → length ys ≡ length xs + length zs → zs ≡ []
    by [] l = refl
    by (z ∷ zs) l = absurd (omega (arith, l, e))

-- so it is all
pub all_of_it : (xs ys : List Value) → IsPrefix xs ys → length xs ≡ length ys → ys ≡ xs
all_of_it xs ys h e = h.1 ∙ ap (λ l. xs ++ l) (nothing_more xs ys h e) ∙ append-nil xs

-- ---- parameters

-- a parameter reads a channel, or none
pub reads_or : (a : Actual) → ((d : ℕ) × (a ≡ Reads d)) ⊎ ((d : ℕ) → a ≡ Reads d → ⊥)
reads_or (Reads d) = inl (d, refl)
reads_or (Writes d) = inr (λ b e. absurd cc)
reads_or (Hands v) = inr (λ b e. absurd cc)

pub same_writer : {p r : ℕ} → Written p ≡ Written r → p ≡ r
same_writer e = cc

-- ---- lists that change item by item

-- the first n have changed so, and the others are as they were
pub record ChangedTo {X : Type 0} (R : X → X → Type 0) (old new : List X) (n : ℕ) : Type 0 where
  pub count : length new ≡ length old
  pub done : (p : ℕ) (x y : X) → p < n → slice_get old p ≡ Some x → slice_get new p ≡ Some y → R x y
  pub rest : (p : ℕ) (y : X) → n ≤ p → slice_get new p ≡ Some y → slice_get old p ≡ Some y

module _ {X : Type 0} {R : X → X → Type 0} {old new : List X} {n : ℕ} (h : ChangedTo R old new n) where
  -- the next one
  pub next_old : {x : X} → n < length new → x ≡ slice_index_or new n x → slice_get old n ≡ Some x
  next_old {x} here value = h.rest n x (le_refl n) (slice_get_read new (length new) n x refl here value)

  pub one_changed : {x y : X} → n < length new → x ≡ slice_index_or new n x → R x y → ChangedTo R old (slice_set new n y) (n + 1)
  one_changed {x} {y} here value s = record {
    count = length-set new n y ∙ h.count;
    done = λ p u v l a b. set_each (λ k w. (z : X) → k < n + 1 → slice_get old k ≡ Some z → R z w) new n y
        (λ k w apart f z m e. h.done k z w (omega (arith, m, apart)) e f)
        (λ z m e. subst (λ w. R w y) (same_Some x z (sym (next_old here value) ∙ e)) s) p v b u l a;
    rest = λ p v l b. set_each (λ k w. n + 1 ≤ k → slice_get old k ≡ Some w) new n y (λ k w apart f m. h.rest k w (omega (arith, m)) f) (λ m. absurd (omega (arith, m))) p v b l;
  }

  pub all_changed : length new ≤ n → HaveChanged R old new
  all_changed e = record {
    count = h.count;
    each = λ p x y a b. h.done p x y (let l = slice_get_within new p y b in omega (arith, l, e)) a b;
  }

-- what is read of each item, where it is what was read of it before
pub map_changed : {X Y Z : Type 0} {R : X → Y → Type 0} (f : Y → Z) (g : X → Z) → ((x : X) (y : Y) → R x y → f y ≡ g x) → (old : List X) (new : List Y) → HaveChanged R old new →
    map f new ≡ map g old
map_changed f g e [] [] h = refl
map_changed f g e [] (y ∷ new) h = absurd (let n = h.count in omega (arith, n))
map_changed f g e (x ∷ old) [] h = absurd (let n = h.count in omega (arith, n))
map_changed f g e (x ∷ old) (y ∷ new) h =
    let a = e x y (h.each 0 x y refl refl) in
    let r = map_changed f g e old new (record { count = let n = h.count in omega (arith, n); each = λ p. h.each (suc p) }) in
    λ i. a i ∷ r i

-- one item more
pub changed_more : {X Y : Type 0} {R : X → Y → Type 0} (old : List X) (new : List Y) (x : X) (y : Y) → HaveChanged R old new → R x y → HaveChanged R (old ++ x ∷ []) (new ++ y ∷ [])
changed_more {X} {Y} {R} old new x y h e = record {
  count = let n = h.count in let a = length-append old (x ∷ []) in let b = length-append new (y ∷ []) in omega (arith, n, a, b);
  each = λ p u v f g. by p u v (at_last old x p u f) (at_last new y p v g);
}
  where
    by : (p : ℕ) (u : X) (v : Y) → (slice_get old p ≡ Some u) ⊎ ((p ≡ length old) × (x ≡ u)) → (slice_get new p ≡ Some v) ⊎ ((p ≡ length new) × (y ≡ v)) → R u v
    by p u v (inl f) (inl g) = h.each p u v f g
    by p u v (inl f) (inr g) = absurd (let l = slice_get_within old p u f in let n = h.count in let a = g.0 in omega (arith, l, n, a))
    by p u v (inr f) (inl g) = absurd (let l = slice_get_within new p v g in let n = h.count in let a = f.0 in omega (arith, l, n, a))
    by p u v (inr f) (inr g) = subst (λ z. R z v) f.1 (subst (R x) g.1 e)

-- the item that was read there
pub old_item : {X Y : Type 0} {R : X → Y → Type 0} {old : List X} {new : List Y} → HaveChanged R old new → (p : ℕ) (y : Y) → slice_get new p ≡ Some y →
    (x : X) × (slice_get old p ≡ Some x) × R x y
old_item {old = old} {new = new} h p y e =
    let x = there old p (omega (arith, slice_get_within new p y e, h.count)) in
    (x.0, x.1, h.each p x.0 y x.1 e)

pub map_map : {X Y Z : Type 0} (f : Y → Z) (g : X → Y) (xs : List X) → map f (map g xs) ≡ map (λ x. f (g x)) xs
map_map f g [] = refl
map_map f g (x ∷ xs) = ap (λ l. f (g x) ∷ l) (map_map f g xs)

-- ---- sums

pub sum_over : {X Y : Type 0} (f : Y → ℕ) (g : X → Y) (xs : List X) → sum_by f (map g xs) ≡ sum_by (λ x. f (g x)) xs
sum_over f g xs = fold-map (λ s y. s + f y) g 0 xs

pub one_of_sum : {X : Type 0} (f : X → ℕ) (xs : List X) (p : ℕ) (d : X) → f d ≡ 0 → f (slice_index_or xs p d) ≤ sum_by f xs
one_of_sum f xs p d none = ⊎_elim (λ l. get_or-le-sum_by f xs p d l) (λ l. let e = ap f (get_or_past xs p d l) ∙ none in omega (arith, e)) (cases_lt p (length xs))

-- what is so of each before n, and of that one, is so of each up to it
pub each_more : {X : Type 0} (P : X → Type 0) (xs : List X) (n : ℕ) (y : X) → ((p : ℕ) → p < n → (x : X) → slice_get xs p ≡ Some x → P x) → y ≡ slice_index_or xs n y → P y →
    (p : ℕ) → p < n + 1 → (x : X) → slice_get xs p ≡ Some x → P x
each_more P xs n y h is here p lt x at = ⊎_elim (λ e. subst P (is ∙ get_or_from_slice_get xs n x y (ap (slice_get xs) (sym e) ∙ at)) here) (λ other. h p (omega (arith, lt, other)) x at) (cases_eq p n)
