-- Entries, one by one: the number of a name, what is given, and the lists.
use Rattle.kahn_streams.proofs.Common.{ne_eqb, arith, ◌≡◌, ◌≢◌, ◌⊎◌, inl, inr, ℕ, zero, suc, ◌+◌, ◌<◌, ◌==◌, Bool, true, false, List, ◌∷◌, ◌++◌, length, map, take, drop, replicate, set, get_or, Some, refl, sym, ap, ◌∙◌, subst, slice_get, slice_index_or, if◌then◌else◌, Result, Ok, Err, eq-eqb, length-set, get_or-set_same, get_or-set_other, MatchResult, cases_eq, length-map, take-append-le, take-map, slice_get_read, slice_get-map, Program, InputFault, Input, network_of, kind_at, role_at, channels_of, channel_names, AreOfKind, IsInputFor, Lists, inputs_of, Entry, FailsFirst, asked_of_entry, channel_of, is_given, list_for, AreFit, IsFirstRefused, IsInputOf, IsFitHere, []}
use Rattle.std.proofs.{lemmas.Bool.eqb-true, Math.Seq.take-append_seam}
use Rattle.std.specs.Option.{option_map}
use Rattle.kahn_streams.specs.declared.entries.InputFault.TheVariants.{NoMemory}

-- ---- the number of a name

pub drop_some : {A : Type 0} (xs : List A) (k : ℕ) (x : A) → slice_get xs k ≡ Some x → drop k xs ≡ x ∷ drop (suc k) xs
drop_some [] k x e = absurd cc
drop_some (y ∷ xs) zero x e = let f : y ≡ x = cc in ap (λ z. z ∷ xs) f
drop_some (y ∷ xs) (suc k) x e = drop_some xs k x e

-- as many names as channels
pub names_count : (t : Program) → length (channel_names t) ≡ length (network_of t).channels
names_count t = length-map (channels_of t.declarations.items) (λ c. c.0) ∙ sym (length-map (channels_of t.declarations.items) (λ c. c.1))

-- ---- what is given after one entry more

both_true : (b : Bool) → (if b then true else true) ≡ true
both_true true = refl
both_true false = refl

given_same : (t : Program) (es : List Entry) (e : Entry) → is_given t (es ++ e ∷ []) (channel_of t e) ≡ true
given_same t [] e = ap (λ b. if b then true else false) (eq-eqb (channel_of t e) (channel_of t e) refl)
given_same t (x ∷ es) e =
    ap (λ b. if channel_of t x == channel_of t e then true else b) (given_same t es e) ∙ both_true (channel_of t x == channel_of t e)

given_other : (t : Program) (es : List Entry) (e : Entry) (c : ℕ) → channel_of t e ≢ c → is_given t (es ++ e ∷ []) c ≡ is_given t es c
given_other t [] e c n = ap (λ b. if b then true else false) (ne_eqb (channel_of t e) c n)
given_other t (x ∷ es) e c n = ap (λ b. if channel_of t x == c then true else b) (given_other t es e c n)

-- ---- the lists after one entry more

false_first : (b r : Bool) → (if b then true else r) ≡ false → (b ≡ false) × (r ≡ false)
false_first true r e = absurd cc
false_first false r e = (refl, e)

list_same : (t : Program) (es : List Entry) (e : Entry) → is_given t es (channel_of t e) ≡ false → list_for t (es ++ e ∷ []) (channel_of t e) ≡ e.1
list_same t [] e f = ap (λ b. if b then e.1 else []) (eq-eqb (channel_of t e) (channel_of t e) refl)
list_same t (x ∷ es) e f =
    let g = false_first (channel_of t x == channel_of t e) (is_given t es (channel_of t e)) f in
    ap (λ b. if b then x.1 else list_for t (es ++ e ∷ []) (channel_of t e)) g.0 ∙ list_same t es e g.1

list_other : (t : Program) (es : List Entry) (e : Entry) (c : ℕ) → channel_of t e ≢ c → list_for t (es ++ e ∷ []) c ≡ list_for t es c
list_other t [] e c n = ap (λ b. if b then e.1 else []) (ne_eqb (channel_of t e) c n)
list_other t (x ∷ es) e c n = ap (λ l. if channel_of t x == c then x.1 else l) (list_other t es e c n)

-- ---- the entries that are fit

Last : (es : List Entry) (x : Entry) (k : ℕ) (e : Entry) → Type 0
Last es x k e = ((k < length es) × (slice_get es k ≡ Some e)) ⊎ ((k ≡ length es) × (x ≡ e))

last : (es : List Entry) (x : Entry) (k : ℕ) (e : Entry) → slice_get (es ++ x ∷ []) k ≡ Some e → Last es x k e
unfolding Last
last [] x zero e at = inr (refl, cc)
last [] x (suc k) e at = absurd cc
last (y ∷ es) x zero e at = inl (omega arith, at)
last (y ∷ es) x (suc k) e at = elim (last es x k e at) [ inl h ↦ inl (omega (arith, h.0), h.1) | inr h ↦ inr (ap suc h.0, h.1) ]

pub fit_more : (t : Program) (es : List Entry) (x : Entry) → AreFit t es → IsFitHere t (is_given t es (channel_of t x)) x → AreFit t (es ++ x ∷ [])
unfolding Last
fit_more t es x all one k e at =
    elim (last es x k e at) [
      | inl h ↦ subst (λ l. IsFitHere t (is_given t l (channel_of t e)) e) (sym (take-append-le k es (x ∷ []) (omega (arith, h.0)))) (all k e h.1)
      | inr h ↦ subst (λ n. IsFitHere t (is_given t (take n (es ++ x ∷ [])) (channel_of t e)) e) (sym h.0)
          (subst (λ l. IsFitHere t (is_given t l (channel_of t e)) e) (sym (take-append_seam es (x ∷ [])))
          (subst (λ y. IsFitHere t (is_given t es (channel_of t y)) y) h.1 one))
    ]

-- ---- the flags and the lists, after the first entries

pub record AreFilled (t : Program) (done : List Entry) (flags : List Bool) (lists : Lists) : Type 0 where
  pub made : IsInputOf t done lists
  pub size : length flags ≡ length (network_of t).channels
  pub marks : (c : ℕ) → slice_index_or flags c false ≡ is_given t done c

pub none_of : {A : Type 0} (n c : ℕ) (x : A) → slice_index_or (replicate n x) c x ≡ x
none_of (suc n) (suc c) x = none_of n c x
none_of _ _ x = refl

module _ (t : Program) (done : List Entry) (flags : List Bool) (lists : Lists) (x : Entry) (h : AreFilled t done flags lists) where
  marks_more : IsFitHere t (is_given t done (channel_of t x)) x → (c : ℕ) → slice_index_or (set flags (channel_of t x) true) c false ≡ is_given t (done ++ x ∷ []) c
  marks_more fit c = elim (cases_eq (channel_of t x) c) [
    | inl e ↦ subst (λ d. slice_index_or (set flags (channel_of t x) true) d false ≡ is_given t (done ++ x ∷ []) d) e
        (get_or-set_same flags (channel_of t x) true false (omega (arith, fit.0, h.size, names_count t)) ∙ sym (given_same t done x))
    | inr n ↦ get_or-set_other flags (channel_of t x) c true false (λ e. n (sym e)) ∙ h.marks c ∙ sym (given_other t done x c n)
  ]

  lists_more : IsFitHere t (is_given t done (channel_of t x)) x → (c : ℕ) → inputs_of (set lists (channel_of t x) x.1) c ≡ list_for t (done ++ x ∷ []) c
  lists_more fit c = elim (cases_eq (channel_of t x) c) [
    | inl e ↦ subst (λ d. inputs_of (set lists (channel_of t x) x.1) d ≡ list_for t (done ++ x ∷ []) d) e
        (get_or-set_same lists (channel_of t x) x.1 [] (omega (arith, fit.0, h.made.count, names_count t)) ∙ sym (list_same t done x (fit.1.1.0)))
    | inr n ↦ get_or-set_other lists (channel_of t x) c x.1 [] (λ e. n (sym e)) ∙ h.made.lists c ∙ sym (list_other t done x c n)
  ]

  more_here : IsFitHere t (is_given t done (channel_of t x)) x → AreFilled t (done ++ x ∷ []) (set flags (channel_of t x) true) (set lists (channel_of t x) x.1)
  more_here fit = record {
    made = record {
      fit = fit_more t done x h.made.fit fit;
      count = length-set lists (channel_of t x) x.1 ∙ h.made.count;
      lists = lists_more fit;
    };
    size = length-set flags (channel_of t x) true ∙ h.size;
    marks = marks_more fit;
  }

  -- one entry more
  pub more_filled : (c : ℕ) → c ≡ channel_of t x → IsFitHere t (slice_index_or flags (channel_of t x) false) x → AreFilled t (done ++ x ∷ []) (set flags c true) (set lists c x.1)
  more_filled c is fit =
      subst (λ d. AreFilled t (done ++ x ∷ []) (set flags d true) (set lists d x.1)) (sym is)
      (more_here (subst (λ b. IsFitHere t b x) (h.marks (channel_of t x)) fit))

  -- the first entry that is refused
  pub first_refused : (all : List Entry) (k n : ℕ) (fault : InputFault) → slice_get all k ≡ Some x → done ≡ take k all → n ≡ k + 1 →
      FailsFirst (asked_of_entry t (slice_index_or flags (channel_of t x) false) n x) fault → IsFirstRefused t all fault
  first_refused all k n fault at are is refused = (
    k,
    x,
    at,
    subst (AreFit t) are h.made.fit,
    subst (λ m. FailsFirst (asked_of_entry t (is_given t (take k all) (channel_of t x)) m x) fault) is
        (subst (λ b. FailsFirst (asked_of_entry t b n x) fault) (h.marks (channel_of t x) ∙ ap (λ l. is_given t l (channel_of t x)) are) refused),
  )

-- ---- kinds

list_kinded : (t : Program) (es : List Entry) → ((k : ℕ) (e : Entry) → slice_get es k ≡ Some e → AreOfKind (kind_at (network_of t) (channel_of t e)) e.1)
    → (c : ℕ) → AreOfKind (kind_at (network_of t) c) (list_for t es c)
list_kinded t [] h c = tt
list_kinded t (x ∷ es) h c = by (channel_of t x == c) refl (list_kinded t es (λ k. h (suc k)) c)
  where
    by : (b : Bool) → (channel_of t x == c) ≡ b → AreOfKind (kind_at (network_of t) c) (list_for t es c)
        → AreOfKind (kind_at (network_of t) c) (if b then x.1 else list_for t es c)
    by true e rest = subst (λ d. AreOfKind (kind_at (network_of t) d) x.1) (eqb-true (channel_of t x) c e) (h zero x refl)
    by false e rest = rest

-- no entry names a channel that isn't an input channel
list_bare : (t : Program) (es : List Entry) → ((k : ℕ) (e : Entry) → slice_get es k ≡ Some e → role_at (network_of t) (channel_of t e) ≡ Input)
    → (c : ℕ) → role_at (network_of t) c ≢ Input → list_for t es c ≡ []
list_bare t [] h c n = refl
list_bare t (x ∷ es) h c n =
    ap (λ b. if b then x.1 else list_for t es c) (ne_eqb (channel_of t x) c (λ e. n (subst (λ d. role_at (network_of t) d ≡ Input) e (h zero x refl))))
    ∙ list_bare t es (λ k. h (suc k)) c n

-- the lists of fit entries fit the network
pub made_fits : (t : Program) (es : List Entry) (lists : Lists) → IsInputOf t es lists → IsInputFor (network_of t) lists
made_fits t es lists made = record {
  count = made.count;
  lists_fit = λ c. record {
    kinded = λ is. subst (AreOfKind (kind_at (network_of t) c)) (sym (made.lists c)) (list_kinded t es (λ k e at. (made.fit k e at).1.1.1.0) c);
    bare = λ n. made.lists c ∙ list_bare t es (λ k e at. (made.fit k e at).1.0) c n;
  };
}

-- ---- the entries, one after another

map_same : {A : Type 0} (xs : List A) → map (λ x. x) xs ≡ xs
map_same [] = refl
map_same (x ∷ xs) = ap (λ l. x ∷ l) (map_same xs)

-- the entry that is read
pub read_here : {A : Type 0} (f : A → Entry) (all : List A) (k : ℕ) (x : A) → k < length all → x ≡ get_or all k x → slice_get (map f all) k ≡ Some (f x)
read_here f all k x below is = slice_get-map f all k ∙ ap (option_map f) (slice_get_read all (length all) k x refl below is)

-- the entries that are read
pub read_so_far : {A : Type 0} (f : A → Entry) (done all : List A) → map (λ x. x) done ≡ take (length done) all → map f done ≡ take (length done) (map f all)
read_so_far f done all e = ap (map f) (sym (map_same done) ∙ e) ∙ sym (take-map f (length done) all)

-- ---- a refusal of an entry, where memory may be refused beside

pub or_memory : {T : Type 0} (P : T → Type 0) (Q : InputFault → Type 0) (r : Result T InputFault) → MatchResult r P Q → MatchResult r P (λ fault. (fault ≡ NoMemory) ⊎ Q fault)
or_memory P Q (Ok x) h = h
or_memory P Q (Err fault) h = inr h
