-- Values that are fed: what they leave, and tokens of the input before.
use Rattle.kahn_streams.proofs.Common.{ne_eqb, arith, ◌≡◌, ◌≢◌, inl, inr, ℕ, ◌<◌, ◌≤◌, List, ◌++◌, length, map, set, get_or, refl, sym, ap, ◌∙◌, subst, eq-eqb, append-nil, length-set, get_or-set_same, get_or-set_other, if◌then◌else◌, ∥∥₁_elim, ∥∥₁_prop, cases_eq, get_or-map, length-map, map-set, set-get_or, Program, Value, Line, FeedFault, Input, network_of, role_at, Entry, channel_of, most_values, Lists, inputs_of, Holds, IsMeant, IsNotMeant, IsUnwelcome, IsEntryFed, fed_to, total_after, AreInputsExtended, Stands, []}
use Rattle.kahn_streams.specs.declared.feeds.FeedFault.TheVariants.{UnknownName, NotAnInput, WrongKind, TooMany, NoMemory}
use Rattle.kahn_streams.proofs.{Proved.prefix_get, Finished.inputs_grow, Entered.names_count}

fed_same : (t : Program) (e : Entry) → fed_to t e (channel_of t e) ≡ e.1
fed_same t e = ap (λ b. if b then e.1 else []) (eq-eqb (channel_of t e) (channel_of t e) refl)

fed_other : (t : Program) (e : Entry) (c : ℕ) → channel_of t e ≢ c → fed_to t e c ≡ []
fed_other t e c n = ap (λ b. if b then e.1 else []) (ne_eqb (channel_of t e) c n)

-- ---- what an entry has to be

module _ (t : Program) (e : Entry) where
  pub meant_input : IsMeant t e → role_at (network_of t) (channel_of t e) ≡ Input
  meant_input (named, (input, rest)) = input

  -- what isn't meant for an input channel isn't fed for that, whatever the lists are
  pub not_many : IsNotMeant t e TooMany → ⊥
  not_many (inl h) = absurd cc
  not_many (inr (named, inl h)) = absurd cc
  not_many (inr (named, inr (input, inl h))) = absurd cc
  not_many (inr (named, inr (input, inr (kinded, h)))) = h

  pub not_memory : IsNotMeant t e NoMemory → ⊥
  not_memory (inl h) = absurd cc
  not_memory (inr (named, inl h)) = absurd cc
  not_memory (inr (named, inr (input, inl h))) = absurd cc
  not_memory (inr (named, inr (input, inr (kinded, h)))) = h

  pub unwelcome : (lists : Lists) (fault : FeedFault) → IsNotMeant t e fault → IsUnwelcome t lists e fault
  unwelcome lists UnknownName h = h
  unwelcome lists NotAnInput h = h
  unwelcome lists WrongKind h = h
  unwelcome lists TooMany h = absurd (not_many h)
  unwelcome lists NoMemory h = absurd (not_memory h)

module _ (t : Program) (before : Lists) (e : Entry) where
  lists_fed : channel_of t e < length before → (c : ℕ)
      → inputs_of (set before (channel_of t e) (inputs_of before (channel_of t e) ++ e.1)) c ≡ inputs_of before c ++ fed_to t e c
  lists_fed below c = elim (cases_eq (channel_of t e) c) [
    | inl h ↦ subst (λ d. inputs_of (set before (channel_of t e) (inputs_of before (channel_of t e) ++ e.1)) d ≡ inputs_of before d ++ fed_to t e d) h
        (get_or-set_same before (channel_of t e) (inputs_of before (channel_of t e) ++ e.1) [] below
        ∙ ap (λ l. inputs_of before (channel_of t e) ++ l) (sym (fed_same t e)))
    | inr n ↦ get_or-set_other before (channel_of t e) c (inputs_of before (channel_of t e) ++ e.1) [] (λ h. n (sym h))
        ∙ sym (append-nil (inputs_of before c)) ∙ ap (λ l. inputs_of before c ++ l) (sym (fed_other t e c n))
  ]

  -- one channel is fed
  pub fed : (c : ℕ) (after : Lists) → length before ≡ length (network_of t).channels → c ≡ channel_of t e → IsMeant t e → total_after t before e ≤ most_values
      → after ≡ set before c (inputs_of before c ++ e.1) → IsEntryFed t before e after
  fed c after fits is meant within made =
      let here : after ≡ set before (channel_of t e) (inputs_of before (channel_of t e) ++ e.1) = made ∙ ap (λ d. set before d (inputs_of before d ++ e.1)) is in
      record {
        meant = meant;
        within = within;
        count = ap length here ∙ length-set before (channel_of t e) (inputs_of before (channel_of t e) ++ e.1);
        lists = λ d. ap (λ l. inputs_of l d) here ∙ lists_fed (omega (arith, meant.0, fits, names_count t)) d;
      }

-- the lists before are prefixes of those after
pub fed_grown : (t : Program) (before : Lists) (e : Entry) (after : Lists) → IsEntryFed t before e after → AreInputsExtended (inputs_of before) (inputs_of after)
fed_grown t before e after h c = (fed_to t e c, h.lists c)

-- ---- tokens

-- what stands for an input stands for a longer one
pub lifted : (t : Program) (before after : Lists) (line : Line) (place : ℕ) (v : Value) → AreInputsExtended (inputs_of before) (inputs_of after)
    → Holds t before line place v → Holds t after line place v
lifted t before after line place v grown h =
    ∥∥₁_elim h ∥∥₁_prop (λ (s : Stands (network_of t) (inputs_of before) line place v).
    ∣ (s.0, prefix_get _ _ (inputs_grow (network_of t) (inputs_of before) (inputs_of after) grown s.0 line) place v s.1) ∣₁)

-- ---- the list at hand, as one of all lists

module _ {A : Type 0} (f : A → List Value) (xs : List A) (lists : Lists) (c : ℕ) (x y : A) (view : map f xs ≡ lists) (below : c < length lists) (at : x ≡ get_or xs c x) where
  here : f x ≡ inputs_of lists c
  here =
      let within : c < length xs = subst (λ n. c < n) (ap length (sym view) ∙ length-map xs f) below in
      ap f at ∙ sym (get_or-map f xs c x [] within) ∙ ap (λ l. inputs_of l c) view

  placed : map f (set xs c y) ≡ set lists c (f y)
  placed = map-set f xs c y ∙ ap (λ l. set l c (f y)) view

  pub item_fed : (vs : List Value) → f y ≡ f x ++ vs → map f (set xs c y) ≡ set lists c (inputs_of lists c ++ vs)
  item_fed vs h = placed ∙ ap (λ l. set lists c l) (h ∙ ap (λ l. l ++ vs) here)

  pub item_kept : f y ≡ f x → map f (set xs c y) ≡ lists
  item_kept h = placed ∙ ap (λ l. set lists c l) (h ∙ here) ∙ set-get_or lists c []
