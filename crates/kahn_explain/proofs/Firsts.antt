-- The first value that needs one of an input.
use Rattle.kahn_explain.proofs.Common.{arith, ◌≡◌, ◌⊎◌, inl, inr, ℕ, ◌≤◌, ◌<◌, ◌+◌, subst, ap, ◌∙◌, slice_index_or, cases_lt, slice_get_within, Lists, inputs_of, Given, Schema, network_of, Inputs, Stands, iterate, source, Program, Line, Channel, Print, Value, AreNeedsFound, cut_told, of_input, AreRows, IsFirstNeeding, NeedsNot, EndsSearch}
use Rattle.kahn_streams.proofs.Proved.{prefix_get}
use Rattle.kahn_needs.specs.{Needs.Cut, declared.needs.Found.Found, declared.needs.Needs.Needs}
use Rattle.kahn_needs.specs.declared.needs.Found.TheVariants as found
use Rattle.kahn_needs.proofs.{Told.one_cut, Told.parts, Ways.get_there}

not_less : (a b : ℕ) → (a < b → ⊥) → b ≤ a
not_less a b more = by (cases_lt a b)
  where
    by : (a < b) ⊎ (b ≤ a) → b ≤ a
    by (inl l) = absurd (more l)
    by (inr l) = l

module _ (N : Schema) (I : Inputs) (c : Line) (j k : ℕ) where
  not_here : (d : Line) (f : Found) → source N d ≡ Given → AreNeedsFound N I c k f → (EndsSearch d j f → ⊥) → NeedsNot N I c d j k
  not_here (Channel d) (found.Needs y) given h goes = λ v x g.
      let e : x ≡ cut_told N y.values.items y.events.items = one_cut N I c k v y.value x _ g h.0 in
      let values : x.values d ≡ slice_index_or y.values.items d 0 =
      ap (λ (z : Cut). z.values d) e ∙ ap (λ s. of_input s (slice_index_or y.values.items d 0)) given in
      let l = not_less j (slice_index_or y.values.items d 0) goes in
      omega (arith, values, l)
  not_here (Print p) (found.Needs y) given h goes = λ v x g. omega arith
  not_here d found.Never given h goes = absurd (goes tt)
  not_here d found.Ring given h goes = absurd (goes tt)
  not_here d found.Bound given h goes = absurd (goes tt)

  -- nor one place more
  pub not_more : (d : Line) (f : Found) → source N d ≡ Given → AreNeedsFound N I c k f → (EndsSearch d j f → ⊥) → ((i : ℕ) → i < k → NeedsNot N I c d j i)
      → (i : ℕ) → i < k + 1 → NeedsNot N I c d j i
  not_more d f given h goes before i l = by (cases_lt i k)
    where
      by : (i < k) ⊎ (k ≤ i) → NeedsNot N I c d j i
      by (inl m) = before i m
      by (inr m) = subst (NeedsNot N I c d j) (omega (arith, l, m)) (not_here d f given h goes)

  -- none comes behind
  none_behind : (d : Line) → ((v : Value) → Stands N I c k v → ⊥) → ((i : ℕ) → i < k → NeedsNot N I c d j i) → (i : ℕ) → NeedsNot N I c d j i
  none_behind d none before i = by (cases_lt i k)
    where
      by : (i < k) ⊎ (k ≤ i) → NeedsNot N I c d j i
      by (inl m) = before i m
      by (inr m) = λ v x h.
          let b = (parts N I).begin x h.enough.0 c in
          let l = slice_get_within (iterate N I b.0 c) i v (prefix_get _ _ b.1 i v h.enough.1) in
          let g = get_there (iterate N I b.0 c) k v (omega (arith, l, m)) in
          absurd (none g.0 (b.0, g.1))

  pub first_is : (d : Line) (f : Found) → AreNeedsFound N I c k f → EndsSearch d j f → ((i : ℕ) → i < k → NeedsNot N I c d j i) → IsFirstNeeding N I c d j k f
  first_is d (found.Needs y) h ends before = (h, ends, before)
  first_is d found.Never h ends before = none_behind d h.0 before
  first_is d found.Ring h ends before = none_behind d h.0 before
  first_is d found.Bound h ends before = tt

-- what holds for a network, an input and a line holds for the same ones
pub same_search : {t s : Program} {i j : Lists} {c d : Line} (P : Schema → Inputs → Line → Type 0) → s ≡ t → j ≡ i → d ≡ c → P (network_of s) (inputs_of j) d → P (network_of t) (inputs_of i) c
same_search P e g h is = subst (λ (k : Program × Lists × Line). P (network_of k.0) (inputs_of k.1) k.2) (λ x. (e x, g x, h x)) is

-- one place more with what is needed
pub rows_more : (N : Schema) (I : Inputs) (c : Line) (n : ℕ) (x : Needs) → AreRows N I c n → AreNeedsFound N I c n (found.Needs x) → AreRows N I c (n + 1)
rows_more N I c n x rows is k l = by (cases_lt k n)
  where
    by : (k < n) ⊎ (n ≤ k) → (x : Needs) × AreNeedsFound N I c k (found.Needs x)
    by (inl m) = rows k m
    by (inr m) = (x, subst (λ i. AreNeedsFound N I c i (found.Needs x)) (omega (arith, l, m)) is)
