-- The first entries of a text, one more than there are channels, which tell all that is asked of the whole.
use Rattle.kahn_texts.proofs.Common.{arith, ◌≡◌, inl, inr, ℕ, zero, suc, ◌+◌, ◌<◌, ◌≤◌, ◌==◌, ◌||◌, Bool, true, false, if◌then◌else◌, List, [], ◌∷◌, ◌++◌, length, map, take, drop, refl, sym, ap, ◌∙◌, subst, Some, slice_get, eqb-true, length-take, AllByRecursion, list_any, cases_lt, length-map, map-append, take-append-le, Global, Vec, Program, Value, InputFault, channel_names, network_of, AreFit, Entry, FailsFirst, IsFirstRefused, IsInputOf, Lists, asked_of_entry, channel_of, entry_of, is_given, AreEntries, AreFirstEntries, StandsFor}
use Rattle.std.specs.{List.IsDistinct, declared.string.String.String}
use Rattle.std.proofs.lemmas.Map.Steps.{length-le_from_distinct_below}
use Rattle.kahn_streams.proofs.Entered.{names_count}

-- ---- one entry more

take_past : {A : Type 0} (n : ℕ) (xs : List A) → length xs ≤ n → take n xs ≡ xs
take_past zero [] h = refl
take_past (suc n) [] h = refl
take_past zero (x ∷ xs) h = absurd (omega (arith, h))
take_past (suc n) (x ∷ xs) h = ap (λ l. x ∷ l) (take_past n xs (omega (arith, h)))

take_one_more : {A : Type 0} (n : ℕ) (xs : List A) (x : A) → length (take n xs) < n → take n (xs ++ x ∷ []) ≡ take n xs ++ x ∷ []
take_one_more zero xs x h = absurd (omega (arith, h))
take_one_more (suc n) [] x h = ap (λ l. x ∷ l) (take_past n [] (omega arith))
take_one_more (suc n) (y ∷ xs) x h = ap (λ l. y ∷ l) (take_one_more n xs x (omega (arith, h)))

take_full : {A : Type 0} (n : ℕ) (xs ys : List A) → n ≤ length (take n xs) → take n (xs ++ ys) ≡ take n xs
take_full n xs ys h = take-append-le n xs ys (omega (arith, h, length-take n xs))

-- the entries that are kept, as the code holds them
pub kept_entry : (most : ℕ) (kept new : List (String Global × Vec Value Global)) (done : List Entry) (x : String Global × Vec Value Global)
    → map entry_of kept ≡ take (most + 1) done → (length kept ≤ most → new ≡ kept ++ x ∷ []) → (most < length kept → new ≡ kept)
    → map entry_of new ≡ take (most + 1) (done ++ entry_of x ∷ [])
kept_entry most kept new done x are room full =
    let same = sym (length-map kept entry_of) ∙ ap length are in
    elim (cases_lt most (length kept)) [
      | inl more ↦ ap (map entry_of) (full more) ∙ are ∙ sym (take_full (most + 1) done (entry_of x ∷ []) (omega (arith, more, same)))
      | inr few ↦ ap (map entry_of) (room (omega (arith, few))) ∙ map-append entry_of kept (x ∷ []) ∙ ap (λ l. l ++ entry_of x ∷ []) are
          ∙ sym (take_one_more (most + 1) done (entry_of x) (omega (arith, few, same)))
    ]

-- what a reader has, of which the lines before k are read: the first of the entries that these spell
pub record AreRead (lines : List (List ℕ)) (most k : ℕ) (kept : List Entry) : Type 0 where
  pub done : List Entry
  pub first : kept ≡ take (most + 1) done
  pub all : (more : List Entry) → AreEntries (drop k lines) more → AreEntries lines (done ++ more)

pub none_read : (lines : List (List ℕ)) (most k : ℕ) (kept : List Entry) → k ≡ 0 → kept ≡ [] → AreRead lines most k kept
none_read lines most k kept start none = record {
  done = [];
  first = none ∙ sym (take_past (most + 1) [] (omega arith));
  all = λ more h. subst (λ n. AreEntries (drop n lines) more) start h;
}

-- ---- entries of which nothing is wrong with any are no more than the channels

false_first : (b r : Bool) → (if b then true else r) ≡ false → (b ≡ false) × (r ≡ false)
false_first true r e = absurd cc
false_first false r e = (refl, e)

apart : (c : ℕ) (t : Program) (es : List Entry) → ((k : ℕ) (e : Entry) → slice_get es k ≡ Some e → (c == channel_of t e) ≡ false)
    → AllByRecursion (λ d. (c == d) ≡ false) (map (channel_of t) es)
apart c t [] h = tt
apart c t (e ∷ es) h = (h zero e refl, apart c t es (λ k. h (suc k)))

module _ (t : Program) where
  other : (x : Entry) (xs : List Entry) (c : ℕ) → is_given t (x ∷ xs) c ≡ false → (channel_of t x == c) ≡ false
  other x xs c h = (false_first (channel_of t x == c) (is_given t xs c) h).0

  fit_rest : (x : Entry) (xs : List Entry) → AreFit t (x ∷ xs) → AreFit t xs
  fit_rest x xs fit k e at =
      let (named, (input, (first, rest))) = fit (suc k) e at in
      (named, (input, ((false_first (channel_of t x == channel_of t e) (is_given t (take k xs) (channel_of t e)) first).1, rest)))

  distinct : (es : List Entry) → AreFit t es → IsDistinct (λ a b. a == b) (map (channel_of t) es)
  unfolding IsDistinct
  distinct [] fit = tt
  distinct (x ∷ xs) fit = (
    apart (channel_of t x) t xs (λ k e at. let (named, (input, (first, rest))) = fit (suc k) e at in other x (take k xs) (channel_of t e) first),
    distinct xs (fit_rest x xs fit),
  )

  below : (es : List Entry) → AreFit t es → (c : ℕ) → list_any (λ d. c == d) (map (channel_of t) es) ≡ true → c < length (channel_names t)
  below [] fit c has = absurd cc
  below (x ∷ xs) fit c has = by (c == channel_of t x) refl has (below xs (fit_rest x xs fit) c)
    where
      by : (b : Bool) → (c == channel_of t x) ≡ b → (b || list_any (λ d. c == d) (map (channel_of t) xs)) ≡ true
          → (list_any (λ d. c == d) (map (channel_of t) xs) ≡ true → c < length (channel_names t)) → c < length (channel_names t)
      by true e has later = omega (arith, eqb-true c (channel_of t x) e, (fit zero x refl).0)
      by false e has later = later has

  fit_few : (es : List Entry) → AreFit t es → length es ≤ length (channel_names t)
  fit_few es fit = omega (arith, length-map es (channel_of t), length-le_from_distinct_below (map (channel_of t) es) (length (channel_names t)) (distinct es fit) (below es fit))

-- ---- what the first entries tell of all

get_taken : {A : Type 0} (n k : ℕ) (xs : List A) (x : A) → slice_get (take n xs) k ≡ Some x → (slice_get xs k ≡ Some x) × (take k (take n xs) ≡ take k xs)
get_taken (suc n) zero (y ∷ xs) x e = (e, refl)
get_taken (suc n) (suc k) (y ∷ xs) x e = let (at, same) = get_taken n k xs x e in (at, ap (λ l. y ∷ l) same)
get_taken n k xs x e = absurd cc

pub refused_of_all : (t : Program) (n : ℕ) (all : List Entry) (fault : InputFault) → IsFirstRefused t (take n all) fault → IsFirstRefused t all fault
refused_of_all t n all fault (k, entry, at, fit, fails) =
    let (there, same) = get_taken n k all entry at in
    (k, entry, there, subst (AreFit t) same fit, subst (λ l. FailsFirst (asked_of_entry t (is_given t l (channel_of t entry)) (k + 1) entry) fault) same fails)

whole : (n : ℕ) (all : List Entry) → length (take (n + 1) all) ≤ n → take (n + 1) all ≡ all
whole n all few = take_past (n + 1) all (omega (arith, few, length-take (n + 1) all))

pub input_kept : (t : Program) (text : List ℕ) (n : ℕ) (first : List Entry) (lists : Lists) → n ≡ length (network_of t).channels
    → AreFirstEntries text (n + 1) first → IsInputOf t first lists → StandsFor t text lists
input_kept t text n first lists count (all, is, same) made =
    let few : length first ≤ n = omega (arith, fit_few t first made.fit, names_count t, count) in
    let all_kept : first ≡ all = same ∙ whole n all (subst (λ l. length l ≤ n) same few) in
    (all, is, subst (λ l. IsInputOf t l lists) all_kept made)
