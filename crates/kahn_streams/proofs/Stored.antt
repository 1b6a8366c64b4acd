-- Lists that store tokens as integers and a rest.
use Rattle.kahn_streams.proofs.Common.{◌≡◌, ℕ, ℤ, suc, zero, ◌+◌, ◌-◌, ◌<◌, ◌≤◌, List, [], ◌∷◌, ◌++◌, length, take, drop, slice_get, slice_index_or, Some, Value, Integer, Token, refl, sym, ap, ◌∙◌, arith, add-zero, append-nil, append_assoc, map, map-append, length-map, length-append}
use Rattle.std.specs.Prelude.{min}
use Rattle.kahn_streams.specs.Tokens.{token_value}
use Rattle.kahn_streams.specs.inner.Stored.{values_in, AreStored}

pub values_length : (zs : List ℤ) (vs : List Value) → length (values_in zs vs) ≡ length zs + length vs
values_length zs vs = length-append (map Integer zs) vs ∙ ap (λ n. n + length vs) (length-map zs Integer)

pub value_at : (zs : List ℤ) (vs : List Value) (k : ℕ) (d : ℤ) → k < length zs → slice_get (values_in zs vs) k ≡ Some (Integer (slice_index_or zs k d))
value_at [] vs k d lt = absurd (omega (arith, lt))
value_at (z ∷ zs) vs zero d lt = refl
value_at (z ∷ zs) vs (suc k) d lt = value_at zs vs k d (omega (arith, lt))

behind : (zs : List ℤ) (vs : List Value) (k : ℕ) → slice_get (values_in zs vs) (k + length zs) ≡ slice_get vs k
behind [] vs k = ap (slice_get vs) (add-zero k)
behind (z ∷ zs) vs k =
    let next : k + suc (length zs) ≡ suc (k + length zs) = omega arith in
    ap (slice_get (values_in (z ∷ zs) vs)) next ∙ behind zs vs k

pub value_behind : (zs : List ℤ) (vs : List Value) (k : ℕ) → length zs ≤ k → slice_get (values_in zs vs) k ≡ slice_get vs (k - length zs)
value_behind zs vs k le =
    let whole : k ≡ (k - length zs) + length zs = omega (arith, le) in
    ap (slice_get (values_in zs vs)) whole ∙ behind zs vs (k - length zs)

-- the integers among the first ones, and so many of the others
pub values_taken : (zs : List ℤ) (vs : List Value) (k i j : ℕ) → i ≡ min k (length zs) → i + j ≡ k → values_in (take i zs) (take j vs) ≡ take k (values_in zs vs)
values_taken [] vs k zero j e s = let same : j ≡ k = omega (arith, s) in ap (λ n. take n vs) same
values_taken [] vs k (suc i) j e s = absurd (omega (arith, e))
values_taken (z ∷ zs) vs zero zero j e s = let same : j ≡ 0 = omega (arith, s) in ap (λ n. take n vs) same
values_taken (z ∷ zs) vs zero (suc i) j e s = absurd (omega (arith, s))
values_taken (z ∷ zs) vs (suc k) zero j e s = absurd (omega (arith, e))
values_taken (z ∷ zs) vs (suc k) (suc i) j e s = ap (λ l. Integer z ∷ l) (values_taken zs vs k i j (omega (arith, e)) (omega (arith, s)))

pub values_dropped : (zs : List ℤ) (vs : List Value) (k i j : ℕ) → i ≡ min k (length zs) → i + j ≡ k → values_in (drop i zs) (drop j vs) ≡ drop k (values_in zs vs)
values_dropped [] vs k zero j e s = let same : j ≡ k = omega (arith, s) in ap (λ n. drop n vs) same
values_dropped [] vs k (suc i) j e s = absurd (omega (arith, e))
values_dropped (z ∷ zs) vs zero zero j e s = let same : j ≡ 0 = omega (arith, s) in ap (λ n. values_in (z ∷ zs) (drop n vs)) same
values_dropped (z ∷ zs) vs zero (suc i) j e s = absurd (omega (arith, s))
values_dropped (z ∷ zs) vs (suc k) zero j e s = absurd (omega (arith, e))
values_dropped (z ∷ zs) vs (suc k) (suc i) j e s = values_dropped zs vs k i j (omega (arith, e)) (omega (arith, s))

-- one integer more, where nothing is behind them
pub integer_more : (ts : List Token) (t : Token) (z : ℤ) (zs : List ℤ) → AreStored ts zs [] → t.value ≡ Integer z → AreStored (ts ++ t ∷ []) (zs ++ z ∷ []) []
integer_more ts t z zs so is =
    map-append token_value ts (t ∷ []) ∙ ap (λ l. l ++ t.value ∷ []) (so ∙ append-nil (map Integer zs)) ∙ ap (λ v. map Integer zs ++ v ∷ []) is ∙ sym (map-append Integer zs (z ∷ [])) ∙ sym (append-nil (map Integer (zs ++ z ∷ [])))

-- one value more behind them
pub rest_more : (ts : List Token) (t : Token) (zs : List ℤ) (vs : List Value) → AreStored ts zs vs → AreStored (ts ++ t ∷ []) zs (vs ++ t.value ∷ [])
rest_more ts t zs vs so =
    map-append token_value ts (t ∷ []) ∙ ap (λ l. l ++ t.value ∷ []) so ∙ append_assoc (map Integer zs) vs (t.value ∷ [])
