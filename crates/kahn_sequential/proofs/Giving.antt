-- Streams of input channels, which get the whole list of the input.
use Rattle.kahn_sequential.proofs.Common.{⊎_elim, arith, ◌≡◌, ◌⊎◌, inl, inr, ℕ, suc, ◌-◌, ◌<◌, ◌≤◌, Bool, true, false, if◌then◌else◌, List, [], ◌∷◌, ◌++◌, length, map, Some, None, refl, sym, ap, ◌∙◌, subst, slice_get, append_assoc, same_Some, length-append, length-map, map-append, Role, Value, Inner, Input, Output, Channel, Token, Inputs, source, IsPrefix, Schema, Node, Source, Given, Written, Nobody, any_written, first_writer, source_by, channel_source, role_at, IsOwn, token_value, Stream, IsBegun, IsOpenStream, OpensWith, at_last}
use Rattle.kahn_sequential.proofs.Lists.{all_of_it}

-- ---- the list of a channel, token by token

pub begun_none : (N : Schema) (I : Inputs) (c : ℕ) (vs : List Value) (ts : List Token) → ts ≡ [] → IsBegun N I c vs ts
begun_none N I c vs ts e = subst (IsBegun N I c vs) (sym e) (record { values = (vs, refl); places = λ k t f. absurd cc; own = λ k t f. absurd cc })

seam : (xs ys : List Value) → slice_get (xs ++ ys) (length xs) ≡ slice_get ys 0
seam [] ys = refl
seam (x ∷ xs) ys = seam xs ys

prefix_more : (xs vs : List Value) (v : Value) → IsPrefix xs vs → slice_get vs (length xs) ≡ Some v → IsPrefix (xs ++ v ∷ []) vs
prefix_more xs vs v (zs, e) f = by zs e
  where
    by : (zs : List Value) → vs ≡ xs ++ zs → IsPrefix (xs ++ v ∷ []) vs
    by [] e = let g : None ≡ Some v = sym (seam xs []) ∙ (ap (λ l. slice_get l (length xs)) (sym e) ∙ f) in absurd cc
    by (z ∷ zs) e =
        let g : Some z ≡ Some v = sym (seam xs (z ∷ zs)) ∙ (ap (λ l. slice_get l (length xs)) (sym e) ∙ f) in
        (zs, e ∙ (ap (λ y. xs ++ y ∷ zs) (same_Some z v g) ∙ sym (append_assoc xs (v ∷ []) zs)))

pub begun_more : (N : Schema) (I : Inputs) (c : ℕ) (vs : List Value) (ts us : List Token) (t : Token) (n : ℕ) → IsBegun N I c vs ts → us ≡ ts ++ t ∷ [] → n ≡ length ts →
    t.line ≡ Channel c → t.place ≡ n → slice_get vs n ≡ Some t.value → IsOwn N I t → IsBegun N I c vs us
begun_more N I c vs ts us t n b u e line place v mine = subst (IsBegun N I c vs) (sym u) (record {
  values = subst (λ l. IsPrefix l vs) (sym (map-append token_value ts (t ∷ []))) (prefix_more (map token_value ts) vs t.value b.values (ap (slice_get vs) (length-map ts token_value ∙ sym e) ∙ v));
  places = λ k w f. by k w (at_last ts t k w f);
  own = λ k w f. owned k w (at_last ts t k w f);
})
  where
    by : (k : ℕ) (w : Token) → (slice_get ts k ≡ Some w) ⊎ ((k ≡ length ts) × (t ≡ w)) → (w.line ≡ Channel c) × (w.place ≡ k)
    by k w (inl f) = b.places k w f
    by k w (inr (f, g)) = (ap (λ x. x.line) (sym g) ∙ line, ap (λ x. x.place) (sym g) ∙ (place ∙ (e ∙ sym f)))

    owned : (k : ℕ) (w : Token) → (slice_get ts k ≡ Some w) ⊎ ((k ≡ length ts) × (t ≡ w)) → IsOwn N I w
    owned k w (inl f) = b.own k w f
    owned k w (inr (f, g)) = subst (IsOwn N I) g mine

pub falls : (a n m : ℕ) → n < a → m ≡ suc n → a - m < a - n
falls a n m l e = omega (arith, l, e)

-- ---- where a channel's values come from

no_given : (is : List Node) (p c : ℕ) → first_writer is p c ≡ Given → ⊥
no_given [] p c e = cc
no_given (i ∷ is) p c e = by (no_given is (suc p) c) (any_written i.actuals c) refl
  where
    by : (first_writer is (suc p) c ≡ Given → ⊥) → (b : Bool) → any_written i.actuals c ≡ b → ⊥
    by go true f = let g : Written p ≡ Given = subst (λ b. (if b then Written p else first_writer is (suc p) c) ≡ Given) f e in cc
    by go false f = go (subst (λ b. (if b then Written p else first_writer is (suc p) c) ≡ Given) f e)

role_given : (r : Role) (s : Source) → (s ≡ Given → ⊥) → source_by r s ≡ Given → r ≡ Input
role_given Input s n e = refl
role_given Inner s n e = absurd (n e)
role_given Output s n e = absurd (n e)

-- a channel that is given from outside is an input channel
pub input_role : (N : Schema) (c : ℕ) → channel_source N c ≡ Given → role_at N c ≡ Input
input_role N c e = role_given (role_at N c) (first_writer N.instances 0 c) (no_given N.instances 0 c) e

given_role : (r : Role) (s : Source) → r ≡ Input → source_by r s ≡ Given
given_role r s e = ap (λ x. source_by x s) e

pub channel_opens : (N : Schema) (I : Inputs) (c : ℕ) (us : List Token) → IsBegun N I c (I c) us → (us ≡ []) ⊎ (role_at N c ≡ Input) →
    (role_at N c ≡ Input → length (I c) ≤ length us) → OpensWith N I (source N (Channel c)) (Channel c) us
channel_opens N I c us b f g = by (source N (Channel c)) refl
  where
    all : role_at N c ≡ Input → map token_value us ≡ I c
    all r =
        let long = g r in
        let front = ap length b.values.1 ∙ length-append (map token_value us) b.values.0 in
        sym (all_of_it (map token_value us) (I c) b.values (omega (arith, long, front, length-map us token_value)))

    none : (o : Source) → channel_source N c ≡ o → (o ≡ Given → ⊥) → us ≡ []
    none o e n = ⊎_elim (λ s. s) (λ r. absurd (n (sym e ∙ given_role (role_at N c) (first_writer N.instances 0 c) r))) f

    by : (o : Source) → channel_source N c ≡ o → OpensWith N I o (Channel c) us
    by Given e = record { values = all (input_role N c e); places = b.places; own = b.own }
    by (Written p) e = none (Written p) e (λ h. cc)
    by Nobody e = none Nobody e (λ h. cc)

-- a watched channel opens with all of its list, if it is an input channel
pub opens_given : (N : Schema) (I : Inputs) (c : ℕ) (ts : List Token) → OpensWith N I (source N (Channel c)) (Channel c) ts → role_at N c ≡ Input → map token_value ts ≡ I c
opens_given N I c ts h r =
    let k = subst (λ o. OpensWith N I o (Channel c) ts) (given_role (role_at N c) (first_writer N.instances 0 c) r) h in k.values

-- one stream more
pub opens_more : (N : Schema) (I : Inputs) (streams : List Stream) (x : Stream) → ((j : ℕ) (y : Stream) → slice_get streams j ≡ Some y → IsOpenStream N I y) →
    IsOpenStream N I x → (j : ℕ) (y : Stream) → slice_get (streams ++ x ∷ []) j ≡ Some y → IsOpenStream N I y
opens_more N I streams x h mine j y e = ⊎_elim (λ f. h j y f) (λ (f, same). subst (IsOpenStream N I) same mine) (at_last streams x j y e)
