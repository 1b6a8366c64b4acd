-- Tokens at consecutive places, and what they are of.
use Rattle.kahn_lane.proofs.Common.{[], ◌≡◌, ◌<◌, ℕ, zero, suc, ◌+◌, ◌-◌, List, ◌∷◌, ◌++◌, length, slice_index_or, Option, Some, arith, ap, sym, ◌∙◌, subst, Token, LaneName, Segment, tokens_of, Named, StandFrom, token_name}

pub placed_more : (c : Named) (n : ℕ) (xs : List Token) (x t : Token) → StandFrom c n xs → x ≡ t → c ≡ Some (token_name t) → t.place ≡ n + length xs → StandFrom c n (xs ++ x ∷ [])
placed_more c n [] x t h is on at = ((on ∙ ap (λ u. Some (token_name u)) (sym is), omega (arith, at, ap (λ (u : Token). u.place) is)), tt)
placed_more c n (y ∷ ys) x t h is on at = (h.0, placed_more c (n + 1) ys x t h.1 is on (omega (arith, at)))

pub placed_at : (c : Named) (n : ℕ) (xs : List Token) (k : ℕ) (x : Token) → StandFrom c n xs → k < length xs → x ≡ slice_index_or xs k x → (c ≡ Some (token_name x)) × (x.place ≡ n + k)
placed_at c n [] k x h lt is = absurd (omega (arith, lt))
placed_at c n (y ∷ ys) zero x h lt is =
    (h.0.0 ∙ ap (λ (z : Token). Some (token_name z)) (sym is), omega (arith, ap (λ (z : Token). z.place) is, h.0.1))
placed_at c n (y ∷ ys) (suc k) x h lt is =
    let rest = placed_at c (n + 1) ys k x h.1 (omega (arith, lt)) is in (rest.0, omega (arith, rest.1))

pub same_name : (a b : LaneName) → Some a ≡ Some b → a ≡ b
same_name a b e = cc

module _ {A : Type 0} where
  abbrev with_alone : Segment A → Option Token → Segment A
  with_alone s r = record s { alone = r }

  alone_is : (s : Segment A) (xs : List Token) (r : Option Token) → length xs ≡ 1 → ((d : Token) → r ≡ Some (slice_index_or xs 0 d)) → tokens_of (with_alone s r) ≡ xs
  alone_is s [] r one is = absurd (omega (arith, one))
  alone_is s (x ∷ []) r one is = ap (λ (k : Option Token). tokens_of (with_alone s k)) (is x)
  alone_is s (x ∷ y ∷ zs) r one is = absurd (omega (arith, one))

  -- a segment with what is popped off a list of one token has the token of the list
  pub tokens_alone : (s : Segment A) (xs : List Token) (n : ℕ) → n ≡ 1 → length xs ≡ n → ((d : Token) → 0 < n → s.alone ≡ Some (slice_index_or xs (n - 1) d)) → tokens_of s ≡ xs
  tokens_alone s xs n one counts value =
      alone_is s xs s.alone (omega (arith, one, counts)) (λ d. subst (λ (k : ℕ). 0 < k → s.alone ≡ Some (slice_index_or xs (k - 1) d)) one (value d) (omega arith))
