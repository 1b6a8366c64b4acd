-- What went out of the streams begins what they have later, so what is new stands behind it.
use Rattle.kahn_session.proofs.Common.{[], arith, ◌≡◌, ◌∙◌, ◌⊎◌, inl, inr, ℕ, zero, suc, ◌+◌, ◌<◌, ◌≤◌, Bool, true, false, append-nil, subst, List, ◌∷◌, ◌++◌, length, map, drop, Some, refl, sym, ap, ap₂, slice_get, slice_index_or, same_Some, network_of, Value, Line, GoesOn, HeldRun, so_far, AreNew, Flowing, flow_lines, token_value, Token, joined, HasLetGoAt, let_go_but, news_of, values_behind, waiting_from, next_of, Pace, OutBegins}
use Rattle.std.proofs.{Math.Seq.drop-append_seam, lemmas.Option.slice_get_within}
use Rattle.kahn_streams.specs.Answers.{stream_lines}

-- both have the same lines
pub lines_stay : (a b : HeldRun) → GoesOn a b → flow_lines b ≡ flow_lines a
lines_stay a b g = ap (λ t. stream_lines (network_of t) b.watch) g.network ∙ ap (λ w. stream_lines (network_of a.network) w) g.watch

pub kept_lines : (a b : HeldRun) (lines : List Line) → lines ≡ flow_lines a → GoesOn a b → lines ≡ flow_lines b
kept_lines a b lines e g = e ∙ sym (lines_stay a b g)

put_together : (h : HeldRun) (lines : List Line) (outs : List (List Value))
    → ((j : ℕ) (c : Line) → slice_get lines j ≡ Some c → (news : List Value) × (so_far h c ≡ slice_index_or outs j [] ++ news))
    → joined outs (values_behind h lines (map length outs)) ≡ map (so_far h) lines
put_together h [] [] each = refl
put_together h [] (vs ∷ outs) each = refl
put_together h (c ∷ lines) [] each = ap (λ l. so_far h c ∷ l) (put_together h lines [] (λ j. each (suc j)))
put_together h (c ∷ lines) (vs ∷ outs) each =
    let (news, e) = each 0 c refl in
    ap₂ (λ (x : List Value) (l : List (List Value)). x ∷ l)
    (ap (λ ws. vs ++ drop (length vs) ws) e ∙ ap (λ ws. vs ++ ws) (drop-append_seam vs news) ∙ sym e)
    (put_together h lines outs (λ j. each (suc j)))

-- what went out and the news are the streams so far
pub news_fit : (f : Flowing) → OutBegins f → joined f.out (news_of f) ≡ map (so_far f.run) (flow_lines f.run)
news_fit f h = put_together f.run (flow_lines f.run) f.out h

-- the next stream has begun so, too
pub begun_next : (f : Flowing) (lines : List Line) (i : ℕ) (line : Line) (ts : List Token) → lines ≡ flow_lines f.run → slice_get lines i ≡ Some line → AreNew f line ts
    → ((j : ℕ) (c : Line) → j < i → slice_get lines j ≡ Some c → (news : List Value) × (so_far f.run c ≡ slice_index_or f.out j [] ++ news))
    → (j : ℕ) (c : Line) → j < i + 1 → slice_get lines j ≡ Some c → (news : List Value) × (so_far f.run c ≡ slice_index_or f.out j [] ++ news)
begun_next f lines i line ts is here new before j c below there = by (before_or_at j i below)
  where
    before_or_at : (j i : ℕ) → j < i + 1 → (j < i) ⊎ (j ≡ i)
    before_or_at j i l = search arith

    by : (j < i) ⊎ (j ≡ i) → (news : List Value) × (so_far f.run c ≡ slice_index_or f.out j [] ++ news)
    by (inl l) = before j c l there
    by (inr e) =
        let same : c ≡ line = same_Some c line (sym there ∙ ap (slice_get lines) e ∙ here) in (
          map token_value ts,
          ap (so_far f.run) same ∙ new i (subst (λ (l : List Line). slice_get l i ≡ Some line) is here)
              ∙ ap (λ n. slice_index_or f.out n [] ++ map token_value ts) (sym e),
        )

-- all streams are among those so far
pub within_lines : (lines : List Line) (j : ℕ) (c : Line) (i : ℕ) → slice_get lines j ≡ Some c → length lines ≤ i → j < i
within_lines lines j c i there past = let below = slice_get_within lines j c there in omega (arith, below, past)

-- the member of the same place
pub mapped : (f : Line → List Value) (ls : List Line) (j : ℕ) (c : Line) → slice_get ls j ≡ Some c → slice_index_or (map f ls) j [] ≡ f c
mapped f [] j c at = absurd cc
mapped f (l ∷ ls) zero c at = ap f (same_Some l c at)
mapped f (l ∷ ls) (suc j) c at = mapped f ls j c at

module _ (count : ℕ) (columns : List ℕ) (old new : Pace) (shown : ℕ) where
  -- what was let go of begins what there is
  pub gone_begins : (b : Bool) → HasLetGoAt b count columns old new shown → OutBegins old.flow → OutBegins new.flow
  gone_begins b gone begun = by b gone
    where
      all : (waits : List (List Value)) → OutBegins (let_go_but old waits).flow
      all waits j c at = ([], sym (append-nil _ ∙ mapped (so_far old.flow.run) (flow_lines old.flow.run) j c at))

      by : (b : Bool) → HasLetGoAt b count columns old new shown → OutBegins new.flow
      by false (is, none) = subst (λ (p : Pace). OutBegins p.flow) (sym is) (all [])
      by true (inl (is, some)) = subst (λ (p : Pace). OutBegins p.flow) (sym is) begun
      by true (inr (is, none)) = subst (λ (p : Pace). OutBegins p.flow) (sym is) (all (waiting_from (next_of old) count columns 0 (flow_lines old.flow.run)))

  -- the run stays
  pub gone_run : (b : Bool) → HasLetGoAt b count columns old new shown → (new.flow ≡ record old.flow { out = new.flow.out }) × (new.step ≡ old.step)
  gone_run b gone = by b gone
    where
      same : (p : Pace) → new ≡ p → (p.flow ≡ record old.flow { out = p.flow.out }) × (p.step ≡ old.step) → (new.flow ≡ record old.flow { out = new.flow.out }) × (new.step ≡ old.step)
      same p is = subst (λ (q : Pace). (q.flow ≡ record old.flow { out = q.flow.out }) × (q.step ≡ old.step)) (sym is)

      by : (b : Bool) → HasLetGoAt b count columns old new shown → (new.flow ≡ record old.flow { out = new.flow.out }) × (new.step ≡ old.step)
      by false (is, none) = same (let_go_but old []) is (refl, refl)
      by true (inl (is, some)) = same old is (refl, refl)
      by true (inr (is, none)) = same (let_go_but old (waiting_from (next_of old) count columns 0 (flow_lines old.flow.run))) is (refl, refl)
