-- Standings, and the marks of rings over them.
use Rattle.kahn_graph.proofs.Common.{AreRings, Bool, End, IsRingMark, IsWaitAt, IsWaitMark, List, Schema, Some, Standing, Waits, ap, arith, cases_lt, eq-eqb, eqb-true, false, get_or, length, length-map, map, option_map, refl, same_Some, slice_get, slice_get-get_or, slice_get-map, stands, subst, sym, true, is_wait, if◌then◌else◌, ℕ, ⊎_elim, ◌+◌, ◌<◌, ◌∙◌, ◌≡◌, ◌≤◌}

module _ (N : Schema) (ends : List End) (marks : List Bool) (rings : AreRings N (map stands ends) marks) where
  -- whether one waits on the channel, and is on a ring
  pub wait_at : (c p : ℕ) (d on : Bool) (x : End) (b : Bool) → p < length ends → get_or marks p d ≡ on → is_wait c (stands (get_or ends p x)) ≡ b
      → IsWaitAt N (map stands ends) c p (if on then b else false)
  wait_at c p d on x b le e f = by on b (rings.rings p on (slice_get-get_or marks p d marked ∙ ap Some e)) (stands (get_or ends p x)) at f
    where
      marked : p < length marks
      marked = omega (arith, le, rings.each, length-map ends stands)

      at : slice_get (map stands ends) p ≡ Some (stands (get_or ends p x))
      at = slice_get-map stands ends p ∙ ap (option_map stands) (slice_get-get_or ends p x le)

      only : (s : Standing) → is_wait c s ≡ true → s ≡ Waits c
      only (Waits d) g = ap Waits (eqb-true d c g)
      only s g = absurd cc

      by : (on b : Bool) → IsRingMark N (map stands ends) p on → (s : Standing) → slice_get (map stands ends) p ≡ Some s → is_wait c s ≡ b
          → IsWaitAt N (map stands ends) c p (if on then b else false)
      by false b off s is g = λ _ r. off r
      by true true ring s is g = (is ∙ ap Some (only s g), ring)
      by true false ring s is g = λ other _.
          let same : s ≡ Waits c = same_Some _ _ (sym is ∙ other) in
          let bad : true ≡ false = sym (eq-eqb c c refl) ∙ (ap (is_wait c) (sym same) ∙ g) in
          absurd cc

-- no instance before the nth
pub no_wait_more : (N : Schema) (ss : List Standing) (c n : ℕ) → ((p : ℕ) → p < n → IsWaitAt N ss c p false) → IsWaitAt N ss c n false
    → (p : ℕ) → p < n + 1 → IsWaitAt N ss c p false
no_wait_more N ss c n before here p le =
    ⊎_elim (λ l. before p l) (λ ge. subst (λ q. IsWaitAt N ss c q false) (sym (the_nth ge)) here) (cases_lt p n)
  where
    the_nth : n ≤ p → p ≡ n
    the_nth ge = omega (arith, ge, le)

pub some_wait : (N : Schema) (ss : List Standing) (c p : ℕ) → IsWaitAt N ss c p true → IsWaitMark N ss c true
some_wait N ss c p is = (p, is.0, is.1)
