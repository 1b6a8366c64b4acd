-- The ends of tasks.
use Rattle.kahn_pool.proofs.Common.{arith, ◌≡◌, ◌⊎◌, inl, inr, ℕ, suc, ◌<◌, List, [], ◌∷◌, ◌++◌, length, refl, sym, ap, ◌∙◌, subst, Some, None, slice_get, length-append, Program, Side, Reads, Writes, network_of, instance_at, actual_at, IsWriter, IsOnly, IsFed, IsWellWired, side_at, handed_within, reads, writes, Lists, inputs_of, Joins, at_last, joins_parameter, count, Tasked, handed_to_task, AreAll, AreEndsOfTasks, AreTold, IsEndOf, IsToldAs, same_Some, End, got}
use Rattle.kahn_job.specs.declared.task.TaskStanding.TheVariants as standing
use Rattle.kahn_streams.specs.declared.answer.Outcome.TheVariants as outcome

pub writer_side : (t : Program) (p q c : ℕ) → actual_at (instance_at (network_of t) p) q ≡ Writes c → IsWriter (network_of t) c (side_at p q)
writer_side t p q c e = (handed_within (network_of t) p q c (subst (λ a. Joins a c) (sym e) refl), e)

-- what is handed to a task of instance p
pub handed_to : (t : Program) (p q : ℕ) (x : Tasked) → x.work.cell.network ≡ t → x.work.cell.instance ≡ p → handed_to_task x.work q ≡ actual_at (instance_at (network_of t) p) q
handed_to t p q x n i =
    ap (λ k. actual_at (instance_at (network_of k) x.work.cell.instance) q) n ∙ ap (λ k. actual_at (instance_at (network_of t) k) q) i

module _ (t : Program) (tasks : List Tasked) (h : AreTold t tasks) where
  pub handed_as : (p q : ℕ) (x : Tasked) → slice_get tasks p ≡ Some x → handed_to_task x.work q ≡ actual_at (instance_at (network_of t) p) q
  handed_as p q x e = handed_to t p q x (h.network p x e) (h.instance p x e)

  pub sent_all : (lists : Lists) (c : ℕ) (w : Side) (x : Tasked) (n : ℕ) → IsWellWired t → IsOnly (IsWriter (network_of t) c) (Some w) → slice_get tasks w.instance ≡ Some x →
      n ≡ count x.work.cell.sent w.parameter → AreAll t lists tasks c n
  sent_all lists c w x n wired only at e = record {
    given = λ r. absurd ((writes t wired w.instance w.parameter c only.0.1).1 r);
    sent = λ r o z f k.
        let s = only.1 (side_at r o) (writer_side t r o c (sym (handed_as r o z f) ∙ k)) in
        let i : r ≡ w.instance = ap (λ (u : Side). u.instance) s in
        let q : o ≡ w.parameter = ap (λ (u : Side). u.parameter) s in
        let same : z ≡ x = same_Some _ _ (sym f ∙ ap (slice_get tasks) i ∙ at) in
        ap (λ y. count y.work.cell.sent o) same ∙ ap (count x.work.cell.sent) q ∙ sym e;
  }

  pub given_all : (lists : Lists) (c : ℕ) (n : ℕ) → IsOnly (IsWriter (network_of t) c) None → n ≡ length (inputs_of lists c) → AreAll t lists tasks c n
  given_all lists c n none e = record {
    given = λ r. e;
    sent = λ r o z f k. absurd (none (side_at r o) (writer_side t r o c (sym (handed_as r o z f) ∙ k)));
  }

-- all is one number
pub one_number : (t : Program) (lists : Lists) (tasks : List Tasked) (p q d k n : ℕ) → IsWellWired t → AreTold t tasks →
    actual_at (instance_at (network_of t) p) q ≡ Reads d → AreAll t lists tasks d n → AreAll t lists tasks d k → k ≡ n
one_number t lists tasks p q d k n wired h r a b = by (reads t wired p q d r)
  where
    by : IsFed (network_of t) d → k ≡ n
    by (inl f) = b.given f.1 ∙ sym (a.given f.1)
    by (inr f) =
        let w = writer_side t f.0 f.1 d f.3 in
        let g = got tasks f.0 (subst (λ m. f.0 < m) (sym h.count) w.0.0) in
        let at = handed_as t tasks h f.0 f.1 g.0 g.1 ∙ f.3 in
        sym (b.sent f.0 f.1 g.0 g.1 at) ∙ a.sent f.0 f.1 g.0 g.1 at

-- ---- what stands in the answer

pub dry_told : (t : Program) (lists : Lists) (tasks : List Tasked) (p q c n k : ℕ) → IsWellWired t → AreTold t tasks →
    actual_at (instance_at (network_of t) p) q ≡ Reads c → AreAll t lists tasks c n → (y x : Tasked) → slice_get tasks p ≡ Some y → slice_get tasks p ≡ Some x →
    k ≡ count y.work.cell.taken q → x.standing ≡ standing.Dry q → (k ≡ n → IsToldAs t lists tasks x (outcome.Waits c)) × ((k ≡ n → ⊥) → IsToldAs t lists tasks x outcome.More)
dry_told t lists tasks p q c n k wired h r all y x here at taken s =
    let is = taken ∙ ap (λ (z : Tasked). count z.work.cell.taken q) (same_Some y x (sym here ∙ at)) in (
      λ e. (q, s, handed_as t tasks h p q x at ∙ r, subst (AreAll t lists tasks c) (sym e ∙ is) all),
      λ n'. inr (q, c, s, handed_as t tasks h p q x at ∙ r, λ a. n' (is ∙ one_number t lists tasks p q c _ n wired h r all a)),
    )

-- ---- all ends

pub more_ends : (t : Program) (lists : Lists) (tasks : List Tasked) (ends : List End) (n : ℕ) (y : End) → AreEndsOfTasks t lists tasks ends n →
    ((x : Tasked) → slice_get tasks n ≡ Some x → IsEndOf t lists tasks x y) → AreEndsOfTasks t lists tasks (ends ++ y ∷ []) (suc n)
more_ends t lists tasks ends n y h last = record {
  count = length-append ends (y ∷ []) ∙ (let c = h.count in omega (arith, c));
  each = λ p x z a b. by p x z a (at_last ends y p z b);
}
  where
    by : (p : ℕ) (x : Tasked) (z : End) → slice_get tasks p ≡ Some x → (slice_get ends p ≡ Some z) ⊎ ((p ≡ length ends) × (y ≡ z)) → IsEndOf t lists tasks x z
    by p x z a (inl e) = h.each p x z a e
    by p x z a (inr e) = subst (IsEndOf t lists tasks x) e.1 (last x (ap (slice_get tasks) (sym (e.0 ∙ h.count)) ∙ a))

pub taken_long : (t : Program) (tasks : List Tasked) (p q d n : ℕ) (x : Tasked) → AreTold t tasks → slice_get tasks p ≡ Some x →
    actual_at (instance_at (network_of t) p) q ≡ Reads d → n ≡ length (instance_at (network_of x.work.cell.network) x.work.cell.instance).actuals → q < n
taken_long t tasks p q d n x h at e is =
    let l = joins_parameter (network_of t) p q d (subst (λ a. Joins a d) (sym e) refl) in
    let same : length (instance_at (network_of x.work.cell.network) x.work.cell.instance).actuals ≡ length (instance_at (network_of t) p).actuals =
    ap (λ k. length (instance_at (network_of k) x.work.cell.instance).actuals) (h.network p x at) ∙
    ap (λ i. length (instance_at (network_of t) i).actuals) (h.instance p x at)
    in
    omega (arith, l, same, is)
