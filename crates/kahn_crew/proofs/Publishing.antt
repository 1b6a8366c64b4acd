-- What is published agrees with what the seat knows.
use Rattle.kahn_crew.proofs.Common.{none-some, arith, ◌≡◌, ◌≢◌, inl, inr, ℕ, ◌+◌, ◌<◌, ◌^◌, false, length, sym, ap, ◌∙◌, subst, Some, None, slice_set, dite, ℕ_discrete, get_or-set_same, get_or-set_other, Program, Actual, Writes, network_of, instance_at, actual_at, role_at, IsWellWired, is_output, count, driven, wires, SeatView, end_at, Work, HasPublished, SeesMore, IsJob, AreCounts, IsTaskOf, Tasked, AgreesWith, IsPublished, handed_to_task, written_by}
use Rattle.kahn_crew.proofs.{Wirings.so_written, Wirings.writer_is, Wirings.written_inside, Wirings.written_so}

writes_same : {c d : ℕ} → Writes d ≡ Writes c → d ≡ c
writes_same e = cc

module _ (t : Program) (wired : IsWellWired t) where
  abbrev At : ℕ → ℕ → Actual
  At p o = actual_at (instance_at (network_of t) p) o

  pub handed_is : (w : Work) (p o : ℕ) → w.cell.network ≡ t → w.cell.instance ≡ p → handed_to_task w o ≡ At p o
  handed_is w p o n i = ap (λ k. actual_at (instance_at (network_of k) w.cell.instance) o) n ∙ ap (λ k. actual_at (instance_at (network_of t) k) o) i

  pub inner_is : (w : Work) (c : ℕ) → w.cell.network ≡ t → is_output (role_at (network_of w.cell.network) c) ≡ is_output (role_at (network_of t) c)
  inner_is w c n = ap (λ k. is_output (role_at (network_of k) c)) n

  -- nothing is to be published where no channel between processes is written
  pub nothing_written : (x : Tasked) (p o : ℕ) → IsTaskOf t p x → written_by (network_of t) (At p o) ≡ None → IsPublished x o
  nothing_written x p o is e c h inner =
      absurd (none-some _ (sym e ∙ so_written (network_of t) (At p o) c (sym (handed_is x.work p o is.0 is.1) ∙ h) (sym (inner_is x.work c is.0) ∙ inner)))

  -- a number that is told
  pub agrees_told : (x : Tasked) (p o c k : ℕ) (old new : SeatView) → IsTaskOf t p x → written_by (network_of t) (At p o) ≡ Some c → o < length x.published →
      HasPublished (wires t) p c k old new → AgreesWith x.work x.published old.flushed → AgreesWith x.work (slice_set x.published o k) new.flushed
  agrees_told x p o c k old new is e lt tells agrees r d h inner =
      let here = written_so (network_of t) (At p o) c e in
      let there : At p r ≡ Writes d = sym (handed_is x.work p r is.0 is.1) ∙ h in
      dite (ℕ_discrete d c)
      (λ same.
      let q : r ≡ o = (driven t wired).once p r o c (there ∙ ap Writes same) here.0 in
      ap (λ j. count (slice_set x.published o k) j) q ∙ (get_or-set_same x.published o k 0 lt ∙ (sym tells.here ∙ ap (λ j. count new.flushed j) (sym same))))
      (λ ne.
      let apart : r ≢ o = (λ q. ne (writes_same (sym there ∙ (ap (λ j. At p j) q ∙ here.0)))) in
      get_or-set_other x.published o r k 0 apart ∙ (agrees r d h inner ∙ sym (tells.others d ne (written_inside t wired p r d there) (writer_is t wired p r d there))))

  -- how many are flushed is a number of 48 bits
  pub flushed_few : (x : Tasked) (p o c : ℕ) → IsTaskOf t p x → written_by (network_of t) (At p o) ≡ Some c → IsJob x.work → AreCounts x.work.cell →
      x.work.cell.events < 2 ^ 48 → (end_at x.work.ends o).flushed < 2 ^ 48
  flushed_few x p o c is e job counts few =
      let here = written_so (network_of t) (At p o) c e in
      let h : handed_to_task x.work o ≡ Writes c = handed_is x.work p o is.0 is.1 ∙ here.0 in
      let inner = inner_is x.work c is.0 ∙ here.1 in
      let a = job.served.behind o in
      let b = job.at.writes o c h inner in
      let d = counts.sent_few o c h in
      omega (arith, a, b, d, few)

-- ---- one after the other

pub sees_still : (a b c : ℕ) → SeesMore a b → SeesMore b c → SeesMore a c
sees_still a b c (inl e) (inl f) = inl (f ∙ e)
sees_still a b c (inr e) (inl f) = inr (f ∙ e)
sees_still a b c (inl e) (inr f) = inr f
sees_still a b c (inr e) (inr f) = inr f

-- what was published stays so where the numbers stay
carried : (x y : Tasked) (r : ℕ) → y.work ≡ x.work → count y.published r ≡ count x.published r → IsPublished x r → IsPublished y r
carried x y r same e h c f inner =
    e ∙ (h c (subst (λ (w : Work). handed_to_task w r ≡ Writes c) same f) (subst (λ (w : Work). is_output (role_at (network_of w.cell.network) c) ≡ false) same inner)
    ∙ ap (λ (w : Work). (end_at w.ends r).flushed) (sym same))

-- one parameter more
pub published_more : (x y : Tasked) (k : ℕ) → y.work ≡ x.work → ((r : ℕ) → r ≢ k → count y.published r ≡ count x.published r) →
    ((r : ℕ) → r < k → IsPublished x r) → IsPublished y k → (r : ℕ) → r < k + 1 → IsPublished y r
published_more x y k same others all here r lt =
    dite (ℕ_discrete r k) (λ e. subst (λ j. IsPublished y j) (sym e) here) (λ ne. carried x y r same (others r ne) (all r (omega (arith, lt, ne))))
