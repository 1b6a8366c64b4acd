-- Instances that wait for good: there is a solution above the iterates in which what they send stays as it is.
use Rattle.kahn_explanation.proofs.Common.{[], Bool, List, Some, ap, false, le_refl, le_trans, max, pos, refl, subst, suc, sym, true, ℕ, ◌∙◌, ◌≡◌, ◌≤◌, append-nil, Store, Schema, Source, Given, Written, Nobody, Hands, Node, Reads, actual_at, instance_at, ScriptOutcome, Dry, Reached, Tapes, play, IsExtended, AreInputsExtended, Histories, Inputs, Ending, HasEnd, IsPrefix, ending, exec_at, fed, input_list, iterate, out, source, tape_of, tapes_of, values_at, goes_to, AreStuck, AreForGood}
use mathlib.Core.Path.{fun_ext}
use Rattle.std.proofs.{Math.Nat.le-max_left, Math.Nat.le-max_right, lemmas.List.append_cancel_left}
use Rattle.kahn_streams.specs.{Syntax.Number, declared.value.Value.Value, declared.value.Line.Line, declared.value.Line.TheVariants.Channel, Laws.AreSame, Laws.IsSolution, Laws.KeepsTape}
use Rattle.kahn_streams.proofs.{Framed.Stays, Framed.widened, Framed.frame_play, Finished.more_events, Finished.inputs_grow, Finished.prefix_antisym}
use Rattle.kahn_streams.proofs.Proved.{prefix_refl, prefix_trans, Feeds, feeds, script_at, out_grows, chain, least, solves, iterates_rise, fits_all}

-- ---- lists

abbrev choose : Bool → List Value → List Value → List Value
choose true a x = a
choose false a x = x

choose_rises : (b : Bool) (a x y : List Value) → IsPrefix x y → IsPrefix (choose b a x) (choose b a y)
choose_rises true a x y h = prefix_refl a
choose_rises false a x y h = h

choose_above : (b : Bool) (a x : List Value) → IsPrefix a x → IsPrefix a (choose b a x)
choose_above true a x h = prefix_refl a
choose_above false a x h = h

-- ---- the same on longer tapes, of one instance

more_of : (i : Node) (H G : Histories) → Feeds i H G → Tapes
more_of i H G h q = (h q).0

stays_of : (i : Node) (H G : Histories) (h : Feeds i H G) (o : ScriptOutcome Store) → KeepsTape i H G o → Stays (λ q. (h q).0) o
stays_of i H G h (Dry q) k = append_cancel_left (tapes_of i H q) (h q).0 [] (sym (h q).1 ∙ k ∙ sym (append-nil (tapes_of i H q)))
stays_of i H G h o k = tt

same_reached : {X : Type 0} (U : Tapes) (a b : Reached X) → a ≡ widened U b → AreSame a b
same_reached U a b e = (ap (λ r. r.outcome) e, ap (λ r. r.events) e, ap (λ r. r.sent) e)

same_on : (N : Schema) (n p : ℕ) (H G : Histories) → Feeds (instance_at N p) H G →
    KeepsTape (instance_at N p) H G (exec_at N n p H).outcome → AreSame (exec_at N n p G) (exec_at N n p H)
same_on N n p H G h k =
    same_reached (λ q. (h q).0) (exec_at N n p G) (exec_at N n p H)
    (ap (λ T. play n (script_at N n p) T) (fun_ext (λ q. (h q).1)) ∙ frame_play n (script_at N n p) (tapes_of (instance_at N p) H) (λ q. (h q).0) (stays_of (instance_at N p) H G h (exec_at N n p H).outcome k))

-- ---- the solution

module _ (N : Schema) (I J : Inputs) (A : Histories) (e : ℕ → ℕ) (stuck : ℕ → Bool) (h : AreStuck N I A e stuck) (longer : AreInputsExtended I J) where
  abbrev is_kept : Source → Bool
  is_kept Given = false
  is_kept Nobody = false
  is_kept (Written p) = stuck p

  abbrev T : ℕ → Histories
  T m c = choose (is_kept (source N c)) (A c) (iterate N J m c)

  grows_T : (m : ℕ) (c : Line) → IsPrefix (T m c) (T (suc m) c)
  grows_T m c = choose_rises (is_kept (source N c)) (A c) _ _ (chain N J m c)

  rises_T : (n m : ℕ) → n ≤ m → IsExtended (T n) (T m)
  rises_T n m le c = choose_rises (is_kept (source N c)) (A c) _ _ (iterates_rise N J n m le c)

  reached_J : (c : Line) → (m : ℕ) × IsPrefix (A c) (iterate N J m c)
  reached_J c = ((h.reached c).0, prefix_trans _ _ _ (h.reached c).1 (inputs_grow N I J longer (h.reached c).0 c))

  below_T : (c : Line) → (j : ℕ) × IsPrefix (A c) (T j c)
  below_T c = ((reached_J c).0, choose_above (is_kept (source N c)) (A c) _ (reached_J c).1)

  kept_T : (c : Line) (p m : ℕ) → source N c ≡ Written p → stuck p ≡ true → T m c ≡ A c
  kept_T c p m s k = ap (λ x. choose (is_kept x) (A c) (iterate N J m c)) s ∙ ap (λ b. choose b (A c) (iterate N J m c)) k

  free_T : (c : Line) (p m : ℕ) → source N c ≡ Written p → stuck p ≡ false → T m c ≡ iterate N J m c
  free_T c p m s k = ap (λ x. choose (is_kept x) (A c) (iterate N J m c)) s ∙ ap (λ b. choose b (A c) (iterate N J m c)) k

  under : (b : Bool) (c : Line) (m : ℕ) → (j : ℕ) × IsPrefix (choose b (A c) (iterate N J m c)) (iterate N J j c)
  under true c m = reached_J c
  under false c m = (m, prefix_refl (iterate N J m c))

  fits_T : (p : ℕ) → (j : ℕ) × Feeds (instance_at N p) A (T j)
  fits_T p = fits_all T A grows_T below_T (Hands (Number (pos 0))) (instance_at N p).actuals

  -- where an instance that is stuck waits, its tape is as long as on A
  abbrev Ends : ℕ → Histories → Type 0
  Ends p K = (r c w : ℕ) → actual_at (instance_at N p) r ≡ Reads c → source N (Channel c) ≡ Written w → stuck w ≡ true → tapes_of (instance_at N p) K r ≡ tapes_of (instance_at N p) A r

  tape_kept : (p : ℕ) (K : Histories) → stuck p ≡ true → Ends p K → (o : ScriptOutcome Store) → (exec_at N (e p) p A).outcome ≡ o → KeepsTape (instance_at N p) A K o
  tape_kept p K s ends (Dry r) x = let w = h.waits p r s x in ends r w.0 w.1 w.2 w.3 w.4
  tape_kept p K s ends o x = tt

  -- then it does what it does on A
  same_there : (p n : ℕ) (K : Histories) → stuck p ≡ true → e p ≤ n → Feeds (instance_at N p) A K → Ends p K → AreSame (exec_at N n p K) (exec_at N (e p) p A)
  same_there p n K s le fed ends =
      let more : exec_at N n p A ≡ exec_at N (e p) p A = more_events N (e p) n p A le (h.over p s) in
      subst (λ r. AreSame (exec_at N n p K) r) more
      (same_on N n p A K fed (tape_kept p K s ends (exec_at N n p A).outcome (ap (λ r. r.outcome) (sym more))))

  same_T : (p n k : ℕ) → stuck p ≡ true → e p ≤ n → (fits_T p).0 ≤ k → AreSame (exec_at N n p (T k)) (exec_at N (e p) p A)
  same_T p n k s le at =
      same_there p n (T k) s le (λ q. prefix_trans _ _ _ ((fits_T p).1 q) (feeds (instance_at N p) (T (fits_T p).0) (T k) (rises_T (fits_T p).0 k at) q))
      (λ r c w reads src is. ap (tape_of (T k)) reads ∙ (kept_T (Channel c) w k src is ∙ sym (ap (tape_of A) reads)))

  stuck_out : (c : Line) (p n m : ℕ) → source N c ≡ Written p → stuck p ≡ true → IsPrefix (out N n p (T m) c) (A c)
  stuck_out c p n m src s =
      let k = max m (fits_T p).0 in
      let l = max n (e p) in
      let same : AreSame (exec_at N l p (T k)) (exec_at N (e p) p A) = same_T p l k s (le-max_right n (e p)) (le-max_right m (fits_T p).0) in
      subst (IsPrefix (out N n p (T m) c)) (ap (values_at (goes_to N p c)) same.2 ∙ h.sends c p s src)
      (out_grows N n l p (T m) (T k) c (le-max_left n (e p)) (feeds (instance_at N p) (T m) (T k) (rises_T m k (le-max_left m (fits_T p).0))))

  free_out : (c : Line) (p n m : ℕ) → source N c ≡ Written p → stuck p ≡ false → (j : ℕ) × IsPrefix (out N n p (T m) c) (T j c)
  free_out c p n m src s =
      let all : (j : ℕ) × Feeds (instance_at N p) (T m) (iterate N J j) = fits_all (iterate N J) (T m) (chain N J) (λ d. under (is_kept (source N d)) d m) (Hands (Number (pos 0))) (instance_at N p).actuals in (
        suc (max n all.0),
        subst (IsPrefix (out N n p (T m) c)) (sym (free_T c p (suc (max n all.0)) src s))
            (prefix_trans _ _ _ (out_grows N n n p (T m) (iterate N J all.0) c (le_refl n) all.1) (solves N J c p n all.0 src)),
      )

  closed_T : (c : Line) (p n m : ℕ) → source N c ≡ Written p → (b : Bool) → stuck p ≡ b → (j : ℕ) × IsPrefix (out N n p (T m) c) (T j c)
  closed_T c p n m src true s = (0, subst (IsPrefix (out N n p (T m) c)) (sym (kept_T c p 0 src s)) (stuck_out c p n m src s))
  closed_T c p n m src false s = free_out c p n m src s

  begins_T : (c : Line) → source N c ≡ Given → IsPrefix (input_list J c) (T 0 c)
  begins_T c g =
      subst (IsPrefix (input_list J c)) (sym (ap (λ x. choose (is_kept x) (A c) (fed x J (λ p. []) c)) g)) (prefix_refl (input_list J c))

  solution : IsSolution N J T
  solution = record { grows = grows_T; begins = begins_T; closed = λ c p n m src. closed_T c p n m src (stuck p) refl }

  -- so the iterates stay below what was sent
  held : (n : ℕ) (c : Line) (p : ℕ) → source N c ≡ Written p → stuck p ≡ true → IsPrefix (iterate N J n c) (A c)
  held n c p src s = let b = least N J T solution n c in subst (IsPrefix (iterate N J n c)) (kept_T c p b.0 src s) b.1

  fits_J : (p : ℕ) → (j : ℕ) × Feeds (instance_at N p) A (iterate N J j)
  fits_J p = fits_all (iterate N J) A (chain N J) reached_J (Hands (Number (pos 0))) (instance_at N p).actuals

  fed_J : (p n : ℕ) → (fits_J p).0 ≤ n → Feeds (instance_at N p) A (iterate N J n)
  fed_J p n le q = prefix_trans _ _ _ ((fits_J p).1 q) (feeds (instance_at N p) (iterate N J (fits_J p).0) (iterate N J n) (iterates_rise N J (fits_J p).0 n le) q)

  same_J : (p n : ℕ) → stuck p ≡ true → e p ≤ n → (fits_J p).0 ≤ n → AreSame (exec_at N n p (iterate N J n)) (exec_at N (e p) p A)
  same_J p n s le at =
      same_there p n (iterate N J n) s le (fed_J p n at)
      (λ r c w reads src is. prefix_antisym _ _ (fed_J p n at r)
      (subst (λ a. IsPrefix (tape_of (iterate N J n) a) (tape_of A a)) (sym reads) (held n (Channel c) w src is)))

  end_stays : (p : ℕ) → stuck p ≡ true → (o : Ending) → ending (exec_at N (e p) p A).outcome ≡ Some o → (exec_at N (e p) p A).events ≡ e p → HasEnd N J p o (e p)
  end_stays p s o x y = (max (fits_J p).0 (e p), from)
    where
      from : (n : ℕ) → max (fits_J p).0 (e p) ≤ n → (ending (exec_at N n p (iterate N J n)).outcome ≡ Some o) × ((exec_at N n p (iterate N J n)).events ≡ e p)
      from n le =
          let same : AreSame (exec_at N n p (iterate N J n)) (exec_at N (e p) p A) = same_J p n s (le_trans (le-max_right (fits_J p).0 (e p)) le) (le_trans (le-max_left (fits_J p).0 (e p)) le) in
          (ap ending same.0 ∙ x, same.1 ∙ y)

pub stays_so : (N : Schema) (I : Inputs) (A : Histories) (e : ℕ → ℕ) (stuck : ℕ → Bool) → AreStuck N I A e stuck → AreForGood N I A e stuck
stays_so N I A e stuck h J longer p s o x y = end_stays N I J A e stuck h longer p s o x y
