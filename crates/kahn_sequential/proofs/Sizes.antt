-- The events of an answer and the size of the solution.
use Rattle.kahn_sequential.proofs.Common.{fun_ext, arith, ◌≡◌, ◌≢◌, ◌↔◌, ℕ, zero, suc, ◌+◌, ◌≤◌, max, List, [], ◌∷◌, ◌++◌, length, sum_by, refl, sym, subst, le_trans, le_of_suc-le-suc, suc-le-suc, not-suc-le-zero, Option, Some, slice_get, pos, ap, ◌∙◌, slice_set, le-max_left, le-max_right, sum_by-cons, Value, Line, Number, Tapes, Script, Give, Fail, Sends, Turns, Rest, Reached, wait_at, play, Schema, Node, Hands, instance_at, Histories, Inputs, tapes_of, exec_at, iterate, IsPrefix, Ending, HasEnd, HasSizes, none_left, one_more, HasSize, and_more, put_more, play_alike, prefix_trans, Feeds, feeds, script_at, exec_alike, chain, iterates_rise, fits_all, Answer, Verdict, Finished, Bound, Memory, Ended, Faulted, More, AreRight, IsRight, IsOutcome, IsEnd, end_events, IsWithinBound, Settles, AreBegun, sum_by-set, slice_get_within, get_or_from_slice_get, set_each, End, Outcome, Waits}
use Rattle.std.proofs.Common.{length-set}
use Rattle.kahn_streams.specs.Script.{Waits}
use Rattle.kahn_streams.specs.Solution as net

-- ---- on longer tapes and with more events allowed no fewer events are done

more_wait : {A : Type 0} (n m q : ℕ) (T U : Tapes) (vs : List Value) (go : ℕ → Value → Tapes → Reached A) → n ≤ m →
    ((i j : ℕ) (v : Value) (T' : Tapes) → i ≤ j → (go i v T').events ≤ (go j v (and_more T' U)).events) →
    (wait_at n q T vs go).events ≤ (wait_at m q (and_more T U) (vs ++ U q) go).events
more_wait n m q T U [] go le step = omega arith
more_wait zero m q T U (v ∷ vs) go le step = omega arith
more_wait (suc n) zero q T U (v ∷ vs) go le step = absurd (not-suc-le-zero le)
more_wait (suc n) (suc m) q T U (v ∷ vs) go le step =
    rw (put_more T U q vs) (suc-le-suc (step n m v _ (le_of_suc-le-suc le)))

more_play : {A : Type 0} (n m : ℕ) (s : Script A) (T U : Tapes) → n ≤ m → (play n s T).events ≤ (play m s (and_more T U)).events
more_play n m (Give a) T U le = omega arith
more_play n m (Fail k) T U le = omega arith
more_play n m (Waits q go) T U le =
    more_wait n m q T U (T q) (λ i v T'. play i (go v) T') le (λ i j v T' le'. more_play i j (go v) T' U le')
more_play zero m (Sends p v s) T U le = omega arith
more_play (suc n) zero (Sends p v s) T U le = absurd (not-suc-le-zero le)
more_play (suc n) (suc m) (Sends p v s) T U le = suc-le-suc (more_play n m s T U (le_of_suc-le-suc le))
more_play zero m (Turns s) T U le = omega arith
more_play (suc n) zero (Turns s) T U le = absurd (not-suc-le-zero le)
more_play (suc n) (suc m) (Turns s) T U le = suc-le-suc (more_play n m s T U (le_of_suc-le-suc le))
more_play n m Rest T U le = omega arith

more_done : (N : Schema) (n m p : ℕ) (H G : Histories) → n ≤ m → Feeds (instance_at N p) H G →
    (exec_at N n p H).events ≤ (exec_at N m p G).events
more_done N n m p H G le h =
    rw (longer, play_alike (exec_alike N n m p le) (tapes_of (instance_at N p) H))
    (more_play n m (script_at N m p) (tapes_of (instance_at N p) H) (λ q. (h q).0) le)
  where
    longer : tapes_of (instance_at N p) G ≡ and_more (tapes_of (instance_at N p) H) (λ q. (h q).0)
    longer = fun_ext (λ q. (h q).1)

-- ---- on tapes that begin the solution no instance does more events than in it

module _ (N : Schema) (I : Inputs) (A : Histories) (reached : (c : Line) → (n : ℕ) × IsPrefix (A c) (iterate N I n c)) where
  pub at_most : (p n e : ℕ) (o : Ending) → (exec_at N n p A).events ≡ n → HasEnd N I p o e → n ≤ e
  at_most p n e o does h =
      let b : (exec_at N m p (iterate N I m)).events ≡ e = (h.1 m (le-max_right (max n all.0) h.0)).1 in
      omega (arith, more_done N n m p A (iterate N I m) enough longer, does, b)
    where
      all : (j : ℕ) × Feeds (instance_at N p) A (iterate N I j)
      all = fits_all (iterate N I) A (chain N I) reached (Hands (Number (pos 0))) (instance_at N p).actuals

      m : ℕ
      m = max (max n all.0) h.0

      enough : n ≤ m
      enough = le_trans (le-max_left n all.0) (le-max_left (max n all.0) h.0)

      past : all.0 ≤ m
      past = le_trans (le-max_right n all.0) (le-max_left (max n all.0) h.0)

      longer : Feeds (instance_at N p) A (iterate N I m)
      longer q = prefix_trans _ _ _ (all.1 q) (feeds (instance_at N p) (iterate N I all.0) (iterate N I m) (iterates_rise N I all.0 m past) q)

-- ---- sums of events

module _ (N : Schema) (I : Inputs) where
  -- the instances from p on
  all_ends : (p : ℕ) (is : List Node) (xs : List End) → length xs ≡ length is →
      ((k j : ℕ) (x : End) → j ≡ p + k → slice_get xs k ≡ Some x → (o : Ending) × HasEnd N I j o x.events) →
      HasSizes N I p is (sum_by end_events xs)
  all_ends p [] [] l each = none_left
  all_ends p [] (x ∷ xs) l each = absurd (omega (arith, l))
  all_ends p (i ∷ is) [] l each = absurd (omega (arith, l))
  all_ends p (i ∷ is) (x ∷ xs) l each =
      rw (sum_by-cons end_events x xs)
      (one_more (each 0 p x (omega arith) refl).1
      (all_ends (suc p) is xs (omega (arith, l)) (λ k j y e g. each (suc k) j y (omega (arith, e)) g)))

  -- no end of it has fewer events
  abbrev Below : ℕ → ℕ → Type 0
  Below j n = (e : ℕ) (o : Ending) → HasEnd N I j o e → n ≤ e

  no_more : (p : ℕ) (is : List Node) (xs : List End) (total : ℕ) → length xs ≡ length is →
      ((k j : ℕ) (x : End) → j ≡ p + k → slice_get xs k ≡ Some x → Below j x.events) → HasSizes N I p is total →
      sum_by end_events xs ≤ total
  no_more p [] [] total l each h = omega arith
  no_more p [] (x ∷ xs) total l each h = absurd (omega (arith, l))
  no_more p (i ∷ is) [] total l each h = absurd (omega (arith, l))
  no_more p (i ∷ is) (x ∷ xs) _ l each (one_more {o = o} {e = e} {total = total} h rest) =
      omega (
        arith,
        sum_by-cons end_events x xs,
        each 0 p x (omega arith) refl e o h,
        no_more (suc p) is xs total (omega (arith, l)) (λ k j y e g. each (suc k) j y (omega (arith, e)) g) rest,
      )

-- ---- right ends

has_end : (N : Schema) (I : Inputs) (p e : ℕ) (o : Outcome) → IsEnd N I p o e → (y : Ending) × HasEnd N I p y e
has_end N I p e Ended h = (net.Ended, h)
has_end N I p e (Faulted k) h = (net.Faulted k, h)
has_end N I p e (Waits c) h = (net.Waiting h.0, h.2)
has_end N I p e More h = absurd h

by_number : {j k : ℕ} → j ≡ 0 + k → k ≡ j
by_number e = omega (arith, e)

module _ {N : Schema} {I : Inputs} {bound : ℕ} {said : Verdict} {ends : List End} {done : ℕ} (r : AreRight N I bound said ends done) where
  pub counted_ends : said ≡ Finished → HasSize N I done
  counted_ends f =
      rw r.total (all_ends N I 0 N.instances ends r.instances (λ k j x e g.
      let t = has_end N I k x.events x.outcome (r.ended f k x g) in
      (t.0, subst (λ b. HasEnd N I b t.0 x.events) (by_number e) t.1)))

  below : (p : ℕ) (x : End) → slice_get ends p ≡ Some x → Below N I p x.events
  below p x h e o g = at_most N I r.tapes r.others p x.events e o (r.does p x h) g

  -- an instance that has a next event in it does one more there
  stopped : said ≡ Bound → IsWithinBound N I bound → ⊥
  stopped v w =
      let b = r.bounded v in
      let p = b.1.0 in
      let x = b.1.1 in
      let next : IsOutcome said N r.tapes p x.events More = subst (IsOutcome said N r.tapes p x.events) b.1.3 (r.outcomes p x b.1.2) in
      let y : End = record { outcome = x.outcome; events = suc x.events } in
      let each = set_each (λ k z. Below N I k z.events) ends p y (λ k z n. below k z) (λ e o. at_most N I r.tapes r.others p (suc x.events) e o next) in
      omega (
        arith,
        r.total,
        b.0,
        w.2,
        sum_by-set end_events ends p y x (slice_get_within ends p x b.1.2),
        ap end_events (get_or_from_slice_get ends p x x b.1.2),
        no_more N I 0 N.instances (slice_set ends p y) w.0 (length-set ends p y ∙ r.instances) (λ k j z e g. subst (λ b. Below N I b z.events) (by_number e) (each k z g)) w.1,
      )

  settled_by : (v : Verdict) → said ≡ v → IsWithinBound N I bound → (v ≡ Memory → ⊥) → v ≡ Finished
  settled_by Finished e w m = refl
  settled_by Bound e w m = absurd (stopped e w)
  settled_by Memory e w m = absurd (m refl)

  pub settles_ends : Settles N I bound said
  settles_ends m = (λ f. (done, counted_ends f, r.within), λ w. settled_by said refl w m)

-- ---- right answers

module _ (N : Schema) (I : Inputs) (bound : ℕ) (watch : Option ℕ) (a : Answer) (r : IsRight N I bound watch a) where
  pub counted : a.verdict ≡ Finished → HasSize N I a.events
  counted = counted_ends r.run

  pub settles : Settles N I bound a.verdict
  settles = settles_ends r.run

  pub begun : AreBegun N I a
  begun s h = let o = r.run.others s.line in (o.0, subst (λ l. IsPrefix l (iterate N I o.0 s.line)) (sym (r.values s h)) o.1)

-- ---- two of them

pub verdict_is_one : (N : Schema) (I : Inputs) (bound : ℕ) (v w : Verdict) → Settles N I bound v → Settles N I bound w → v ≢ Memory → w ≢ Memory → v ≡ w
verdict_is_one N I bound v w r s m n = by v w (r m) (s n) m n
  where
    by : (v w : Verdict) → (v ≡ Finished) ↔ IsWithinBound N I bound → (w ≡ Finished) ↔ IsWithinBound N I bound → v ≢ Memory → w ≢ Memory → v ≡ w
    by Finished w h g m n = sym (g.1 (h.0 refl))
    by Bound Finished h g m n = h.1 (g.0 refl)
    by Bound Bound h g m n = refl
    by Bound Memory h g m n = absurd (n refl)
    by Memory w h g m n = absurd (m refl)
