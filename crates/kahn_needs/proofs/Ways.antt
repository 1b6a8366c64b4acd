-- What the process of an instance does, step by step: on tapes whose values stand all its runs go the same way.
use Rattle.kahn_needs.proofs.Common.{eqb_refl, fun_ext, arith, ◌≡◌, ◌⊎◌, inl, inr, ℕ, zero, suc, ◌+◌, ◌≤◌, ◌<◌, ◌==◌, max, Bool, true, false, if◌then◌else◌, List, [], ◌∷◌, ◌++◌, length, refl, sym, ap, ◌∙◌, subst, le_refl, Option, Some, get_or, slice_get, length-append, le-max_left, le-max_right, cases_lt, slice_get_within, slice_get-get_or, Failure, Value, Line, Channel, Port, Tapes, Script, Give, Fail, Waits, ScriptOutcome, Got, Dry, Fault, Reached, play, Store, Schema, Actual, Reads, Writes, Hands, instance_at, actual_at, Histories, Inputs, IsPrefix, Ending, Waiting, ending, exec_at, goes_to, out, tape_of, tapes_of, values_at, Step, Took, Sent, Turned, Follows, here, took, sent, turned, values_taken, sends_of, and_then, since, RanBy, StoppedAt, and_more, counted, exec_alike, one_value, prefix_get, script_at, play_on, ran, found_in, AllStand, AreTapes, StoodBy, View, exec_on, sent_on, IsShortest, values_append}
use Rattle.kahn_streams.specs.Script.{Cut as Unended}
use Rattle.kahn_streams.proofs.Fuel.{play_alike}

-- ---- tapes whose values stand

pub get_there : (xs : List Value) (k : ℕ) (v : Value) → k < length xs → (w : Value) × (slice_get xs k ≡ Some w)
get_there xs k v h = (get_or xs k v, slice_get-get_or xs k v h)

pub both_stand : (N : Schema) (I : Inputs) (c : Line) (xs ys : List Value) → AllStand N I c xs → AllStand N I c ys → length xs ≤ length ys → IsPrefix xs ys
both_stand N I c xs ys h g le = found_in xs ys (λ k v e.
    let w = get_there ys k v (omega (arith, slice_get_within xs k v e, le)) in
    w.1 ∙ ap Some (one_value N I c k w.0 v (g k w.0 w.1) (h k v e)))

pub reads_or : (a : Actual) → ((d : ℕ) × (a ≡ Reads d)) ⊎ ((d : ℕ) → a ≡ Reads d → ⊥)
reads_or (Reads d) = inl (d, refl)
reads_or (Writes d) = inr (λ b e. absurd cc)
reads_or (Hands v) = inr (λ b e. absurd cc)

module _ (N : Schema) (I : Inputs) (p : ℕ) where
  pub shorter : (T U : Tapes) → AreTapes N I p T → AreTapes N I p U → (q : ℕ) → length (T q) ≤ length (U q) → IsPrefix (T q) (U q)
  shorter T U t u q le = by (reads_or (actual_at (instance_at N p) q))
    where
      by : ((d : ℕ) × (actual_at (instance_at N p) q ≡ Reads d)) ⊎ ((d : ℕ) → actual_at (instance_at N p) q ≡ Reads d → ⊥) → IsPrefix (T q) (U q)
      by (inl (d, e)) = both_stand N I (Channel d) (T q) (U q) (t.stand q d e) (u.stand q d e) le
      by (inr n) = subst (λ l. IsPrefix l (U q)) (sym (t.none q n)) (U q, refl)

  agree : (T U : Tapes) → AreTapes N I p T → AreTapes N I p U → (q k : ℕ) (v w : Value) → slice_get (T q) k ≡ Some v → slice_get (U q) k ≡ Some w → v ≡ w
  agree T U t u q k v w e f = by (reads_or (actual_at (instance_at N p) q))
    where
      by : ((d : ℕ) × (actual_at (instance_at N p) q ≡ Reads d)) ⊎ ((d : ℕ) → actual_at (instance_at N p) q ≡ Reads d → ⊥) → v ≡ w
      by (inl (d, r)) = one_value N I (Channel d) k v w (t.stand q d r k v e) (u.stand q d r k w f)
      by (inr n) = let g : slice_get [] k ≡ Some v = subst (λ l. slice_get l k ≡ Some v) (t.none q n) e in absurd cc

  -- what begins tapes that stand, stands
  front : (T V : Tapes) → AreTapes N I p T → ((q : ℕ) → IsPrefix (V q) (T q)) → AreTapes N I p V
  front T V t h = record {
    stand = λ q d e k v at. t.stand q d e k v (prefix_get (V q) (T q) (h q) k v at);
    none = λ q n. nothing (V q) (h q).0 (sym (t.none q n) ∙ (h q).1);
  }
    where
      nothing : (xs zs : List Value) → [] ≡ xs ++ zs → xs ≡ []
      nothing [] zs e = refl
      nothing (x ∷ xs) zs e = absurd cc

  -- those of histories that stand
  pub are_tapes : (A : Histories) → ((c : Line) → AllStand N I c (A c)) → AreTapes N I p (tapes_of (instance_at N p) A)
  are_tapes A h = record {
    stand = λ q d e. subst (λ a. AllStand N I (Channel d) (tape_of A a)) (sym e) (h (Channel d));
    none = λ q none. nothing (actual_at (instance_at N p) q) none;
  }
    where
      nothing : (a : Actual) → ((d : ℕ) → a ≡ Reads d → ⊥) → tape_of A a ≡ []
      nothing (Reads d) none = absurd (none d refl)
      nothing a none = refl

-- ---- steps

-- how many values are sent at that place
abbrev pub sends : (Port → Bool) → List Step → ℕ
sends at steps = length (values_at at (sends_of steps))

sends_both : (at : Port → Bool) (a b : List Step) → sends at (a ++ b) ≡ sends at a + sends at b
sends_both at [] b = omega arith
sends_both at (Took q v ∷ a) b = sends_both at a b
sends_both at (Sent p v ∷ a) b = by (at p) (values_at at (sends_of (a ++ b))) (values_at at (sends_of a)) (sends_both at a b)
  where
    by : (c : Bool) (xs ys : List Value) → length xs ≡ length ys + sends at b → length (if c then v ∷ xs else xs) ≡ length (if c then v ∷ ys else ys) + sends at b
    by true xs ys h = omega (arith, h)
    by false xs ys h = h
sends_both at (Turned ∷ a) b = sends_both at a b

taken_both : (a b : List Step) (r : ℕ) → length (values_taken (a ++ b) r) ≡ length (values_taken a r) + length (values_taken b r)
taken_both [] b r = omega arith
taken_both (Took q v ∷ a) b r = by (r == q) (taken_both a b r)
  where
    by : (c : Bool) → length (values_taken (a ++ b) r) ≡ length (values_taken a r) + length (values_taken b r) →
        length (if c then v ∷ values_taken (a ++ b) r else values_taken (a ++ b) r) ≡ length (if c then v ∷ values_taken a r else values_taken a r) + length (values_taken b r)
    by true h = omega (arith, h)
    by false h = h
taken_both (Sent p v ∷ a) b r = taken_both a b r
taken_both (Turned ∷ a) b r = taken_both a b r

took_one : (q : ℕ) (v : Value) (a : List Step) → values_taken (Took q v ∷ a) q ≡ v ∷ values_taken a q
took_one q v a = ap (λ b. if b then v ∷ values_taken a q else values_taken a q) (eqb_refl q)

-- ---- two ways of a script that take the same values: one goes on where the other one ends

abbrev SameTaken : List Step → List Step → Type 0
SameTaken a b = (q k : ℕ) (v w : Value) → slice_get (values_taken a q) k ≡ Some v → slice_get (values_taken b q) k ≡ Some w → v ≡ w

abbrev pub GoesOn : {A : Type 0} → Script A → Script A → List Step → List Step → Type 0
GoesOn s t a b = (more : List Step) × (b ≡ a ++ more) × Follows s more t

abbrev Meets : {A : Type 0} → Script A → Script A → List Step → List Step → Type 0
Meets s t a b = GoesOn s t a b ⊎ GoesOn t s b a

meets_more : {A : Type 0} {s t : Script A} {a b : List Step} (x : Step) → Meets s t a b → Meets s t (x ∷ a) (x ∷ b)
meets_more x (inl (m, e, f)) = inl (m, ap (λ l. x ∷ l) e, f)
meets_more x (inr (m, e, f)) = inr (m, ap (λ l. x ∷ l) e, f)

meets : {A : Type 0} {s t u : Script A} {a b : List Step} → Follows s a t → Follows s b u → SameTaken a b → Meets t u a b
meets {b = b} here g same = inl (b, refl, g)
meets (took {q = q} {v = v} {steps = a} h) here same = inr (Took q v ∷ a, refl, took h)
meets (sent {p = p} {v = v} {steps = a} h) here same = inr (Sent p v ∷ a, refl, sent h)
meets (turned {steps = a} h) here same = inr (Turned ∷ a, refl, turned h)
meets {t = t} {u = u} (took {q = q} {v = v} {go = go} {steps = a} h) (took {v = w} {steps = b} g) same =
    let e : v ≡ w = same q 0 v w (ap (λ l. slice_get l 0) (took_one q v a)) (ap (λ l. slice_get l 0) (took_one q w b)) in
    subst (λ x. Meets t u (Took q v ∷ a) (Took q x ∷ b)) e
    (meets_more (Took q v) (meets h (subst (λ x. Follows (go x) b u) (sym e) g) (λ r. tail r (r == q) refl)))
  where
    tail : (r : ℕ) (c : Bool) → (r == q) ≡ c → (k : ℕ) (x y : Value) → slice_get (values_taken a r) k ≡ Some x → slice_get (values_taken b r) k ≡ Some y → x ≡ y
    tail r true c k x y e f = same r (suc k) x y (rw c e) (rw c f)
    tail r false c k x y e f = same r k x y (rw c e) (rw c f)
meets (sent {p = p} {v = v} h) (sent g) same = meets_more (Sent p v) (meets h g same)
meets (turned h) (turned g) same = meets_more Turned (meets h g same)

-- ---- the ways of an instance

-- by the script for so many events or more
way : (N : Schema) (p m n : ℕ) (T : Tapes) → n ≤ m → RanBy (script_at N m p) T (exec_on N n p T)
way N p m n T le = subst (RanBy (script_at N m p) T) (sym (play_alike (exec_alike N n m p le) T)) (ran n (script_at N m p) T)

module _ (N : Schema) (I : Inputs) (p m : ℕ) where
  abbrev S : Script Store
  S = script_at N m p

  -- a way takes no more than there is
  took_within : {T : Tapes} {r : Reached Store} (a : RanBy S T r) (q : ℕ) → length (values_taken a.steps q) + length (r.left q) ≡ length (T q)
  took_within {r = r} a q = sym (ap length (a.tapes q) ∙ length-append (values_taken a.steps q) (r.left q))

  took_tapes : {T : Tapes} {r : Reached Store} (a : RanBy S T r) → AreTapes N I p T → AreTapes N I p (values_taken a.steps)
  took_tapes {T = T} {r = r} a t = front N I p T (values_taken a.steps) t (λ q. (r.left q, a.tapes q))

  met : {T U : Tapes} {r s : Reached Store} (a : RanBy S T r) (b : RanBy S U s) → AreTapes N I p T → AreTapes N I p U → Meets a.to b.to a.steps b.steps
  met a b t u = meets a.follows b.follows (agree N I p (values_taken a.steps) (values_taken b.steps) (took_tapes a t) (took_tapes b u))

  -- whoever has the values that it takes, and events enough, goes this way too
  module _ {steps : List Step} {to : Script Store} (follows : Follows S steps to) (taken : AreTapes N I p (values_taken steps)) (n : ℕ) (T : Tapes) (t : AreTapes N I p T)
      (has : (q : ℕ) → length (values_taken steps q) ≤ length (T q)) where
    begun : (q : ℕ) → IsPrefix (values_taken steps q) (T q)
    begun q = shorter N I p (values_taken steps) T taken t q (has q)

    there : (i : ℕ) → n ≡ and_then steps i → n ≤ m → exec_on N n p T ≡ since steps (play i to (λ q. (begun q).0))
    there i e le =
        play_alike (exec_alike N n m p le) T ∙ ap (play n S) (fun_ext (λ q. (begun q).1)) ∙
        ap (λ k. play k S (and_more (values_taken steps) (λ q. (begun q).0))) e ∙ play_on follows i (λ q. (begun q).0)

    sends_so : (c : Line) → length steps ≤ n → n ≤ m → sends (goes_to N p c) steps ≤ length (sent_on N n p T c)
    sends_so c long le =
        let i = rest steps n long in
        let more = (play i.0 to (λ q. (begun q).0)).sent in
        let both = ap length (values_append (goes_to N p c) (sends_of steps) more) in
        omega (arith, ap (λ r. length (values_at (goes_to N p c) r.sent)) (there i.0 i.1 le), both, length-append (values_at (goes_to N p c) (sends_of steps)) (values_at (goes_to N p c) more))
      where
        rest : (a : List Step) (k : ℕ) → length a ≤ k → (i : ℕ) × (k ≡ and_then a i)
        rest [] k l = (k, refl)
        rest (x ∷ a) zero l = absurd (omega (arith, l))
        rest (x ∷ a) (suc k) l = let r = rest a k (omega (arith, l)) in (r.0, ap suc r.1)

-- ---- the shortest run to more than k values of a line, beside a run on any other histories

-- the fewest events with which there are more
pub fewest : (f : ℕ → ℕ) (k n : ℕ) → k < f n → (e : ℕ) × (k < f e) × ((j : ℕ) → j < e → f j ≤ k)
fewest f k zero h = (0, h, λ j l. absurd (omega (arith, l)))
fewest f k (suc n) h = by (cases_lt k (f 0)) (fewest (λ i. f (suc i)) k n h)
  where
    before : {e : ℕ} → f 0 ≤ k → ((j : ℕ) → j < e → f (suc j) ≤ k) → (j : ℕ) → j < suc e → f j ≤ k
    before l g zero m = l
    before l g (suc j) m = g j (omega (arith, m))

    by : (k < f 0) ⊎ (f 0 ≤ k) → (e : ℕ) × (k < f (suc e)) × ((j : ℕ) → j < e → f (suc j) ≤ k) → (e : ℕ) × (k < f e) × ((j : ℕ) → j < e → f j ≤ k)
    by (inl l) r = (0, l, λ j m. absurd (omega (arith, m)))
    by (inr l) r = (suc r.0, r.1, before l r.2)

abbrev pub AllOf : Schema → Inputs → Histories → Type 0
AllOf N I A = (c : Line) → AllStand N I c (A c)

module _ (N : Schema) (I : Inputs) (p : ℕ) (c : Line) (k e : ℕ) (H : Histories) (stand : AllOf N I H) (short : IsShortest N p c k e H) where
  abbrev T : Tapes
  T = tapes_of (instance_at N p) H

  pub taken : ℕ → ℕ
  taken q = length (values_taken (way N p e e T (le_refl e)).steps q)

  pub taken_left : (q : ℕ) → length (T q) ≡ taken q + length ((exec_at N e p H).left q)
  unfolding taken
  taken_left q = sym (took_within N I p e (way N p e e T (le_refl e)) q)

  module _ (f : ℕ) (A : Histories) (all : AllOf N I A) where
    abbrev U : Tapes
    U = tapes_of (instance_at N p) A

    abbrev m : ℕ
    m = max e f

    a : RanBy (script_at N m p) T (exec_at N e p H)
    a = way N p m e T (le-max_left e f)

    a_taken : (q : ℕ) → length (values_taken a.steps q) ≡ taken q
    a_taken q = let g = took_within N I p m a q in let h = taken_left q in omega (arith, g, h)

    a_within : length a.steps ≤ e
    a_within = let g = a.events in let h = (counted N e p H).within in omega (arith, g, h)

    a_sends : sends (goes_to N p c) a.steps ≡ length (out N e p H c)
    a_sends = ap (λ l. length (values_at (goes_to N p c) l)) (sym a.sent)

    pub enough : e ≤ f → ((q : ℕ) → taken q ≤ length (U q)) → k < length (out N f p A c)
    enough le has =
        let g = sends_so N I p m a.follows (took_tapes N I p m a (are_tapes N I p H stand)) f U (are_tapes N I p A all)
        (λ q. let x = a_taken q in let y = has q in omega (arith, x, y)) c (let x = a_within in omega (arith, x, le)) (le-max_right e f) in
        omega (arith, g, a_sends, short.there)

    -- no way on H to so many is shorter
    full : {steps : List Step} {to : Script Store} → Follows (script_at N m p) steps to → AreTapes N I p (values_taken steps) → ((q : ℕ) → length (values_taken steps q) ≤ length (T q)) →
        length steps ≤ m → k < sends (goes_to N p c) steps → e ≤ length steps
    full {steps = steps} follows are has le more = by (cases_lt (length steps) e)
      where
        by : (length steps < e) ⊎ (e ≤ length steps) → e ≤ length steps
        by (inl l) =
            let h = sends_so N I p m follows are (length steps) T (are_tapes N I p H stand) has c (le_refl (length steps)) le in
            absurd (omega (arith, short.sooner (length steps) l, h, more))
        by (inr l) = l

    pub needed : k < length (out N f p A c) → (e ≤ f) × ((q : ℕ) → taken q ≤ length (U q))
    needed more = by (met N I p m a b (are_tapes N I p H stand) (are_tapes N I p A all))
      where
        b : RanBy (script_at N m p) U (exec_at N f p A)
        b = way N p m f U (le-max_right e f)

        nothing : (l : List Step) (q : ℕ) → length l ≤ 0 → length (values_taken l q) ≡ 0
        nothing [] q h = refl
        nothing (x ∷ l) q h = absurd (omega (arith, h))

        b_within : length b.steps ≤ f
        b_within = let g = b.events in let h = (counted N f p A).within in omega (arith, g, h)

        by : Meets a.to b.to a.steps b.steps → (e ≤ f) × ((q : ℕ) → taken q ≤ length (U q))
        by (inl (more', is, go)) = (
          (let g = full a.follows (took_tapes N I p m a (are_tapes N I p H stand)) (λ q. let x = took_within N I p m a q in omega (arith, x))
              (let x = a_within in omega (arith, x)) (let x = a_sends in let y = short.there in omega (arith, x, y)) in
              let x = ap length is ∙ length-append a.steps more' in let y = b_within in omega (arith, g, x, y)),
          λ q.
              omega (arith, a_taken q, ap (λ l. length (values_taken l q)) is ∙ taken_both a.steps more' q, took_within N I p m b q),
        )
        by (inr (l, is, go)) =
            let g = full b.follows (took_tapes N I p m b (are_tapes N I p A all))
            (λ q. let x = ap (λ l. length (values_taken l q)) is ∙ taken_both b.steps l q in let y = took_within N I p m a q in omega (arith, x, y))
            (let x = b_within in omega (arith, x)) (let x = ap (λ l. length (values_at (goes_to N p c) l)) b.sent in omega (arith, x, more)) in
            let z = b_within in (
              omega (arith, g, z),
              λ q.
                  let n = nothing l q (omega (arith, g, ap length is ∙ length-append b.steps l, a_within)) in
                  omega (arith, a_taken q, ap (λ l. length (values_taken l q)) is ∙ taken_both b.steps l q, took_within N I p m b q, n),
            )

-- ---- a cell, beside a run that has sent more than it

ends_there : {A : Type 0} {s t : Script A} {x : Step} {steps : List Step} → Follows s (x ∷ steps) t → (a : A) → s ≡ Give a → ⊥
ends_there (took h) a e = absurd cc
ends_there h a e = absurd cc

fails_there : {A : Type 0} {s t : Script A} {x : Step} {steps : List Step} → Follows s (x ∷ steps) t → (k : Failure) → s ≡ Fail k → ⊥
fails_there (took h) k e = absurd cc
fails_there h k e = absurd cc

takes_there : {A : Type 0} {s t : Script A} {x : Step} {steps : List Step} → Follows s (x ∷ steps) t → (q : ℕ) (go : Value → Script A) → s ≡ Waits q go → (v : Value) × (x ≡ Took q v)
takes_there (took {q = r} {v = v} h) q go e = let f : r ≡ q = cc in (v, ap (λ i. Took i v) f)
takes_there h q go e = absurd cc

module _ (N : Schema) (I : Inputs) (watch : Option ℕ) (p : ℕ) (x : View) (s : StoodBy N I watch p x) (d : Line) (j : ℕ) (few : length (sent_on N x.events p s.tapes d) ≤ j)
    (n : ℕ) (A : Histories) (all : AllOf N I A) (sent_more : j < length (out N n p A d)) where
  abbrev G : Tapes
  G = tapes_of (instance_at N p) A

  cell_are : (x : View) (s : StoodBy N I watch p x) → AreTapes N I p s.tapes
  cell_are x s = record { stand = s.stand; none = s.none }

  module _ (m : ℕ) (le : x.events ≤ m) (le' : n ≤ m) where
    c : RanBy (script_at N m p) s.tapes (exec_on N x.events p s.tapes)
    c = way N p m x.events s.tapes le

    b : RanBy (script_at N m p) G (exec_at N n p A)
    b = way N p m n G le'

    -- it goes on as that run does
    ahead : (y : Step) × (more : List Step) × (b.steps ≡ c.steps ++ y ∷ more) × Follows c.to (y ∷ more) b.to
    ahead = by (met N I p m c b (cell_are x s) (are_tapes N I p A all))
      where
        of_c : sends (goes_to N p d) c.steps ≤ j
        of_c = let e = ap (λ l. length (values_at (goes_to N p d) l)) c.sent in omega (arith, e, few)

        of_b : j < sends (goes_to N p d) b.steps
        of_b = let e = ap (λ l. length (values_at (goes_to N p d) l)) b.sent in omega (arith, e, sent_more)

        by : Meets c.to b.to c.steps b.steps → (y : Step) × (more : List Step) × (b.steps ≡ c.steps ++ y ∷ more) × Follows c.to (y ∷ more) b.to
        by (inl ([], is, go)) =
            absurd (omega (arith, ap (sends (goes_to N p d)) is ∙ sends_both (goes_to N p d) c.steps [], of_c, of_b))
        by (inl (y ∷ more, is, go)) = (y, more, is, go)
        by (inr (more, is, go)) =
            absurd (omega (arith, ap (sends (goes_to N p d)) is ∙ sends_both (goes_to N p d) b.steps more, of_c, of_b))

    longer : x.events < length b.steps
    longer =
        omega (arith, ap length ahead.2 ∙ length-append c.steps (ahead.0 ∷ ahead.1), c.events, s.does)

    b_within : length b.steps ≤ n
    b_within = let g = b.events in let h = (counted N n p A).within in omega (arith, g, h)

  abbrev M : ℕ
  M = x.events + n

  abbrev le : x.events ≤ M
  le = omega arith

  abbrev le' : n ≤ M
  le' = omega arith

  -- so it has a next event
  pub goes_further : x.events < n
  goes_further = let a = longer M le le' in let b = b_within M le le' in omega (arith, a, b)

  -- and what it waits for is there
  pub waits_there : (q : ℕ) → (exec_on N x.events p s.tapes).outcome ≡ Dry q → x.taken q < length (G q)
  waits_there q e =
      let at = subst (λ o. StoppedAt o (exec_on N x.events p s.tapes).left (c M le le').to) e (c M le le').stopped in
      let f = ahead M le le' in
      let v = takes_there f.3 q at.0.0 at.0.1 in
      let l = ap (λ l. length (l q)) s.all in
      let h = ap (λ l. length (values_taken l q)) f.2 ∙ taken_both (c M le le').steps (f.0 ∷ f.1) q in
      let y = ap (λ z. length (values_taken (z ∷ f.1) q)) v.1 ∙ ap length (took_one q v.0 f.1) in
      omega (arith, took_within N I p M (c M le le') q, l, s.took q, took_within N I p M (b M le le') q, h, y)

  -- it isn't at an end
  pub not_over : (e : Ending) → ending (exec_on N x.events p s.tapes).outcome ≡ Some e → ((q : ℕ) → e ≡ Waiting q → ⊥) → ⊥
  not_over e is none = by (exec_on N x.events p s.tapes).outcome is (c M le le').stopped
    where
      by : (o : ScriptOutcome Store) → ending o ≡ Some e → StoppedAt o (exec_on N x.events p s.tapes).left (c M le le').to → ⊥
      by (Got a) f at = ends_there (ahead M le le').3 a at
      by (Fault k) f at = fails_there (ahead M le le').3 k at
      by (Dry q) f at = let g : e ≡ Waiting q = cc in none q g
      by Unended f at = absurd cc

  -- after its next event it has taken no more than that run
  module _ (x' : View) (s' : StoodBy N I watch p x') (near : x'.events ≤ x.events + 1) where
    abbrev L : ℕ
    L = x'.events + (x.events + n)

    c' : RanBy (script_at N L p) s'.tapes (exec_on N x'.events p s'.tapes)
    c' = way N p L x'.events s'.tapes (omega arith)

    r : RanBy (script_at N L p) G (exec_at N n p A)
    r = b L (omega arith) (omega arith)

    r_longer : x.events < length r.steps
    unfolding r
    r_longer = longer L (omega arith) (omega arith)

    pub taken_there : (q : ℕ) → x'.taken q ≤ length (G q)
    taken_there q = by (met N I p L c' r (cell_are x' s') (are_tapes N I p A all))
      where
        of_both : length (values_taken c'.steps q) ≤ length (values_taken r.steps q) → x'.taken q ≤ length (G q)
        of_both h =
            omega (arith, h, took_within N I p L c' q, ap (λ l. length (l q)) s'.all, s'.took q, took_within N I p L r q)

        by : Meets c'.to r.to c'.steps r.steps → x'.taken q ≤ length (G q)
        by (inl (more, is, go)) = of_both (let e = ap (λ l. length (values_taken l q)) is ∙ taken_both c'.steps more q in omega (arith, e))
        by (inr ([], is, go)) = of_both (let e = ap (λ l. length (values_taken l q)) is ∙ taken_both r.steps [] q in omega (arith, e))
        by (inr (y ∷ more, is, go)) =
            absurd (omega (arith, ap length is ∙ length-append r.steps (y ∷ more), c'.events, s'.does, r_longer, near))
