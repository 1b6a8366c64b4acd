-- What longer tapes and one more event bring.
use Rattle.kahn_sequential.proofs.Common.{⊎_elim, fun_ext, arith, ◌≡◌, ◌⊎◌, inl, inr, ℕ, suc, ◌+◌, List, [], ◌∷◌, ◌++◌, length, refl, sym, ap, ◌∙◌, subst, append-nil, le_refl, ◌<◌, Option, Channel, Inputs, StoodBy, View, Writes, actual_at, goes_to, sent_on, values_at, Value, Tapes, Script, Give, Fail, Sends, Turns, Rest, Got, Dry, Fault, Cut, Reached, wait_at, play, Step, empty, values_taken, since, and_then, halted, RanBy, Store, Schema, instance_at, opening, and_more, play_on, play_taken, ran, cut_is_full, script_at, exec_alike, unrolled, IsPrefix, Stays, exec_on, widened, frame_play, dry_play, ScriptOutcome, sends_of, length-append}
use Rattle.kahn_streams.specs.Script.{Waits}

-- ---- the same events and sends on longer tapes

abbrev pub SameSends : {A : Type 0} → Reached A → Reached A → Type 0
SameSends a b = (a.events ≡ b.events) × (a.sent ≡ b.sent)

module _ (N : Schema) (p e : ℕ) (T U : Tapes) (x : (q : ℕ) → IsPrefix (T q) (U q)) where
  abbrev pub more : Tapes
  more q = (x q).0

  longer : U ≡ and_more T more
  longer = fun_ext (λ q. (x q).1)

  framed : Stays more (exec_on N e p T).outcome → exec_on N e p U ≡ widened more (exec_on N e p T)
  framed k = ap (λ V. play e (script_at N e p) V) longer ∙ frame_play e (script_at N e p) T more k

  -- ended and faulted stay, and dry where the tape has no more
  pub same_outcome : (o : ScriptOutcome Store) → (exec_on N e p T).outcome ≡ o → Stays more o → (exec_on N e p U).outcome ≡ o
  same_outcome o d k = ap (λ r. r.outcome) (framed (subst (Stays more) (sym d) k)) ∙ d

  module _ (does : (exec_on N e p T).events ≡ e) where
    abbrev Same : Type 0
    Same = SameSends (exec_on N e p U) (exec_on N e p T) × ((exec_on N e p U).left ≡ and_more (exec_on N e p T).left more)

    same_by : {r : Reached Store} → exec_on N e p U ≡ r → r.events ≡ (exec_on N e p T).events → r.sent ≡ (exec_on N e p T).sent → r.left ≡ and_more (exec_on N e p T).left more → Same
    same_by s events sent left = ((ap (λ x. x.events) s ∙ events, ap (λ x. x.sent) s ∙ sent), ap (λ x. x.left) s ∙ left)

    sends_by : (o : ScriptOutcome Store) → (exec_on N e p T).outcome ≡ o → Same
    sends_by (Dry q) d = by (more q) refl
      where
        by : (zs : List Value) → more q ≡ zs → Same
        by [] f = same_by (framed (subst (Stays more) (sym d) f)) refl refl refl
        by (z ∷ zs) f =
            same_by (ap (λ V. play e (script_at N e p) V) longer ∙ dry_play e (script_at N e p) T more q (λ g. let h : z ∷ zs ≡ [] = sym f ∙ g in cc) d does) refl refl refl
    sends_by (Got a) d = same_by (framed (subst (Stays more) (sym d) tt)) refl refl refl
    sends_by (Fault k) d = same_by (framed (subst (Stays more) (sym d) tt)) refl refl refl
    sends_by Cut d = same_by (framed (subst (Stays more) (sym d) tt)) refl refl refl

    pub same_sends : SameSends (exec_on N e p U) (exec_on N e p T)
    same_sends = (sends_by (exec_on N e p T).outcome refl).0

    -- and what was behind is left
    pub same_left : (exec_on N e p U).left ≡ and_more (exec_on N e p T).left more
    same_left = (sends_by (exec_on N e p T).outcome refl).1

-- ---- one more event

no_events : {A : Type 0} (s : Script A) (U : Tapes) → (play 0 s U).events ≡ 0
no_events (Waits q go) U = by (U q)
  where
    by : (vs : List Value) → (wait_at 0 q U vs (λ m v T. play m (go v) T)).events ≡ 0
    by [] = refl
    by (v ∷ vs) = refl
no_events _ _ = refl

-- a script that isn't at an end does an event, or is cut
cut_moves : {A : Type 0} (s : Script A) (U : Tapes) → halted s ≡ Cut → ((play 1 s U).events ≡ 1) ⊎ ((play 1 s U).outcome ≡ Cut)
cut_moves (Sends p v s) U h = inl (ap suc (no_events s U))
cut_moves (Turns s) U h = inl (ap suc (no_events s U))
cut_moves Rest U h = inr refl
cut_moves s U h = absurd cc

dry_moves : {A : Type 0} (s : Script A) (U : Tapes) (q : ℕ) (v : Value) (vs : List Value) → halted s ≡ Dry q → U q ≡ v ∷ vs →
    (play 1 s U).events ≡ 1
dry_moves {A = A} (Waits r go) U q v vs h e =
    let f : U r ≡ v ∷ vs = ap U same ∙ e in
    rw f (ap suc (no_events (go v) _))
  where
    same : r ≡ q
    same = cc
dry_moves s U q v vs h e = absurd cc

-- with no event nothing is taken, and nothing sent
at_rest : {A : Type 0} (s : Script A) (U : Tapes) → ((play 0 s U).left ≡ U) × ((play 0 s U).sent ≡ [])
at_rest (Give a) U = (refl, refl)
at_rest (Fail k) U = (refl, refl)
at_rest (Waits q go) U = by (U q)
  where
    by : (vs : List Value) → ((wait_at 0 q U vs (λ m v T. play m (go v) T)).left ≡ U) × ((wait_at 0 q U vs (λ m v T. play m (go v) T)).sent ≡ [])
    by [] = (refl, refl)
    by (v ∷ vs) = (refl, refl)
at_rest (Sends p v s) U = (refl, refl)
at_rest (Turns s) U = (refl, refl)
at_rest Rest U = (refl, refl)

pub none_sent : (N : Schema) (I : Inputs) (watch : Option ℕ) (p : ℕ) (c : View) (s : StoodBy N I watch p c) → c.events ≡ 0 → (q e : ℕ) → actual_at (instance_at N p) q ≡ Writes e → c.sent q ≡ 0
none_sent N I watch p c s none q e w =
    sym (s.gave q e w) ∙ (ap (λ n. length (sent_on N n p s.tapes (Channel e))) none ∙ ap (λ l. length (values_at (goes_to N p (Channel e)) l)) (at_rest (script_at N 0 p) s.tapes).1)

-- with one event nothing is taken, or nothing is sent
takes_or_sends : {A : Type 0} (s : Script A) (U : Tapes) → ((play 1 s U).left ≡ U) ⊎ ((play 1 s U).sent ≡ [])
takes_or_sends (Give a) U = inl refl
takes_or_sends (Fail k) U = inl refl
takes_or_sends (Waits q go) U = by (U q)
  where
    by : (vs : List Value) → ((wait_at 1 q U vs (λ m v T. play m (go v) T)).left ≡ U) ⊎ ((wait_at 1 q U vs (λ m v T. play m (go v) T)).sent ≡ [])
    by [] = inl refl
    by (v ∷ vs) = inr (at_rest (go v) _).1
takes_or_sends (Sends p v s) U = inl (at_rest s U).0
takes_or_sends (Turns s) U = inl (at_rest s U).0
takes_or_sends Rest U = inl refl

and_then_suc : (steps : List Step) (n : ℕ) → and_then steps n ≡ length steps + n
and_then_suc [] n = omega arith
and_then_suc (x ∷ steps) n = let i : and_then steps n ≡ length steps + n = and_then_suc steps n in omega (arith, i)

module _ (N : Schema) (p e : ℕ) (T U : Tapes) (x : (q : ℕ) → IsPrefix (T q) (U q)) (does : (exec_on N e p T).events ≡ e)
    (all : (exec_on N e p T).left ≡ empty) where
  abbrev s : Script Store
  s = script_at N (suc e) p

  abbrev V : Tapes
  V = more N p e T U x

  ran_at : RanBy s T (play e s T)
  ran_at = ran e s T

  same_play : play e s T ≡ exec_on N e p T
  same_play = unrolled (instance_at N p).body e (suc e) (opening (instance_at N p)) T (omega arith)

  long : length ran_at.steps ≡ e
  long = sym ran_at.events ∙ (ap (λ r. r.events) same_play ∙ does)

  same_tapes : T ≡ values_taken ran_at.steps
  same_tapes =
      fun_ext (λ q.
      ran_at.tapes q ∙
      (ap (λ l. values_taken ran_at.steps q ++ l) (ap (λ r. r.left q) same_play ∙ ap (λ t. t q) all) ∙
      append-nil (values_taken ran_at.steps q)))

  one_more : exec_on N (suc e) p U ≡ since ran_at.steps (play 1 ran_at.to V)
  one_more =
      ap (play (suc e) s) (fun_ext (λ q. (x q).1) ∙ ap (λ t. and_more t V) same_tapes) ∙
      (ap (λ n. play n s (and_more (values_taken ran_at.steps) V)) count ∙ play_on ran_at.follows 1 V)
    where
      count : suc e ≡ and_then ran_at.steps 1
      count = let a = and_then_suc ran_at.steps 1 in omega (arith, a, long)

  halts : halted ran_at.to ≡ (exec_on N e p T).outcome
  halts =
      ap (λ r. r.outcome) (sym (play_taken ran_at.follows)) ∙
      (ap (λ n. (play n s (values_taken ran_at.steps)).outcome) long ∙
      (ap (λ t. (play e s t).outcome) (sym same_tapes) ∙ ap (λ r. r.outcome) same_play))

  counted : (play 1 ran_at.to V).events ≡ 1 → (exec_on N (suc e) p U).events ≡ suc e
  counted h =
      let a : (exec_on N (suc e) p U).events ≡ and_then ran_at.steps (play 1 ran_at.to V).events = ap (λ r. r.events) one_more in
      let b : and_then ran_at.steps (play 1 ran_at.to V).events ≡ length ran_at.steps + (play 1 ran_at.to V).events =
      and_then_suc ran_at.steps (play 1 ran_at.to V).events
      in
      omega (arith, a, b, h, long)

  -- one that was cut, or was dry where there is a value now, does an event more
  pub next_event : ((exec_on N e p T).outcome ≡ Cut) ⊎ ((q : ℕ) × ((exec_on N e p T).outcome ≡ Dry q) × (length (T q) < length (U q))) → (exec_on N (suc e) p U).events ≡ suc e
  next_event (inl c) = ⊎_elim (λ h. counted h) (λ h. cut_is_full (exec_alike N (suc e) (suc e) p (le_refl (suc e))) U (ap (λ r. r.outcome) one_more ∙ h)) (cut_moves ran_at.to V (halts ∙ c))
  next_event (inr (q, d, l)) = by (V q) refl
    where
      by : (zs : List Value) → V q ≡ zs → (exec_on N (suc e) p U).events ≡ suc e
      by [] f = let n = ap length (x q).1 ∙ length-append (T q) (V q) in let m = ap length f in absurd (omega (arith, l, n, m))
      by (z ∷ zs) f = counted (dry_moves ran_at.to V q z zs (halts ∙ d) f)

  -- one event more takes nothing more, or sends nothing more
  pub one_or_other : ((exec_on N (suc e) p U).left ≡ V) ⊎ ((exec_on N (suc e) p U).sent ≡ (exec_on N e p T).sent)
  one_or_other = by (takes_or_sends ran_at.to V)
    where
      by : ((play 1 ran_at.to V).left ≡ V) ⊎ ((play 1 ran_at.to V).sent ≡ []) → ((exec_on N (suc e) p U).left ≡ V) ⊎ ((exec_on N (suc e) p U).sent ≡ (exec_on N e p T).sent)
      by (inl h) = inl (ap (λ r. r.left) one_more ∙ h)
      by (inr h) =
          inr (ap (λ r. r.sent) one_more ∙ (ap (λ l. sends_of ran_at.steps ++ l) h ∙ (append-nil (sends_of ran_at.steps) ∙ (sym ran_at.sent ∙ ap (λ r. r.sent) same_play))))
