-- Each move keeps the rule of a lane.
use Rattle.kahn_lane.proofs.Common.{false, [], ◌≡◌, ◌≢◌, ◌≤◌, ℕ, ◌+◌, ◌^◌, true, true≢false, List, ◌∷◌, ◌++◌, length, set, sym, refl, ap, ◌∙◌, subst, inl, inr, length-append, arith, some, get_elem?, Pushes, Takes, Forks, Merges, Learns, Finds, FindsFew, Mark, Segment, Opening, Telling, Running, Named, told, first_place, mark, opening_mark, telling, both, owner, writing_mark, reading, spent_mark, size, Filled, Chain, HasRights, WritesLane, ReadsLane, FitsLane, IsRunning, Laned, TellsName, Flushes, Steals, Empties}
use Rattle.kahn_lane.proofs.Views.{all_one, one, pushed, took, forked, merged, come, gone}

no : false ≢ true
no p = true≢false (sym p)

module _ (A : Type 0) where
  -- the stage that the one view tells
  stage_of : (w : Mark) (views : List Mark) (port : ℕ) (v : Mark) → views ≡ w ∷ [] → get_elem? views port ≡ some v → w.stage ≡ v.stage
  stage_of w views port v is at = ap (λ (m : Mark). m.stage) (one w v port (subst (λ l. get_elem? l port ≡ some v) is at)).1

  -- it runs where a pass says so
  running : (items : List (Segment A)) (views : List Mark) (port : ℕ) (v : Mark) → Laned items views → get_elem? views port ≡ some v → v.stage ≡ Running → IsRunning items views
  running items views port v (inl o) at stage = let e : Opening ≡ Running = stage_of opening_mark views port v o.1 at ∙ stage in absurd cc
  running items views port v (inr (inl t)) at stage =
      let e : Telling ≡ Running = stage_of (telling (told t.0.tag) (first_place t.0.tag)) views port v t.3 at ∙ stage in absurd cc
  running items views port v (inr (inr r)) at stage = r

  pub opens : Laned {A = A} [] (opening_mark ∷ [])
  opens = inl (refl, refl)

  pub tells : (port : ℕ) (v : Mark) (s : Segment A) → v.stage ≡ Opening → first_place s.tag ≤ 2 ^ 48 → Pushes Laned port v (s ∷ []) (TellsName (s ∷ []))
  tells port v s stage fits items views (inl o) at =
      let w : Mark = telling (told s.tag) (first_place s.tag) in
      let first : port ≡ 0 = (one opening_mark v port (subst (λ l. get_elem? l port ≡ some v) o.1 at)).0 in
      let alone : set views port w ≡ w ∷ [] = ap (λ l. set l port w) o.1 ∙ ap (λ j. set (opening_mark ∷ []) j w) first in
      (w, inr (inl (s, ap (λ l. l ++ s ∷ []) o.0, fits, alone)), refl)
  tells port v s stage fits items views (inr (inl t)) at =
      let e : Telling ≡ Opening = stage_of (telling (told t.0.tag) (first_place t.0.tag)) views port v t.3 at ∙ stage in absurd cc
  tells port v s stage fits items views (inr (inr r)) at = let e : Opening ≡ Running = sym stage ∙ (r.fits port v at).0 in absurd cc

  none_left : (l : List (Segment A)) → length l ≤ 0 → l ≡ []
  none_left [] le = refl
  none_left (x ∷ xs) le = absurd (omega (arith, le))

  pub starts : (port : ℕ) (v : Mark) → v.stage ≡ Telling → Takes Laned port v 1 (λ (xs : List (Segment A)) w. w ≡ owner v.writes_on v.flushed)
  starts port v stage xs items views some_left few (inl o) at = let e : Opening ≡ Telling = stage_of opening_mark views port v o.1 at ∙ stage in absurd cc
  starts port v stage xs items views some_left few (inr (inl t)) at =
      let m : Mark = telling (told t.0.tag) (first_place t.0.tag) in
      let w : Mark = owner v.writes_on v.flushed in
      let here = one m v port (subst (λ l. get_elem? l port ≡ some v) t.3 at) in
      let from : first_place t.0.tag ≡ v.flushed = ap (λ (y : Mark). y.flushed) here.1 in
      let sizes : length xs + length items ≡ 1 = sym (length-append xs items) ∙ ap length t.1 in
      let none : items ≡ [] = none_left items (omega (arith, sizes, some_left)) in
      let alone : set views port w ≡ w ∷ [] = ap (λ l. set l port w) t.3 ∙ ap (λ j. set (m ∷ []) j w) here.0 in
      let F : ℕ → Mark → Type 0 =
      HasRights (λ (x : Mark). x.stage ≡ Running) (λ x. x.writes) (λ x. x.reads) (WritesLane v.writes_on v.flushed) (ReadsLane v.writes_on v.flushed v.flushed) 0 0 in
      let mine : F 0 w = (refl, (λ _. (refl, (refl, refl))), λ _. (refl, (refl, refl, omega arith))) in (
        w,
        inr (inr (record {
          writer = 0;
          reader = 0;
          name = v.writes_on;
          flushed = v.flushed;
          stolen = v.flushed;
          limited = omega (arith, t.2, from);
          chain = subst (Chain v.writes_on v.flushed v.flushed) (sym none) refl;
          fits = subst (FitsLane v.writes_on v.flushed v.flushed 0 0) (sym alone) (all_one F w mine);
        })),
        refl,
      )
  starts port v stage xs items views some_left few (inr (inr r)) at = let e : Telling ≡ Running = sym stage ∙ (r.fits port v at).0 in absurd cc

  -- the name is still in the deque
  pub starts_empty : (port : ℕ) (v : Mark) → v.stage ≡ Telling → Finds (Laned {A = A}) port v ⊥
  starts_empty port v stage views (inl o) at = let e : Opening ≡ Telling = stage_of opening_mark views port v o.1 at ∙ stage in cc
  starts_empty port v stage views (inr (inl t)) at = let e : [] ≡ t.0 ∷ [] = t.1 in cc
  starts_empty port v stage views (inr (inr r)) at = let e : Telling ≡ Running = sym stage ∙ (r.fits port v at).0 in cc

  chain_le : (name : Named) (from to : ℕ) (items : List (Segment A)) → Chain name from to items → from ≤ to
  chain_le name from to [] h = omega (arith, h)
  chain_le name from to (s ∷ ss) h = let rest = chain_le name (from + size s) to ss h.1 in omega (arith, rest)

  chain_more : (name : Named) (from to : ℕ) (items : List (Segment A)) (s : Segment A) → Chain name from to items → Filled name to s → Chain name from (to + size s) (items ++ s ∷ [])
  chain_more name from to [] s h f = (subst (λ n. Filled name n s) (sym h) f, ap (λ n. n + size s) h)
  chain_more name from to (x ∷ xs) s h f = (h.0, chain_more name (from + size x) to xs s h.1 f)

  pub flushes : (port : ℕ) (v : Mark) (s : Segment A) → v.stage ≡ Running → v.writes ≡ true → Filled v.writes_on v.flushed s → v.flushed + size s ≤ 2 ^ 48 → Pushes Laned port v (s ∷ []) (Flushes v (s ∷ []))
  flushes port v s stage may f fits items views laned at =
      let h = running items views port v laned at stage in
      let mine = h.fits port v at in
      let my = mine.1 may in
      let w : Mark = mark v.stage v.writes v.reads v.writes_on v.reads_on (v.flushed + size s) v.stolen v.known in
      let to : ℕ = h.flushed + size s in
      let same : v.flushed ≡ h.flushed = my.1.1 in
      let filled : Filled h.name h.flushed s = subst (λ n. Filled h.name n s) same (subst (λ n. Filled n v.flushed s) my.1.0 f) in
      let more : (u : Mark) → ReadsLane h.name h.flushed h.stolen u → ReadsLane h.name to h.stolen u = λ u r. (r.0, r.1, omega (arith, r.2)) in (
        w,
        inr (inr (record {
          writer = h.writer;
          reader = h.reader;
          name = h.name;
          flushed = to;
          stolen = h.stolen;
          limited = omega (arith, fits, same);
          chain = chain_more h.name h.stolen h.flushed items s h.chain filled;
          fits = pushed views port v h.fits at (WritesLane h.name to) (ReadsLane h.name to h.stolen) w may more
              (stage, (λ _. (my.0, (my.1.0, ap (λ n. n + size s) same))), λ p. ((mine.2 p).0, more v (mine.2 p).1));
        })),
        refl,
      )

  pub steals : (port : ℕ) (v : Mark) → v.stage ≡ Running → v.reads ≡ true → Takes (Laned {A = A}) port v 1 (Steals v)
  steals port v stage may [] items views some_left few laned at = absurd (omega (arith, some_left))
  steals port v stage may (s ∷ []) items views some_left few laned at =
      let h = running (s ∷ items) views port v laned at stage in
      let mine = h.fits port v at in
      let my = mine.2 may in
      let n : ℕ = v.stolen + size s in
      let w : Mark = mark v.stage v.writes v.reads v.writes_on v.reads_on v.flushed n v.known in
      let rest : Chain h.name n h.flushed items = subst (λ m. Chain h.name (m + size s) h.flushed items) (sym my.1.1) h.chain.1 in
      let below : n ≤ h.flushed = chain_le h.name n h.flushed items rest in
      let filled : Filled v.reads_on v.stolen s = subst (λ m. Filled v.reads_on m s) (sym my.1.1) (subst (λ m. Filled m h.stolen s) (sym my.1.0) h.chain.0) in
      let most : h.flushed ≤ 2 ^ 48 = h.limited in (
        w,
        inr (inr (record {
          writer = h.writer;
          reader = h.reader;
          name = h.name;
          flushed = h.flushed;
          stolen = n;
          limited = h.limited;
          chain = rest;
          fits = took views port v h.fits at (ReadsLane h.name h.flushed n) w may (stage, mine.1, λ _. (my.0, (my.1.0, refl, my.1.2)));
        })),
        (filled, omega (arith, below, most), refl),
      )
  steals port v stage may (s ∷ t ∷ r) items views some_left few laned at = absurd (omega (arith, few))

  -- the same for a pass that may flush too, which knows how many were flushed
  pub empties : (port : ℕ) (v : Mark) → v.stage ≡ Running → v.writes ≡ true → v.reads ≡ true → Takes (Laned {A = A}) port v 1 (Empties v)
  empties port v stage both_rights may [] items views some_left few laned at = absurd (omega (arith, some_left))
  empties port v stage both_rights may (s ∷ []) items views some_left few laned at =
      let h = running (s ∷ items) views port v laned at stage in
      let mine = h.fits port v at in
      let t = steals port v stage may (s ∷ []) items views some_left few laned at in
      let below = chain_le h.name (h.stolen + size s) h.flushed items h.chain.1 in
      (t.0, t.1, (t.2.0, omega (arith, below, (mine.1 both_rights).1.1, (mine.2 may).1.1), t.2.2))
  empties port v stage both_rights may (s ∷ t ∷ r) items views some_left few laned at = absurd (omega (arith, few))

  -- it finds the deque empty only where all that was flushed was taken out
  pub finds_all : (port : ℕ) (v : Mark) → v.stage ≡ Running → v.writes ≡ true → v.reads ≡ true → Finds (Laned {A = A}) port v (v.stolen ≡ v.flushed)
  finds_all port v stage a b views laned at =
      let h = running [] views port v laned at stage in
      let mine = h.fits port v at in
      let met : h.stolen ≡ h.flushed = h.chain in
      omega (arith, (mine.1 a).1.1, (mine.2 b).1.1, met)

  -- where the deque is empty, all that was flushed has been stolen
  pub finds : (port : ℕ) (v : Mark) → v.stage ≡ Running → v.reads ≡ true → FindsFew (Laned {A = A}) 0 port v (v.known ≤ v.stolen)
  finds port v stage may items views few laned at =
      let h = running items views port v laned at stage in
      let my = ((h.fits port v at).2 may).1 in
      let none : items ≡ [] = none_left items few in
      let met : h.stolen ≡ h.flushed = subst (Chain h.name h.stolen h.flushed) none h.chain in
      omega (arith, my.1, my.2, met)

  -- other passes, with the same segments
  among : {items : List (Segment A)} {views later : List Mark} (h : IsRunning items views) (reader : ℕ) → FitsLane h.name h.flushed h.stolen h.writer reader later → Laned items later
  among h reader fits =
      inr (inr (record { writer = h.writer; reader = reader; name = h.name; flushed = h.flushed; stolen = h.stolen; limited = h.limited; chain = h.chain; fits = fits }))

  pub forks : (port : ℕ) (v : Mark) → v.stage ≡ Running → v.writes ≡ true → v.reads ≡ true → Forks (Laned {A = A}) port v (writing_mark v.writes_on v.flushed) (reading v.reads_on v.stolen v.flushed)
  forks port v stage a b items views laned at =
      let h = running items views port v laned at stage in
      let mine = h.fits port v at in
      let rd = (mine.2 b).1 in
      among h _ (forked views port v h.fits at (writing_mark v.writes_on v.flushed) (reading v.reads_on v.stolen v.flushed) b (refl, (λ _. mine.1 a), no)
      (refl, no, refl, (rd.0, rd.1, omega (arith, (mine.1 a).1.1))))

  pub merges : (port : ℕ) (v : Mark) (other : ℕ) (u : Mark) → v.stage ≡ Running → v.writes ≡ true → u.reads ≡ true → Merges (Laned {A = A}) port v other u (both v.writes_on u.reads_on v.flushed u.stolen u.known) spent_mark
  merges port v other u stage a b items views laned at two there =
      let h = running items views port v laned at stage in
      among h port (merged views port v h.fits at spent_mark (refl, no, no) other u (both v.writes_on u.reads_on v.flushed u.stolen u.known) b two there
      (λ r. (refl, (λ _. (h.fits port v at).1 a), λ _. (refl, r))))

  -- a pass without rights comes
  pub forks_bare : (port : ℕ) (v : Mark) → v.stage ≡ Running → Forks (Laned {A = A}) port v v spent_mark
  forks_bare port v stage items views laned at =
      let h = running items views port v laned at stage in among h h.reader (come views port v h.fits at spent_mark (refl, no, no))

  -- a pass goes, and its rights with it
  pub merges_bare : (port : ℕ) (v : Mark) (other : ℕ) (u : Mark) → v.stage ≡ Running → Merges (Laned {A = A}) port v other u v spent_mark
  merges_bare port v other u stage items views laned at _ _ =
      let h = running items views port v laned at stage in among h h.reader (gone views port v h.fits at spent_mark (refl, no, no) other)

  -- a pass with both rights sees that no more was stolen than was flushed, of the same name
  pub behind : (port : ℕ) (v : Mark) → v.stage ≡ Running → v.writes ≡ true → v.reads ≡ true → Learns (Laned {A = A}) port v (λ _. (v.stolen ≤ v.flushed) × (v.writes_on ≡ v.reads_on))
  behind port v stage a b items views laned at =
      let h = running items views port v laned at stage in
      let mine = h.fits port v at in
      let wr = (mine.1 a).1 in
      let rd = (mine.2 b).1 in
      let le = chain_le h.name h.stolen h.flushed items h.chain in
      (omega (arith, le, wr.1, rd.1), wr.0 ∙ sym rd.0)
