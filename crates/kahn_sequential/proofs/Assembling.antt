-- An answer put together from cells at rest is right.
use Rattle.kahn_sequential.proofs.Common.{⊎_elim, fun_ext, arith, ◌≡◌, ◌⊎◌, inl, inr, ℕ, ◌<◌, ◌≤◌, List, [], length, map, refl, sym, ap, ◌∙◌, subst, true, Option, Some, None, slice_get, pos, sum_by, ◌+◌, ◌∷◌, zero, suc, false, true≢false, Bool, same_Some, Line, Channel, Print, Number, Dry, Cut, Got, Fault, Store, Schema, idle, Reads, Writes, Hands, instance_at, actual_at, Source, Given, Written, Nobody, Histories, Inputs, tapes_of, exec_at, out, values_at, goes_to, source, fed, input_list, iterate, IsPrefix, Stands, IsWhole, HasEnd, Ending, ending, IsQuiet, IsSettled, begins_nil, prefix_refl, settled, AllStand, View, AreKeptTokens, is_streamed, token_value, Answer, Stream, Token, Verdict, Finished, Bound, Memory, Ended, Faulted, More, AreRight, IsRight, IsOutcome, IsWaiting, IsDryOn, IsEnd, HasStream, values_of, no_view, view_at, IsFrom, IsGiven, IsOutcomeOf, stand_in, StoodBy, cases_lt, there, none-some, get_or_past, Tapes, sent_on, sent_stands, exec_on, Stays, sum_by-cons, end_events, view_events, stream_lines, AreStreams, IsConcluded, IsVerdict, HasEndIn, RunState, End, Outcome, Waits, and_more, tape_of, length-append}
use Rattle.kahn_sequential.proofs.{Lists.prefix_stands, Lists.both_stand, Lists.reads_or, Lists.nothing_more, Lists.same_writer, Events.more, Events.same_left, Events.same_sends, Events.same_outcome, Events.next_event, Benched.get_map}
use Rattle.kahn_streams.specs.Script as script
use Rattle.kahn_streams.specs.Solution as net

-- ---- the ends of a run that stopped

same_sums : (cs : List View) (xs : List End) → length xs ≡ length cs → ((p : ℕ) (x : End) → slice_get xs p ≡ Some x → x.events ≡ (view_at cs p).events) →
    sum_by end_events xs ≡ sum_by view_events cs
same_sums [] [] l h = refl
same_sums [] (x ∷ xs) l h = absurd (omega (arith, l))
same_sums (c ∷ cs) [] l h = absurd (omega (arith, l))
same_sums (c ∷ cs) (x ∷ xs) l h = omega (arith, same_sums cs xs (omega (arith, l)) (λ p. h (suc p)), sum_by-cons end_events x xs, sum_by-cons view_events c cs, h zero x refl)

module _ {state : RunState} {bound left : ℕ} {halted : Bool} {said : Verdict} {ends : List End} (done : ℕ) (g : IsConcluded state bound left halted said ends) (count : done + left ≡ bound) where
  abbrev N : Schema
  N = state.network

  abbrev I : Inputs
  I = state.input

  abbrev pub e : ℕ → ℕ
  e p = (view_at state.cells p).events

  -- ---- every instance, and what lies beyond them, is at rest

  abbrev Rests : ℕ → Type 0
  Rests p = (x : End) × HasEndIn state p x

  idle_stood : (p : ℕ) (c : View) → c ≡ no_view → instance_at N p ≡ idle → StoodBy N I state.watch p c
  idle_stood p c v i =
      record {
        tapes = λ q. [];
        does = rw (i, v) refl;
        all = rw i (fun_ext (λ q. refl));
        stand = λ q d r k w h. absurd cc;
        took = λ q. rw v refl;
        none = λ q n. refl;
        gave = λ q d r. absurd (no_write d (subst (λ j. actual_at j q ≡ Writes d) i r));
        kept = λ q d r s. absurd (no_write d (subst (λ j. actual_at j q ≡ Writes d) i r));
        bare = λ q n. rw v refl;
        printed = record { values = rw (i, v) refl; places = λ k t h. absurd (no_print k t h); own = λ k t h. absurd (no_print k t h) };
      }
    where
      no_write : (d : ℕ) → Hands (Number (pos 0)) ≡ Writes d → ⊥
      no_write d h = cc

      no_print : (k : ℕ) (t : Token) → slice_get c.printed k ≡ Some t → ⊥
      no_print k t h = let f : slice_get [] k ≡ Some t = subst (λ w. slice_get w.printed k ≡ Some t) v h in cc

  past : (p : ℕ) → slice_get ends p ≡ None → length N.instances ≤ p
  past p h = ⊎_elim (λ l. let x = there ends p l in absurd (none-some x.0 (sym h ∙ x.1))) (λ l. let n = g.last.size in omega (arith, l, n)) (cases_lt p (length ends))

  rests_by : (p : ℕ) (r : Option End) → slice_get ends p ≡ r → Rests p
  rests_by p (Some x) h = (x, (g.last.ends p x h).0)
  rests_by p None h =
      let l = past p h in
      let i : instance_at N p ≡ idle = get_or_past N.instances p idle l in
      let v : view_at state.cells p ≡ no_view = get_or_past state.cells p no_view (omega (arith, l, g.last.known)) in (
        record { outcome = Ended; events = 0 },
        record {
          stood = idle_stood p (view_at state.cells p) v i;
          count = rw v refl;
          told = rw i refl;
        },
      )

  rest : (p : ℕ) → Rests p
  rest p = rests_by p (slice_get ends p) refl

  rest_is : (p : ℕ) (x : End) → slice_get ends p ≡ Some x → (rest p).0 ≡ x
  unfolding rests_by rest
  rest_is p x h = by (slice_get ends p) refl h
    where
      by : (r : Option End) (f : slice_get ends p ≡ r) → r ≡ Some x → (rests_by p r f).0 ≡ x
      by (Some y) f k = same_Some y x k
      by None f k = absurd cc

  pub stood : (p : ℕ) → StoodBy N I state.watch p (view_at state.cells p)
  stood p = (rest p).1.stood

  -- what each cell took
  abbrev pub T : ℕ → Tapes
  T p = (stood p).tapes

  -- what was given to each line, by the input and the writers
  abbrev pub A : Histories
  A c = fed (source N c) I (λ p. sent_on N (e p) p (T p) c) c

  -- ---- what was given stands

  pub stands : (c : Line) → AllStand N I c (A c)
  stands c = by (source N c) refl
    where
      by : (src : Source) → source N c ≡ src → AllStand N I c (fed src I (λ p. sent_on N (e p) p (T p) c) c)
      by Given s = prefix_stands N I c (input_list I c) (0, rw s (prefix_refl (input_list I c)))
      by (Written p) s = λ k v h. sent_stands N I p (T p) (stood p).stand (stood p).none (e p) k c v s h
      by Nobody s = λ k v h. absurd cc

  reached : (c : Line) → (n : ℕ) × IsPrefix (A c) (iterate N I n c)
  reached c = stand_in N I c (A c) (stands c)

  -- ---- nobody took more than was given

  given_long : (c n : ℕ) (src : Source) → IsGiven N I state.cells c src n → length (fed src I (λ p. sent_on N (e p) p (T p) (Channel c)) (Channel c)) ≡ n
  given_long c n Given h = h
  given_long c n (Written w) h = (stood w).gave h.0 c h.1 ∙ h.2
  given_long c n Nobody h = absurd h

  long : (c n : ℕ) → IsGiven N I state.cells c (source N (Channel c)) n → length (A (Channel c)) ≡ n
  long c n h = given_long c n (source N (Channel c)) h

  took_within : (p q c : ℕ) → actual_at (instance_at N p) q ≡ Reads c → IsPrefix (T p q) (A (Channel c))
  took_within p q c r =
      let h = g.within p q c r in
      let x : length (T p q) ≡ (view_at state.cells p).taken q = (stood p).took q in
      let y : length (A (Channel c)) ≡ h.0 = long c h.0 h.1 in
      let z : (view_at state.cells p).taken q ≤ h.0 = h.2 in
      both_stand N I (Channel c) (T p q) (A (Channel c)) ((stood p).stand q c r) (stands (Channel c)) (omega (arith, x, y, z))

  abbrev tapes : ℕ → Tapes
  tapes p = tapes_of (instance_at N p) A

  extended : (p q : ℕ) → IsPrefix (T p q) (tapes p q)
  extended p q = ⊎_elim (λ (c, r). rw r (took_within p q c r)) (λ n. subst (λ l. IsPrefix l (tapes p q)) (sym ((stood p).none q n)) (begins_nil (tapes p q))) (reads_or (actual_at (instance_at N p) q))

  same : (p : ℕ) → ((exec_at N (e p) p A).events ≡ (exec_on N (e p) p (T p)).events) × ((exec_at N (e p) p A).sent ≡ (exec_on N (e p) p (T p)).sent)
  same p = same_sends N p (e p) (T p) (tapes p) (extended p) (stood p).does

  -- what a reader takes of the tape, and what it leaves
  pub took_of : (p q c : ℕ) → actual_at (instance_at N p) q ≡ Reads c → (view_at state.cells p).taken q + length ((exec_at N (e p) p A).left q) ≡ length (A (Channel c))
  took_of p q c r =
      let left : (exec_at N (e p) p A).left q ≡ (extended p q).0 =
      ap (λ t. t q) (same_left N p (e p) (T p) (tapes p) (extended p) (stood p).does ∙ ap (λ t. and_more t (λ k. (extended p k).0)) (stood p).all)
      in
      let tape : length (tapes p q) ≡ length (A (Channel c)) = ap (λ a. length (tape_of A a)) r in
      omega (arith, ap length left, ap length (extended p q).1 ∙ length-append (T p q) (extended p q).0, tape, (stood p).took q)

  does : (p : ℕ) → (exec_at N (e p) p A).events ≡ e p
  does p = (same p).0 ∙ (stood p).does

  sends : (c : Line) (p : ℕ) → source N c ≡ Written p → out N (e p) p A c ≡ A c
  sends c p s = ap (values_at (goes_to N p c)) (same p).1 ∙ sym (ap (λ x. fed x I (λ r. sent_on N (e r) r (T r) c) c) s)

  inputs : (c : Line) → source N c ≡ Given → A c ≡ input_list I c
  inputs c s = ap (λ x. fed x I (λ r. sent_on N (e r) r (T r) c) c) s

  -- ---- outcomes

  abbrev o : ℕ → script.ScriptOutcome Store
  o p = (exec_on N (e p) p (T p)).outcome

  -- one that is over stays so
  lasts : (y : Ending) → ((q : ℕ) → y ≡ net.Waiting q → ⊥) → (p : ℕ) (z : script.ScriptOutcome Store) → o p ≡ z → ending z ≡ Some y → ending (exec_at N (e p) p A).outcome ≡ Some y
  lasts y n p z d f = ap ending (same_outcome N p (e p) (T p) (tapes p) (extended p) z d (stays z f)) ∙ f
    where
      stays : (z : script.ScriptOutcome Store) → ending z ≡ Some y → Stays (more N p (e p) (T p) (tapes p) (extended p)) z
      stays (Got s) f = tt
      stays (Dry q) f = absurd (n q cc)
      stays (Fault k) f = tt
      stays Cut f = tt

  outcome_by : (v : Verdict) (p : ℕ) (out : Outcome) → IsOutcomeOf N I state.cells p (o p) out → IsOutcome v N A p (e p) out
  outcome_by v p Ended h = lasts net.Ended (λ q f. absurd cc) p (o p) refl h
  outcome_by v p (Faulted k) h = lasts (net.Faulted k) (λ q f. absurd cc) p (o p) refl h
  outcome_by v p (Waits c) (q, r, d, all) = waits v
    where
      -- took all: the tape has no more
      none : (extended p q).0 ≡ []
      none = nothing_more (T p q) (tapes p q) (extended p q) ((stood p).took q ∙ rw r (sym (long c ((view_at state.cells p).taken q) all)))

      dry : IsDryOn N A p (e p) c
      dry = (q, r, same_outcome N p (e p) (T p) (tapes p) (extended p) (Dry q) d none, does p)

      waits : (v : Verdict) → IsWaiting v N A p (e p) c
      waits Memory = (A, (λ d. prefix_refl (A d)), dry)
      waits Finished = dry
      waits Bound = dry
  outcome_by v p More h = next_event N p (e p) (T p) (tapes p) (extended p) (stood p).does (stood p).all (moves h)
    where
      moves : IsOutcomeOf N I state.cells p (o p) More → (o p ≡ Cut) ⊎ ((q : ℕ) × (o p ≡ Dry q) × (length (T p q) < length (tapes p q)))
      moves (inl c) = inl c
      moves (inr (q, c, n, r, d, given, less)) =
          let x : length (T p q) ≡ (view_at state.cells p).taken q = (stood p).took q in
          let y : length (A (Channel c)) ≡ n = long c n given in
          inr (q, d, rw r (omega (arith, x, y, less)))

  ends_with : (p : ℕ) (x : End) → slice_get ends p ≡ Some x → (x.events ≡ e p) × IsOutcome said N A p (e p) x.outcome
  unfolding stood
  ends_with p x h =
      subst (λ y. (y.events ≡ e p) × IsOutcome said N A p (e p) y.outcome) (rest_is p x h)
      ((rest p).1.count, outcome_by said p (rest p).0.outcome (rest p).1.told)

  pub events_of : (p : ℕ) (x : End) → slice_get ends p ≡ Some x → x.events ≡ e p
  events_of p x h = (ends_with p x h).0

  -- ---- a finished network is quiet

  abbrev pub Over : ℕ → Type 0
  Over p = (y : Ending) × (ending (exec_at N (e p) p A).outcome ≡ Some y)

  over_as : (p : ℕ) (out : Outcome) → IsOutcome Finished N A p (e p) out → (out ≡ More → ⊥) → Over p
  over_as p Ended h m = (net.Ended, h)
  over_as p (Faulted k) h m = (net.Faulted k, h)
  over_as p (Waits c) h m = (net.Waiting h.0, ap ending h.2)
  over_as p More h m = absurd (m refl)

  module _ (f : said ≡ Finished) where
    none_goes_on : (p : ℕ) (x : End) → slice_get ends p ≡ Some x → x.outcome ≡ More → ⊥
    none_goes_on = (subst (IsVerdict halted ends) f g.rule).1

    finished_outcome : (p : ℕ) (x : End) → slice_get ends p ≡ Some x → IsOutcome Finished N A p (e p) x.outcome
    finished_outcome p x h = subst (λ v. IsOutcome v N A p (e p) x.outcome) f (ends_with p x h).1

    over_at : (p : ℕ) (r : Option End) → slice_get ends p ≡ r → Over p
    over_at p (Some x) h = over_as p x.outcome (finished_outcome p x h) (none_goes_on p x h)
    over_at p None h =
        let i : instance_at N p ≡ idle = get_or_past N.instances p idle (past p h) in
        (net.Ended, rw i refl)

    pub over : (p : ℕ) → Over p
    over p = over_at p (slice_get ends p) refl

    quiet : IsQuiet N I A (λ p. (over p).0) e
    quiet = record { inputs = inputs; reached = reached; ends = λ p. (over p).1; counts = does; sends = sends }

    pub settles : IsSettled N I A (λ p. (over p).0) e
    settles = settled N I A (λ p. (over p).0) e quiet

    end_by : (p : ℕ) (y : Ending) → ending (exec_at N (e p) p A).outcome ≡ Some y → HasEnd N I p y (e p)
    end_by p y h = subst (λ z. HasEnd N I p z (e p)) (same_Some (over p).0 y (sym (over p).1 ∙ h)) (settles.1 p)

    end_as : (p : ℕ) (out : Outcome) → IsOutcome Finished N A p (e p) out → (out ≡ More → ⊥) → IsEnd N I p out (e p)
    end_as p Ended h m = end_by p net.Ended h
    end_as p (Faulted k) h m = end_by p (net.Faulted k) h
    end_as p (Waits c) h m = (h.0, h.1, end_by p (net.Waiting h.0) (ap ending h.2))
    end_as p More h m = m refl

    end_of : (p : ℕ) (x : End) → slice_get ends p ≡ Some x → IsEnd N I p x.outcome x.events
    end_of p x h = subst (IsEnd N I p x.outcome) (sym (ends_with p x h).0) (end_as p x.outcome (finished_outcome p x h) (none_goes_on p x h))

  bounded : said ≡ Bound → (done ≡ bound) × ((p : ℕ) × (x : End) × (slice_get ends p ≡ Some x) × (x.outcome ≡ More))
  bounded f =
      let (running, (p, x, at, more)) = subst (IsVerdict halted ends) f g.rule in
      (used running ((g.last.ends p x at).1 more), (p, x, at, more))
    where
      used : halted ≡ false → (left ≡ 0) ⊎ (halted ≡ true) → done ≡ bound
      used r (inl a) = omega (arith, a, count)
      used r (inr a) = absurd (true≢false (sym a ∙ r))

  total : done ≡ sum_by end_events ends
  total =
      omega (arith, g.last.total, same_sums state.cells ends (omega (arith, g.last.known, g.last.size)) (λ p x h. ((g.last.ends p x h).0).count), count)

  pub are_right : AreRight N I bound said ends done
  are_right =
      record {
        tapes = A;
        inputs = inputs;
        others = reached;
        instances = g.last.size;
        does = λ p x h. subst (λ n. (exec_at N n p A).events ≡ n) (sym (ends_with p x h).0) (does p);
        sends = λ p x h c s. subst (λ n. out N n p A c ≡ A c) (sym (ends_with p x h).0) (sends c p s);
        outcomes = λ p x h. subst (λ n. IsOutcome said N A p n x.outcome) (sym (ends_with p x h).0) (ends_with p x h).1;
        total = total;
        within = omega (arith, count);
        ended = end_of;
        bounded = bounded;
      }

  -- ---- what is known of the lines

  -- what a writer kept, and what a process printed, is the tape
  pub kept_values : (p q d : ℕ) → source N (Channel d) ≡ Written p → actual_at (instance_at N p) q ≡ Writes d → is_streamed N state.watch d ≡ true →
      map token_value ((view_at state.cells p).kept q) ≡ are_right.tapes (Channel d)
  unfolding are_right
  kept_values p q d s w streamed =
      ((stood p).kept q d w streamed).values ∙ sym (ap (λ x. fed x I (λ r. sent_on N (e r) r (T r) (Channel d)) (Channel d)) s)

  pub printed_values : (p : ℕ) → map token_value (view_at state.cells p).printed ≡ are_right.tapes (Print p)
  unfolding are_right
  printed_values p = (stood p).printed.values

  pub nobodys_values : (c : Line) → source N c ≡ Nobody → are_right.tapes c ≡ []
  unfolding are_right
  nobodys_values c s = ap (λ x. fed x I (λ r. sent_on N (e r) r (T r) c) c) s

  pub whole_tapes : said ≡ Finished → (c : Line) → IsWhole N I c (are_right.tapes c)
  unfolding are_right
  whole_tapes f c = (settles f).0 c

-- ---- an answer

module _ {state : RunState} {bound left : ℕ} {halted : Bool} (a : Answer) (g : IsConcluded state bound left halted a.verdict a.ends.items)
    (streams : AreStreams state a.streams.items (stream_lines state.network state.watch)) (count : a.events + left ≡ bound) where
  abbrev given : Histories
  given = A a.events g count

  abbrev done_by : ℕ → ℕ
  done_by = e a.events g count

  abbrev took : ℕ → Tapes
  took = T a.events g count

  stands_for : (p : ℕ) → StoodBy state.network state.input state.watch p (view_at state.cells p)
  stands_for = stood a.events g count

  -- ---- streams

  kept_by : (src : Source) (c : Line) (ts : List Token) → source state.network c ≡ src → IsFrom state.network state.input state.watch state.cells src c ts →
      AreKeptTokens state.network state.input c (fed src state.input (λ p. sent_on state.network (done_by p) p (took p) c) c) ts
  unfolding stood stands_for
  kept_by Given (Channel c) ts s h = h
  kept_by Given (Print r) ts s h = absurd h
  kept_by (Written p) (Channel c) ts s h =
      subst (AreKeptTokens state.network state.input (Channel c) (sent_on state.network (done_by p) p (took p) (Channel c))) (sym h.3) ((stands_for p).kept h.0 c h.1 h.2)
  kept_by (Written p) (Print r) ts s h =
      subst (λ d. AreKeptTokens state.network state.input (Print d) (sent_on state.network (done_by p) p (took p) (Print d)) ts) (sym (same_writer s))
      (subst (AreKeptTokens state.network state.input (Print p) (sent_on state.network (done_by p) p (took p) (Print p))) (sym h) (stands_for p).printed)
  kept_by Nobody c ts s h = absurd h

  kept : (s : Stream) → HasStream a s → AreKeptTokens state.network state.input s.line (given s.line) s.tokens.items
  kept s h = kept_by (source state.network s.line) s.line s.tokens.items refl (streams.each h.0 s h.1)

  whole : a.verdict ≡ Finished → (s : Stream) → HasStream a s → IsWhole state.network state.input s.line (values_of s)
  whole f s h = subst (IsWhole state.network state.input s.line) (sym (kept s h).values) ((settles a.events g count f).0 s.line)

  tokens : (s : Stream) (k : ℕ) (t : Token) → HasStream a s → slice_get s.tokens.items k ≡ Some t →
      (t.line ≡ s.line) × (t.place ≡ k) × Stands state.network state.input s.line k t.value
  tokens s k t h x =
      let at = (kept s h).places k t x in
      (at.0, at.1, stands a.events g count s.line k t.value (subst (λ l. slice_get l k ≡ Some t.value) (kept s h).values (get_map token_value s.tokens.items k t x)))

  pub assembled : IsRight state.network state.input bound state.watch a
  unfolding are_right
  assembled =
      record {
        run = are_right a.events g count;
        named = streams.named;
        tokens = tokens;
        own = λ s k t h x. (kept s h).own k t x;
        values = λ s h. (kept s h).values;
        whole = whole;
      }

  -- its tapes have all that was given, and where it has finished they are whole
  pub assembled_long : (c n : ℕ) → IsGiven state.network state.input state.cells c (source state.network (Channel c)) n → length (assembled.run.tapes (Channel c)) ≡ n
  unfolding are_right assembled
  assembled_long c n h = long a.events g count c n h

  pub assembled_whole : a.verdict ≡ Finished → (c : Line) → IsWhole state.network state.input c (assembled.run.tapes c)
  unfolding are_right assembled
  assembled_whole f c = whole_tapes a.events g count f c

  -- what readers take of them and leave
  pub assembled_taken : (p q c : ℕ) (x : End) → actual_at (instance_at state.network p) q ≡ Reads c → slice_get a.ends.items p ≡ Some x →
      (view_at state.cells p).taken q + length ((exec_at state.network x.events p assembled.run.tapes).left q) ≡ length (assembled.run.tapes (Channel c))
  unfolding are_right assembled
  assembled_taken p q c x r at =
      subst (λ n. (view_at state.cells p).taken q + length ((exec_at state.network n p given).left q) ≡ length (given (Channel c))) (sym (events_of a.events g count p x at))
      (took_of a.events g count p q c r)
