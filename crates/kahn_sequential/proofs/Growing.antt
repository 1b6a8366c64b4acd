-- What a process sent by some of its events is a prefix of what it sent by more of them, also for longer inputs.
use Rattle.kahn_sequential.proofs.Common.{fun_ext, refl, Bool, false, true≢false, ◌≡◌, ◌⊎◌, inl, inr, ℕ, suc, ◌≤◌, [], map, sym, ap, subst, Option, true, List, length, arith, ◌<◌, ◌∙◌, ◌++◌, Actual, Hands, Token, begins_nil, Line, Schema, Reads, Writes, instance_at, actual_at, Channel, Print, AreInputsExtended, Inputs, IsPrefix, goes_to, values_at, inputs_grow, prefix_refl, prefix_trans, StoodBy, View, is_streamed, token_value, stand_in, Value, cases_lt, AllStand, sent_on, and_more, empty, Tapes, Begins, exec_on, play_alike, exec_alike, grows_play, script_at, values_append, length-append}
use Rattle.kahn_sequential.proofs.{Events.one_or_other, Events.same_left, Events.same_sends, Lists.reads_or, Lists.prefix_stands, Lists.both_stand}

module _ (N : Schema) (I J : Inputs) (grown : AreInputsExtended I J) (watch : Option ℕ) (p : ℕ) (c d : View) (old : StoodBy N I watch p c)
    (new : StoodBy N J watch p d) (more : c.events ≤ d.events) where
  -- of what the two took of a channel one begins the other
  joint : (q : ℕ) → (vs : List Value) × IsPrefix (old.tapes q) vs × IsPrefix (new.tapes q) vs
  joint q = by (reads_or (actual_at (instance_at N p) q))
    where
      by : ((e : ℕ) × (actual_at (instance_at N p) q ≡ Reads e)) ⊎ ((e : ℕ) → actual_at (instance_at N p) q ≡ Reads e → ⊥) →
          (vs : List Value) × IsPrefix (old.tapes q) vs × IsPrefix (new.tapes q) vs
      by (inl (e, r)) = longer (cases_lt (length (new.tapes q)) (length (old.tapes q)))
        where
          first : AllStand N J (Channel e) (old.tapes q)
          first =
              let s = stand_in N I (Channel e) (old.tapes q) (old.stand q e r) in
              prefix_stands N J (Channel e) (old.tapes q) (s.0, prefix_trans _ _ _ s.1 (inputs_grow N I J grown s.0 (Channel e)))

          longer : (length (new.tapes q) < length (old.tapes q)) ⊎ (length (old.tapes q) ≤ length (new.tapes q)) →
              (vs : List Value) × IsPrefix (old.tapes q) vs × IsPrefix (new.tapes q) vs
          longer (inl l) = (old.tapes q, prefix_refl (old.tapes q), both_stand N J (Channel e) (new.tapes q) (old.tapes q) (new.stand q e r) first (omega (arith, l)))
          longer (inr l) = (new.tapes q, both_stand N J (Channel e) (old.tapes q) (new.tapes q) first (new.stand q e r) l, prefix_refl (new.tapes q))
      by (inr n) = ([], ([], sym (ap (λ l. l ++ []) (old.none q n))), ([], sym (ap (λ l. l ++ []) (new.none q n))))

  sends_grow : (l : Line) → IsPrefix (sent_on N c.events p old.tapes l) (sent_on N d.events p new.tapes l)
  sends_grow l =
      let longer : (λ q. (joint q).0) ≡ and_more old.tapes (λ q. (joint q).1.0) = fun_ext (λ q. (joint q).1.1) in
      let b : Begins (exec_on N c.events p old.tapes).sent (exec_on N d.events p (λ q. (joint q).0)).sent =
      rw (longer, play_alike (exec_alike N c.events d.events p more) old.tapes)
      (grows_play c.events d.events (script_at N d.events p) old.tapes (λ q. (joint q).1.0) more)
      in
      let same = (same_sends N p d.events new.tapes (λ q. (joint q).0) (λ q. (joint q).2) new.does).1 in (
        values_at (goes_to N p l) b.0,
        ap (values_at (goes_to N p l)) (sym same ∙ b.1) ∙ values_append (goes_to N p l) (exec_on N c.events p old.tapes).sent b.0,
      )

  -- no fewer are sent
  pub sent_grows : (q e : ℕ) → actual_at (instance_at N p) q ≡ Writes e → c.sent q ≤ d.sent q
  sent_grows q e w =
      let g = sends_grow (Channel e) in
      omega (arith, ap length g.1 ∙ length-append (sent_on N c.events p old.tapes (Channel e)) g.0, old.gave q e w, new.gave q e w)

  abbrev joined : Tapes
  joined q = (joint q).0

  -- by one event none more is taken, or none more sent
  pub one_event : d.events ≡ suc c.events → ((q : ℕ) → d.taken q ≡ c.taken q) ⊎ ((q e : ℕ) → actual_at (instance_at N p) q ≡ Writes e → d.sent q ≡ c.sent q)
  one_event f = by (one_or_other N p c.events old.tapes joined (λ q. (joint q).1) old.does old.all)
    where
      left : (exec_on N (suc c.events) p joined).left ≡ and_more empty (λ q. (joint q).2.0)
      left =
          ap (λ n. (exec_on N n p joined).left) (sym f) ∙
          (same_left N p d.events new.tapes joined (λ q. (joint q).2) new.does ∙ ap (λ t. and_more t (λ q. (joint q).2.0)) new.all)

      sent : (exec_on N (suc c.events) p joined).sent ≡ (exec_on N d.events p new.tapes).sent
      sent = ap (λ n. (exec_on N n p joined).sent) (sym f) ∙ (same_sends N p d.events new.tapes joined (λ q. (joint q).2) new.does).1

      by : ((exec_on N (suc c.events) p joined).left ≡ (λ q. (joint q).1.0)) ⊎ ((exec_on N (suc c.events) p joined).sent ≡ (exec_on N c.events p old.tapes).sent) →
          ((q : ℕ) → d.taken q ≡ c.taken q) ⊎ ((q e : ℕ) → actual_at (instance_at N p) q ≡ Writes e → d.sent q ≡ c.sent q)
      by (inl h) =
          inl (λ q.
          let same : length (joint q).2.0 ≡ length (joint q).1.0 = ap (λ t. length (t q)) (sym left ∙ h) in
          let y = ap length (joint q).2.1 ∙ length-append (new.tapes q) (joint q).2.0 in
          omega (arith, same, ap length (joint q).1.1 ∙ length-append (old.tapes q) (joint q).1.0, y, old.took q, new.took q))
      by (inr h) =
          inr (λ q e w. sym (new.gave q e w) ∙ (ap (λ l. length (values_at (goes_to N p (Channel e)) l)) (sym sent ∙ h) ∙ old.gave q e w))

  streamed : (q e : ℕ) → actual_at (instance_at N p) q ≡ Writes e → is_streamed N watch e ≡ true → IsPrefix (map token_value (c.kept q)) (map token_value (d.kept q))
  streamed q e w s =
      subst (λ xs. IsPrefix xs (map token_value (d.kept q))) (sym (old.kept q e w s).values)
      (subst (IsPrefix (sent_on N c.events p old.tapes (Channel e))) (sym (new.kept q e w s).values) (sends_grow (Channel e)))

  bare : (q : ℕ) → ((e : ℕ) → actual_at (instance_at N p) q ≡ Writes e → is_streamed N watch e ≡ true → ⊥) → IsPrefix (map token_value (c.kept q)) (map token_value (d.kept q))
  bare q n = subst (λ (ts : List Token). IsPrefix (map token_value ts) (map token_value (d.kept q))) (sym (old.bare q n)) (begins_nil (map token_value (d.kept q)))

  pub kept_grows : (q : ℕ) → IsPrefix (map token_value (c.kept q)) (map token_value (d.kept q))
  kept_grows q = by (actual_at (instance_at N p) q) refl
    where
      by : (a : Actual) → actual_at (instance_at N p) q ≡ a → IsPrefix (map token_value (c.kept q)) (map token_value (d.kept q))
      by (Reads k) w = bare q (λ e u s. absurd (let f : Reads k ≡ Writes e = sym w ∙ u in cc))
      by (Hands v) w = bare q (λ e u s. absurd (let f : Hands v ≡ Writes e = sym w ∙ u in cc))
      by (Writes e) w = kept (is_streamed N watch e) refl
        where
          kept : (b : Bool) → is_streamed N watch e ≡ b → IsPrefix (map token_value (c.kept q)) (map token_value (d.kept q))
          kept true s = streamed q e w s
          kept false s = bare q (λ k u t. true≢false (let same : k ≡ e = cc in sym t ∙ ap (is_streamed N watch) same ∙ s))

  pub printed_grows : IsPrefix (map token_value c.printed) (map token_value d.printed)
  printed_grows =
      subst (λ xs. IsPrefix xs (map token_value d.printed)) (sym old.printed.values)
      (subst (IsPrefix (sent_on N c.events p old.tapes (Print p))) (sym new.printed.values) (sends_grow (Print p)))
