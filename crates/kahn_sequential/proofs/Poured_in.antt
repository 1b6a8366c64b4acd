-- A flow that is given more input.
use Rattle.kahn_sequential.proofs.Common.{nat_tests, drop, arith, ◌≡◌, ℕ, zero, suc, ◌+◌, ◌≤◌, ◌==◌, Bool, true, false, if◌then◌else◌, eqb-true, eq-eqb, true≢false, List, [], ◌∷◌, ◌++◌, length, map, refl, sym, ap, ◌∙◌, subst, append-nil, append_assoc, Option, Some, None, slice_get, slice_index_or, Source, Given, Written, Nobody, network_of, role_at, Token, Value, Line, Channel, Print, Entry, channel_of, most_values, Lists, inputs_of, IsMeant, source, is_watched, stream_lines, token_value, AreQueued, IsPoured, waiting_of, Waiting, Verdict, HasPouredIn, AreLent, Plan, flow_of, let_go_by, let_go_of, HasTakenIn, IsLaid, Table}
use Rattle.kahn_sequential.proofs.{Flowed.front_of, Flowed.map_on, Flowed.poured_goes_on, Giving.input_role, Named.HasLine, Named.has_line, Once_written.input_watched}

-- ---- the longer input

-- the lists with these values behind those of a channel
abbrev pub poured_lists : ℕ → List Value → Lists → Lists
poured_lists zero values [] = values ∷ []
poured_lists zero values (l ∷ ls) = (l ++ values) ∷ ls
poured_lists (suc c) values [] = [] ∷ poured_lists c values []
poured_lists (suc c) values (l ∷ ls) = l ∷ poured_lists c values ls

here : (c : ℕ) (values : List Value) (ls : Lists) → inputs_of (poured_lists c values ls) c ≡ inputs_of ls c ++ values
here zero values [] = refl
here zero values (l ∷ ls) = refl
here (suc c) values [] = here c values []
here (suc c) values (l ∷ ls) = here c values ls

other : (c d : ℕ) (values : List Value) (ls : Lists) → (c ≡ d → ⊥) → inputs_of (poured_lists c values ls) d ≡ inputs_of ls d
other zero zero values ls n = absurd (n refl)
other zero (suc d) values [] n = refl
other zero (suc d) values (l ∷ ls) n = refl
other (suc c) zero values [] n = refl
other (suc c) zero values (l ∷ ls) n = refl
other (suc c) (suc d) values [] n = other c d values [] (λ e. n (ap suc e))
other (suc c) (suc d) values (l ∷ ls) n = other c d values ls (λ e. n (ap suc e))

pub is_poured : (c : ℕ) (values : List Value) (ls : Lists) → IsPoured ls c values (poured_lists c values ls)
is_poured c values ls d = by (c == d) refl
  where
    by : (x : Bool) → (c == d) ≡ x → inputs_of (poured_lists c values ls) d ≡ inputs_of ls d ++ (if x then values else [])
    by true f = subst (λ k. inputs_of (poured_lists c values ls) k ≡ inputs_of ls k ++ values) (eqb-true c d f) (here c values ls)
    by false f = other c d values ls (λ e. true≢false (sym (eq-eqb c d e) ∙ f)) ∙ sym (append-nil (inputs_of ls d))

-- ---- what waits

pub waits_at : (qs : List Waiting) (c : ℕ) → slice_index_or (map (λ w. w.waiting) qs) c 0 ≡ waiting_of (slice_get qs c)
waits_at (w ∷ qs) (suc c) = waits_at qs c
waits_at qs c = refl

same_waits : (xs ys : List Waiting) → length xs ≡ length ys → ((d : ℕ) → waiting_of (slice_get xs d) ≡ waiting_of (slice_get ys d)) → map (λ w. w.waiting) xs ≡ map (λ w. w.waiting) ys
same_waits [] [] n h = refl
same_waits (x ∷ xs) (y ∷ ys) n h = let a = h 0 in let r = same_waits xs ys (omega (arith, n)) (λ d. h (suc d)) in λ i. a i ∷ r i
same_waits xs ys n h = absurd (omega (arith, n))

-- ---- nothing was poured

module _ (b d : Table) (c : ℕ) (h : HasTakenIn c 0 b.input b d) where
  nothing_more : (k : ℕ) → waiting_of (slice_get d.queues.queues k) ≡ waiting_of (slice_get b.queues.queues k)
  nothing_more k = grind (arith, nat_tests, h.waiting k)

  pub refused_same : IsLaid b → IsLaid d → AreQueued b.queues → AreQueued d.queues → (plan : Plan) (said : Option Verdict) (ts us : List Token) → us ≡ ts →
      flow_of d plan said (length us) ≡ flow_of b plan said (length ts)
  refused_same laid later old new plan said ts us e =
      let size : length d.queues.queues ≡ length b.queues.queues =
      new.count ∙ ap (λ t. length (network_of t).channels) (later.network ∙ ap (λ (x : Table). x.network) h.rest ∙ sym laid.network) ∙ sym old.count in
      let waits = same_waits d.queues.queues b.queues.queues size nothing_more in
      let out = ap (λ (l : List Token). let_go_of d (length l)) e ∙ ap (λ (x : Table). let_go_of x (length ts)) h.rest in
      λ i. record {
        run = record {
          network = (h.rest i).network;
          input = (h.rest i).input;
          watch = (h.rest i).watch;
          workers = plan.workers;
          quantum = plan.quantum;
          bound = plan.bound;
          cells = h.seen i;
          verdict = said;
        };
        out = out i;
        waits = waits i;
      }

-- ---- they were poured

module _ (b d : Table) (c : ℕ) (values : List Value) (input : Lists) (poured : IsPoured b.input c values input) (h : HasTakenIn c (length values) input b d)
    (ts us : List Token) (lent : AreLent b ts) (more : List Value) (all : is_watched b.watch c ≡ true → more ≡ values) (none : is_watched b.watch c ≡ false → more ≡ [])
    (longer_by : map token_value us ≡ map token_value ts ++ more) where
  grown : is_watched b.watch c ≡ true → map token_value us ≡ map token_value ts ++ values
  grown e = longer_by ∙ ap (λ l. map token_value ts ++ l) (all e)

  same : is_watched b.watch c ≡ false → map token_value us ≡ map token_value ts
  same e = longer_by ∙ ap (λ l. map token_value ts ++ l) (none e) ∙ append-nil (map token_value ts)

  watched_as : (k : ℕ) → b.watch ≡ Some k → (x : Bool) → (k == c) ≡ x → is_watched b.watch c ≡ x
  watched_as k w x e = ap (λ o. is_watched o c) w ∙ e

  longer : (k : ℕ) → b.watch ≡ Some k → (front : List Value) → inputs_of b.input k ≡ front ++ map token_value ts → inputs_of input k ≡ front ++ map token_value us
  longer k w front e = by (k == c) refl
    where
      with_values : (x : Bool) → (c == k) ≡ x → inputs_of input k ≡ inputs_of b.input k ++ (if x then values else [])
      with_values x f = subst (λ z. inputs_of input k ≡ inputs_of b.input k ++ (if z then values else [])) f (poured k)

      apart : (k == c) ≡ false → (x : Bool) → (c == k) ≡ x → x ≡ false
      apart f true g = absurd (true≢false (sym (eq-eqb k c (sym (eqb-true c k g))) ∙ f))
      apart f false g = refl

      by : (x : Bool) → (k == c) ≡ x → inputs_of input k ≡ front ++ map token_value us
      by true f =
          with_values true (eq-eqb c k (sym (eqb-true k c f))) ∙ ap (λ l. l ++ values) e ∙ append_assoc front (map token_value ts) values
          ∙ ap (λ l. front ++ l) (sym (grown (watched_as k w true f)))
      by false f =
          with_values false (apart f (c == k) refl) ∙ append-nil (inputs_of b.input k) ∙ e
          ∙ ap (λ l. front ++ l) (sym (same (watched_as k w false f)))

  pub poured_lent : AreLent d us
  poured_lent k w role =
      let seen = sym (ap (λ (x : Table). x.watch) h.rest) ∙ w in
      let f = lent k seen (ap (λ (x : Table). role_at (network_of x.network) k) (sym h.rest) ∙ role) in
      (f.0, ap (λ (x : Table). inputs_of x.input k) h.rest ∙ longer k seen f.0 f.1)

  abbrev fed : Table
  fed = record b { input = input }

  go_same : (s : Source) (x : Line) → source (network_of b.network) x ≡ s → HasLine (network_of b.network) b.watch x → let_go_by fed (length us) s x ≡ let_go_by b (length ts) s x
  go_same Given (Channel k) f is =
      let role = input_role (network_of b.network) k f in
      let seen = input_watched (network_of b.network) b.watch k role is.1 in
      let last = lent k seen role in
      front_of (inputs_of input k) last.0 us (longer k seen last.0 last.1) ∙ sym (front_of (inputs_of b.input k) last.0 ts last.1)
  go_same (Written p) (Channel k) f is = refl
  go_same s x f is = refl

  out_same : let_go_of d (length us) ≡ let_go_of b (length ts)
  out_same =
      ap (λ (x : Table). let_go_of x (length us)) h.rest
      ∙ map_on (λ x. let_go_by fed (length us) (source (network_of b.network) x) x) (λ x. let_go_by b (length ts) (source (network_of b.network) x) x)
      (stream_lines (network_of b.network) b.watch) (λ j x e. go_same (source (network_of b.network) x) x refl (has_line (network_of b.network) b.watch j x e))

  pub poured_flow : (plan : Plan) (said : Option Verdict) (entry : Entry) → c ≡ channel_of b.network entry → values ≡ entry.1 →
      IsMeant b.network entry → waiting_of (slice_get b.queues.queues c) + length values ≤ most_values →
      HasPouredIn entry (flow_of b plan said (length ts)) (flow_of d plan None (length us))
  poured_flow plan said entry is behind meant few = record {
    meant = meant;
    lists = subst (λ k. IsPoured b.input k entry.1 d.input) is (subst (λ vs. IsPoured b.input c vs d.input) behind (subst (IsPoured b.input c values) (sym (ap (λ (x : Table). x.input) h.rest)) poured));
    few =
        omega (arith, waits_at b.queues.queues c, ap (λ k. slice_index_or (map (λ w. w.waiting) b.queues.queues) k 0) (sym is), ap length behind, few);
    rest = λ i. record {
      network = (h.rest i).network;
      input = d.input;
      watch = (h.rest i).watch;
      workers = plan.workers;
      quantum = plan.quantum;
      bound = plan.bound;
      cells = h.seen i;
      verdict = None;
    };
    out = out_same;
    goes_on = poured_goes_on b d c (length values) values input poured h plan said None;
  }
