-- What all cells did for a value, and nothing more, is what it needs.
use Rattle.kahn_needs.proofs.Common.{fun_ext, arith, ◌≡◌, ◌⊎◌, inl, inr, ℕ, zero, suc, ◌≤◌, ◌<◌, List, length, refl, sym, ap, ◌∙◌, subst, le_refl, Option, Some, None, false, slice_get, slice_index_or, length-take, cases_lt, get_or_past, slice_get_within, there, grows_play, values_append, script_at, outputs, reads, reads_listed, is_output, Lists, inputs_of, IsServed, Schema, Reads, Writes, Given, Written, Nobody, Source, actual_at, instance_at, network_of, role_at, Tapes, play, Histories, Inputs, fed, goes_to, IsPrefix, out, source, tape_of, tapes_of, values_at, Stands, empty, Program, Inner, Input, Output, Line, Channel, Value, IsFed, sent_stands, stand_in, AllStand, exec_on, sent_on, given_of, next_at, taken_of, CellView, count, NeedsCounts, AreOfDone, AreTapes, IsFoundBy, Seeking, Reaches, length-map, AreNeeds, Cut, Suffices, first_values, held_in, IsMadeIn, cut_told, of_input, HaveSeats, Seats, cell_events, events_seen, AreForced, HasCome, HasValue, HoldsIn, HoldsAt, play_zero}
use Rattle.kahn_streams.proofs.Sided.{channel_served}
use Rattle.kahn_streams.specs.declared.tree.Role.{Role}
use Rattle.std.specs.Prelude.{Err, IfOk, Ok, Result}
use Rattle.kahn_code.specs.declared.code.CodeFault.{CodeFault}
use Rattle.kahn_needs.specs.declared.needs.Found.{Found}
use Rattle.kahn_needs.specs.declared.needs.Found.TheVariants as found
use Rattle.kahn_code.proofs.Readers.{joins_within}
use Rattle.kahn_code.specs.Lines.{Waiting}
use Rattle.kahn_needs.proofs.{Ways.both_stand, Ways.reads_or, Needing.fed_stands, Needing.held_given, Needing.take_below, Needing.take_length, Searching.given_there, Searching.counted_there, Benched.events_at, Told.have_needs, Told.runs}

-- of each channel how many values were taken
abbrev pub taken_in : Seats → ℕ → ℕ
taken_in b d = count b.taken d

-- of each instance how many events were done
abbrev pub events_in : Seats → ℕ → ℕ
events_in b p = events_seen (slice_get b.cells p)

-- ---- what each instance did

-- so many events on these tapes, all of which it took
record Did (b : Seats) (p : ℕ) : Type 0 where
  e : ℕ
  tapes : Tapes
  does : (exec_on (network_of b.network) e p tapes).events ≡ e
  all : (exec_on (network_of b.network) e p tapes).left ≡ empty
  are : AreTapes (network_of b.network) (inputs_of b.input) p tapes
  same : e ≡ events_in b p
  took : (q d : ℕ) → actual_at (instance_at (network_of b.network) p) q ≡ Reads d → length (tapes q) ≡ taken_in b d
  gave : (q d : ℕ) → actual_at (instance_at (network_of b.network) p) q ≡ Writes d → is_output (role_at (network_of b.network) d) ≡ false →
      length (sent_on (network_of b.network) e p tapes (Channel d)) ≡ given_of (slice_get b.queues.queues d)

module _ (b : Seats) (laid : HaveSeats b) where
  abbrev N : Schema
  N = network_of b.network

  abbrev I : Inputs
  I = inputs_of b.input

  sent_there : (p q d : ℕ) (x : CellView) → slice_get b.cells p ≡ Some x → actual_at (instance_at N p) q ≡ Writes d → is_output (role_at N d) ≡ false →
      given_of (slice_get b.queues.queues d) ≡ count x.sent q
  sent_there p q d x at e inner =
      let s = laid.each p x at in
      let own : actual_at (instance_at (network_of x.network) x.instance) q ≡ actual_at (instance_at N p) q =
      ap (λ t. actual_at (instance_at (network_of t) x.instance) q) s.network ∙ ap (λ i. actual_at (instance_at N i) q) s.instance in
      sym (ap (next_at b.queues.queues) e) ∙ sym (ap (λ t. next_at b.queues.queues (actual_at (instance_at (network_of t) p) q)) laid.network) ∙
      s.at.writes q d (own ∙ e) (ap (λ t. is_output (role_at (network_of t) d)) s.network ∙ inner)

  no_cell : (p : ℕ) → slice_get b.cells p ≡ None → p < length N.instances → ⊥
  no_cell p none l =
      let g = there b.cells p (let n = laid.count in omega (arith, l, n)) in
      let f : None ≡ Some g.0 = sym none ∙ g.1 in
      cc

  did_by : (p : ℕ) (o : Option CellView) → slice_get b.cells p ≡ o → Did b p
  did_by p (Some x) at =
      let s = (laid.each p x at).stood in
      record {
        e = x.events;
        tapes = s.tapes;
        does = s.does;
        all = s.all;
        are = record { stand = s.stand; none = s.none };
        same = sym (ap events_seen at);
        took = λ q d r. s.took q ∙ sym (counted_there b laid p q d x at r);
        gave = λ q d w inner. s.gave q d w ∙ sym (sent_there p q d x at w inner);
      }
  did_by p None at = record {
    e = 0;
    tapes = empty;
    does = ap (λ r. r.events) (play_zero (script_at N 0 p));
    all = ap (λ r. r.left) (play_zero (script_at N 0 p));
    are = record { stand = λ q d r k v h. absurd cc; none = λ q n. refl };
    same = sym (ap events_seen at);
    took = λ q d r. absurd (no_cell p at (joins_within N p q d (rw r refl)));
    gave = λ q d w inner. absurd (no_cell p at (joins_within N p q d (rw w refl)));
  }

  did : (p : ℕ) → Did b p
  did p = did_by p (slice_get b.cells p) refl

  module _ (values events : List ℕ) (of_values : values ≡ b.taken) (of_events : events ≡ b.done) where
    abbrev x : Cut
    x = cut_told N values events

    value_is : (d : ℕ) → slice_index_or values d 0 ≡ taken_in b d
    value_is d = ap (λ l. slice_index_or l d 0) of_values

    event_is : (p : ℕ) → x.events p ≡ events_in b p
    event_is p = ap (λ l. slice_index_or l p 0) (of_events ∙ laid.done) ∙ events_at b.cells p

    -- of what is read the queue says the same
    queue_is : (p q d : ℕ) → actual_at (instance_at N p) q ≡ Reads d → taken_in b d ≡ taken_of (slice_get b.queues.queues d)
    queue_is p q d r = laid.tally.read p q d (ap (λ t. actual_at (instance_at (network_of t) p) q) laid.network ∙ r)

    given_is : (d : ℕ) → source N (Channel d) ≡ Given → x.values d ≡ taken_in b d
    given_is d s = ap (λ o. of_input o (slice_index_or values d 0)) s ∙ value_is d

    -- a number for each channel and instance, and what it is
    pub are_counts : NeedsCounts N I values events
    are_counts = record {
      channels = ap length of_values ∙ laid.tally.size ∙ ap (λ t. length (network_of t).channels) laid.network;
      instances = ap length (of_events ∙ laid.done) ∙ length-map b.cells cell_events ∙ laid.count;
      read = λ p q d r. (
        (did p).tapes,
        subst (λ n. Reaches N I p n (did p).tapes) ((did p).same ∙ sym (event_is p)) (record { tapes = (did p).are; does = (did p).does; all = (did p).all }),
        (did p).took q d r ∙ sym (value_is d),
      );
      unread = λ d none. value_is d ∙ laid.tally.unread d (λ p q r. none p q (ap (λ t. actual_at (instance_at (network_of t) p) q) (sym laid.network) ∙ r));
    }

    -- ---- the histories that it made

    abbrev A : Histories
    A c = fed (source N c) (first_values x.values I) (λ p. sent_on N (did p).e p (did p).tapes c) c

    stands : (c : Line) → AllStand N I c (A c)
    stands c = fed_stands N (first_values x.values I) I c (λ p. sent_on N (did p).e p (did p).tapes c) (λ d. take_below (x.values d) (I d))
        (λ p s k v h. sent_stands N I p (did p).tapes (did p).are.stand (did p).are.none (did p).e k c v s h) (source N c) refl

    A_is : (c : Line) (src : Source) → source N c ≡ src → A c ≡ fed src (first_values x.values I) (λ p. sent_on N (did p).e p (did p).tapes c) c
    A_is c src s = ap (λ o. fed o (first_values x.values I) (λ p. sent_on N (did p).e p (did p).tapes c) c) s

    long : (p q d : ℕ) → actual_at (instance_at N p) q ≡ Reads d → taken_in b d ≤ length (A (Channel d))
    long p q d r = by (reads b.network laid.wired p q d r)
      where
        w : (w : Waiting) × (slice_get b.queues.queues d ≡ Some w)
        w =
            let l = reads_listed b.network laid.wired p q d r in
            there b.queues.queues d (let n = laid.tally.queued.count ∙ ap (λ t. length (network_of t).channels) laid.network in omega (arith, l, n))

        by : IsFed N d → taken_in b d ≤ length (A (Channel d))
        by (inl (s, role)) =
            omega (arith, ap length (A_is (Channel d) Given s), length-take (x.values d) (I d), given_is d s, given_there b laid d w.0 w.1 role, queue_is p q d r ∙ ap taken_of w.1)
        by (inr (o, r', s, wr, role)) =
            omega (arith, ap length (A_is (Channel d) (Written o) s), (did o).gave r' d wr (ap is_output role), queue_is p q d r ∙ ap taken_of w.1, ap given_of w.1)

    begins : (p q : ℕ) → IsPrefix ((did p).tapes q) (tapes_of (instance_at N p) A q)
    begins p q = by (reads_or (actual_at (instance_at N p) q))
      where
        by : ((d : ℕ) × (actual_at (instance_at N p) q ≡ Reads d)) ⊎ ((d : ℕ) → actual_at (instance_at N p) q ≡ Reads d → ⊥) → IsPrefix ((did p).tapes q) (tapes_of (instance_at N p) A q)
        by (inl (d, r)) =
            subst (λ a. IsPrefix ((did p).tapes q) (tape_of A a)) (sym r)
            (both_stand N I (Channel d) ((did p).tapes q) (A (Channel d)) ((did p).are.stand q d r) (stands (Channel d)) (omega (arith, (did p).took q d r, long p q d r)))
        by (inr n) = subst (λ l. IsPrefix l (tapes_of (instance_at N p) A q)) (sym ((did p).are.none q n)) (_, refl)

    -- on them it sends at least what it sent on its tapes
    sends : (p : ℕ) (c : Line) → IsPrefix (sent_on N (did p).e p (did p).tapes c) (out N (did p).e p A c)
    sends p c =
        let T = (did p).tapes in
        let more = grows_play (did p).e (did p).e (script_at N (did p).e p) T (λ q. (begins p q).0) (le_refl (did p).e) in
        let there = ap (λ U. values_at (goes_to N p c) (play (did p).e (script_at N (did p).e p) U).sent) (fun_ext (λ q. (begins p q).1)) in
        (values_at (goes_to N p c) more.0, there ∙ (ap (values_at (goes_to N p c)) more.1 ∙ values_append (goes_to N p c) (exec_on N (did p).e p T).sent more.0))

    made : IsMadeIn N I x A
    made = record {
      below = λ c. stand_in N I c (A c) (stands c);
      given = λ d s. subst (λ l. length l ≤ x.values d) (sym (A_is (Channel d) Given s)) (take_length (x.values d) (I d));
      written = λ c p s. subst (λ n. IsPrefix (A c) (out N n p A c)) ((did p).same ∙ sym (event_is p)) (subst (λ l. IsPrefix l (out N (did p).e p A c)) (sym (A_is c (Written p) s)) (sends p c));
    }

    -- ---- it is enough, and the least

    module _ (c : Line) (k : ℕ) (v : Value) (come : HasCome b c k) (value : HasValue b c k v) (forced : AreForced b c k) where
      writer_there : (p : ℕ) → source N c ≡ Written p → (y : CellView) × (slice_get b.cells p ≡ Some y) → slice_get (A c) k ≡ Some v
      unfolding did_by did
      writer_there p s (y, at) = subst (λ l. slice_get l k ≡ Some v) (sym (A_is c (Written p) s)) (by (slice_get b.cells p) refl)
        where
          by : (o : Option CellView) (f : slice_get b.cells p ≡ o) → slice_get (sent_on N (did_by p o f).e p (did_by p o f).tapes c) k ≡ Some v
          by (Some z) f = value p s z f (laid.each p z f).stood
          by None f = let g : None ≡ Some y = sym f ∙ at in absurd cc

      enough : (y : CellView) → slice_get b.cells come.0 ≡ Some y → Suffices N I c k v x
      enough y at = (runs N I x A made c k v (writer_there come.0 come.1 (y, at))).suffices

      read_of : (d : ℕ) → source N (Channel d) ≡ Given → d < length N.channels → (p : ℕ) × (q : ℕ) × (actual_at (instance_at N p) q ≡ Reads d) × (p < length N.instances)
      read_of d s l = by (role_at N d) refl (channel_served b.network laid.wired d l)
        where
          by : (role : Role) → role_at N d ≡ role → IsServed N d (role_at N d) → (p : ℕ) × (q : ℕ) × (actual_at (instance_at N p) q ≡ Reads d) × (p < length N.instances)
          by Input e served = let o = (subst (IsServed N d) e served).1 in (o.0.instance, o.0.parameter, o.1.0.1, o.1.0.0.0)
          by Inner e served = let o = (subst (IsServed N d) e served).1 in (o.0.instance, o.0.parameter, o.1.0.1, o.1.0.0.0)
          by Output e served = let w = outputs b.network laid.wired d e l in let f : Given ≡ Written w.0 = sym s ∙ w.2 in absurd cc

      within_values : (y : Cut) → HoldsAt N I y c k → (d : ℕ) → x.values d ≤ y.values d
      within_values y h d = by (source N (Channel d)) refl
        where
          fewer : (t : ℕ) → taken_in b d ≡ t → source N (Channel d) ≡ Given → t ≤ y.values d
          fewer zero e s = omega arith
          fewer (suc j) e s = by' (cases_lt d (length N.channels))
            where
              by' : (d < length N.channels) ⊎ (length N.channels ≤ d) → suc j ≤ y.values d
              by' (inl l) =
                  let r = read_of d s l in
                  let z = there b.cells r.0 (let n = laid.count in let m = r.3 in omega (arith, n, m)) in
                  let held = (forced y h r.0 z.0 z.1).1 r.1 d j r.2 (omega (arith, counted_there b laid r.0 r.1 d z.0 z.1 r.2, e)) in
                  omega (arith, ap length (held_given N I y held.0 (Channel d) s), take_length (y.values d) (I d), held.1)
              by' (inr l) =
                  let z = get_or_past b.taken d 0 (let n = laid.tally.size ∙ ap (λ t. length (network_of t).channels) laid.network in omega (arith, l, n)) in
                  absurd (omega (arith, z, e))

          by : (src : Source) → source N (Channel d) ≡ src → x.values d ≤ y.values d
          by Given s = let e = given_is d s in let f = fewer (taken_in b d) refl s in omega (arith, e, f)
          by (Written p) s = subst (λ o. of_input o (slice_index_or values d 0) ≤ y.values d) (sym s) (omega arith)
          by Nobody s = subst (λ o. of_input o (slice_index_or values d 0) ≤ y.values d) (sym s) (omega arith)

      within_events : (y : Cut) → HoldsAt N I y c k → (p : ℕ) → x.events p ≤ y.events p
      within_events y h p = by (slice_get b.cells p) refl
        where
          by : (o : Option CellView) → slice_get b.cells p ≡ o → x.events p ≤ y.events p
          by (Some z) at = let e = event_is p ∙ ap events_seen at in let f = (forced y h p z at).0 in omega (arith, e, f)
          by None at = let e = event_is p ∙ ap events_seen at in omega (arith, e)

      pub are_needs : AreNeeds N I c k v x
      are_needs =
          let y = there b.cells come.0 (let n = laid.count in let m = come.2 in omega (arith, n, m)) in
          record {
            enough = enough y.0 y.1;
            least = λ z s. let h : HoldsAt N I z c k = (s.0, slice_get_within (held_in N I z s.0 c) k v s.1) in (within_values z h, within_events z h);
          }

-- needs that were found are of all events that were done
pub found_all : (s : Seeking) (r : Result Found CodeFault) → IfOk r (AreOfDone s.done) → IfOk r (IsFoundBy s)
found_all s (Ok (found.Needs x)) h = h
found_all s (Ok found.Never) h = absurd h
found_all s (Ok found.Ring) h = absurd h
found_all s (Ok found.Bound) h = absurd h
found_all s (Err f) h = tt

-- ---- where no cut has a value, none stands

pub never_stands : (b : Seats) (t : Program) (lists : Lists) → b.network ≡ t → b.input ≡ lists → (c : Line) (k : ℕ) → ((y : Cut) → HoldsIn b y c k → ⊥) →
    (v : Value) → Stands (network_of t) (inputs_of lists) c k v → ⊥
never_stands b t lists e f c k none v s =
    let N = network_of t in
    let I = inputs_of lists in
    let x = have_needs N I c k v s in
    let h : HoldsAt N I x.0 c k = (x.1.enough.0, slice_get_within (held_in N I x.0 x.1.enough.0 c) k v x.1.enough.1) in
    none x.0 (subst (λ (z : Program × Lists). HoldsAt (network_of z.0) (inputs_of z.1) x.0 c k) (λ i. (sym e i, sym f i)) h)
