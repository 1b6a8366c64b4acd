-- The plain queues of all channels, one of which changes.
use Rattle.std.proofs.Common.{slice_get, slice_set}
use Rattle.kahn_code.proofs.Common.{arith, ◌≡◌, ◌≢◌, ℕ, zero, suc, ◌+◌, ◌<◌, ◌≤◌, List, [], ◌∷◌, ◌++◌, length, refl, sym, ap, ◌∙◌, length-set, subst, Option, Some, None, IfSome, IfNone, IsSome, true, false, slice_index_or, HasMore, get_or-set_same, same_Some, slice_get_read, Program, Input, Actual, Reads, Writes, Hands, network_of, instance_at, actual_at, role_at, IsWellWired, reads_listed, writes_listed, writes, Token, Channel, IsOf, Lists, Value, inputs_of, Inner, Output, is_output, Waiting, Lines, AreFirst, AreQueued, IsFirst, IsQueue, Joins, actual_here, at_first, next_at, place_at, queue_of, taken_of, given_of, waiting_of, spare_of, Site, IsNext, Stays, StaySo, Moved, LeavesOthers}
use Rattle.kahn_streams.specs.declared.tree.Role.{Role}
use Rattle.kahn_code.proofs.Lists as First
use Rattle.kahn_code.proofs.Readers.{reads_once, writes_once}

-- ---- those of a network and an input at the start, one by one

pub one_queue : (t : Program) (lists : Lists) (queues more : List Waiting) (w : Waiting) (n : ℕ) → First.AreFirst (IsFirst t lists) queues n → more ≡ queues ++ w ∷ [] → IsFirst t lists n w →
    First.AreFirst (IsFirst t lists) more (n + 1)
one_queue t lists = First.one_first (IsFirst t lists)

pub all_queues : (t : Program) (lists : Lists) (queues : List Waiting) (n : ℕ) → First.AreFirst (IsFirst t lists) queues n → n ≡ length (network_of t).channels → AreFirst t lists queues
all_queues t lists queues n h e = record { count = h.count ∙ e; each = h.each }

pub queued : (t : Program) (lists : Lists) (i : ℕ) (queues : List Waiting) → IsWellWired t → AreFirst t lists queues →
    AreQueued (record { network = t; input = lists; instance = i; queues = queues })
queued t lists i queues wired first = record {
  wired = wired;
  count = first.count;
  each = λ c w at.
      let f = first.each c w at in
      let taken = f.taken in
      record {
        network = f.network;
        input = f.input;
        channel = f.channel;
        given = λ i. let waiting = f.waiting ∙ ap (λ r. at_first r (inputs_of lists c)) i in omega (arith, taken, waiting);
      };
}

-- nothing was taken, and nothing given but on input channels
pub first_none : (r : Role) (vs : List Value) → (r ≡ Input → ⊥) → at_first r vs ≡ 0
first_none Inner vs n = refl
first_none Input vs n = absurd (n refl)
first_none Output vs n = refl

module _ (t : Program) (lists : Lists) (queues : List Waiting) (first : AreFirst t lists queues) where
  pub taken_zero : (d : ℕ) (o : Option Waiting) → slice_get queues d ≡ o → taken_of o ≡ 0
  taken_zero d None e = refl
  taken_zero d (Some w) e = (first.each d w e).taken

  pub given_zero : (d : ℕ) (o : Option Waiting) → is_output (role_at (network_of t) d) ≡ false → (role_at (network_of t) d ≡ Input → ⊥) → slice_get queues d ≡ o →
      given_of o ≡ 0
  given_zero d None inner n e = refl
  given_zero d (Some w) inner n e =
      let f = first.each d w e in
      let a = f.taken in
      let b = f.waiting ∙ first_none (role_at (network_of t) d) (inputs_of lists d) n in
      omega (arith, a, b)

-- ---- one place of a list is set

pub set_here : {X : Type 0} (xs : List X) (c : ℕ) (x : X) → c < length xs → slice_get (slice_set xs c x) c ≡ Some x
set_here xs c x l = slice_get_read (slice_set xs c x) (length xs) c x (sym (length-set xs c x)) l (sym (get_or-set_same xs c x x l))

-- what holds of place d still holds, where it does of what is set
set_keeps : {X : Type 0} (P : Option X → Type 0) (xs : List X) (c d : ℕ) (x x' : X) → slice_get xs c ≡ Some x → (d ≡ c → P (Some x) → P (Some x')) →
    P (slice_get xs d) → P (slice_get (slice_set xs c x') d)
set_keeps P [] c d x x' at h p = p
set_keeps P (y ∷ xs) zero zero x x' at h p = h refl (subst P at p)
set_keeps P (y ∷ xs) zero (suc d) x x' at h p = p
set_keeps P (y ∷ xs) (suc c) zero x x' at h p = p
set_keeps P (y ∷ xs) (suc c) (suc d) x x' at h p = set_keeps P xs c d x x' at (λ e. h (ap suc e)) p

-- what is read of place d stays, but where it is the one that is set
pub set_get : {X : Type 0} (f : Option X → ℕ) (xs : List X) (c d : ℕ) (x x' : X) → slice_get xs c ≡ Some x → (d ≡ c → f (Some x') ≡ f (Some x)) →
    f (slice_get (slice_set xs c x') d) ≡ f (slice_get xs d)
set_get f xs c d x x' at h = set_keeps (λ o. f o ≡ f (slice_get xs d)) xs c d x x' at (λ e g. h e ∙ g) refl

-- what holds of each other place holds of each, where it holds of what is set
pub set_each : {X : Type 0} (P : ℕ → X → Type 0) (xs : List X) (c : ℕ) (x : X) → ((d : ℕ) (y : X) → (d ≡ c → ⊥) → slice_get xs d ≡ Some y → P d y) → P c x →
    (d : ℕ) (y : X) → slice_get (slice_set xs c x) d ≡ Some y → P d y
set_each P [] c x h p d y e = absurd cc
set_each P (z ∷ xs) zero x h p zero y e = subst (P zero) (same_Some x y e) p
set_each P (z ∷ xs) zero x h p (suc d) y e = h (suc d) y (λ f. absurd (omega (arith, f))) e
set_each P (z ∷ xs) (suc c) x h p zero y e = h zero y (λ f. absurd (omega (arith, f))) e
set_each P (z ∷ xs) (suc c) x h p (suc d) y e = set_each (λ k. P (suc k)) xs c x (λ k u n. h (suc k) u (λ f. n (omega (arith, f)))) p d y e

-- what changes when the queue of c does
next_set : (qs : List Waiting) (c : ℕ) (w w' : Waiting) (a : Actual) → slice_get qs c ≡ Some w →
    (a ≡ Reads c → w'.taken ≡ w.taken) → (a ≡ Writes c → w'.taken + w'.waiting ≡ w.taken + w.waiting) → next_at (slice_set qs c w') a ≡ next_at qs a
next_set qs c w w' (Reads d) at r g = set_get taken_of qs c d w w' at (λ e. r (ap Reads e))
next_set qs c w w' (Writes d) at r g = set_get given_of qs c d w w' at (λ e. g (ap Writes e))
next_set qs c w w' (Hands v) at r g = refl

-- where its queue has no fewer tokens, or isn't that of c, a parameter that is ready stays so
ready_set : (qs : List Waiting) (c : ℕ) (w w' : Waiting) (a : Actual) → slice_get qs c ≡ Some w → (Joins a c → w.waiting ≤ w'.waiting) → 0 < waiting_of (queue_of qs a) →
    0 < waiting_of (queue_of (slice_set qs c w') a)
ready_set qs c w w' (Reads d) at more = set_keeps (λ o. 0 < waiting_of o) qs c d w w' at (λ e l. let m = more e in omega (arith, m, l))
ready_set qs c w w' (Writes d) at more = set_keeps (λ o. 0 < waiting_of o) qs c d w w' at (λ e l. let m = more e in omega (arith, m, l))
ready_set qs c w w' (Hands v) at more = λ l. l

-- where its queue has room still, where it had some, or isn't that of c, a parameter that has room keeps it
room_set : (qs : List Waiting) (c : ℕ) (w w' : Waiting) (a : Actual) → slice_get qs c ≡ Some w → (Joins a c → 0 < w.spare → 0 < w'.spare) → 0 < spare_of (queue_of qs a) →
    0 < spare_of (queue_of (slice_set qs c w') a)
room_set qs c w w' (Reads d) at more = set_keeps (λ o. 0 < spare_of o) qs c d w w' at more
room_set qs c w w' (Writes d) at more = set_keeps (λ o. 0 < spare_of o) qs c d w w' at more
room_set qs c w w' (Hands v) at more = λ l. l

-- ---- the clauses of ports, over the queues as contracts see them

abbrev pub changed : Lines → ℕ → Waiting → Lines
changed s c w = record s { queues = slice_set s.queues c w }

abbrev ready_at : Lines → ℕ → Type 0
ready_at s q = 0 < waiting_of (queue_of s.queues (actual_here s q))

abbrev roomy_at : Lines → ℕ → Type 0
roomy_at s q = 0 < spare_of (queue_of s.queues (actual_here s q))

abbrev pub site_of : Lines → Site
site_of s = record { network = s.network; input = s.input; instance = s.instance }

-- queues of which channel c has w, and later w'
module _ (s : Lines) (h : AreQueued s) (c : ℕ) (w w' : Waiting) (inside : c < length s.queues) (value : w ≡ slice_index_or s.queues c w) where
  pub queue_at : slice_get s.queues c ≡ Some w
  queue_at = slice_get_read s.queues (length s.queues) c w refl inside value

  own : IsQueue s.network s.input c w
  own = h.each c w queue_at

  pub still_queued : (w'.network ≡ w.network) × (w'.input ≡ w.input) × (w'.channel ≡ w.channel) →
      (role_at (network_of s.network) c ≡ Input → w'.taken + w'.waiting ≡ w.taken + w.waiting) → AreQueued (changed s c w')
  still_queued same sums = record {
    wired = h.wired;
    count = length-set s.queues c w' ∙ h.count;
    each = set_each (IsQueue s.network s.input) s.queues c w' (λ d v other. h.each d v)
        (record { network = same.0 ∙ own.network; input = same.1 ∙ own.input; channel = same.2 ∙ own.channel; given = λ e. sums e ∙ own.given e });
  }

  -- each place stays, but for the end that moves
  place_stays : (p r : ℕ) → (actual_at (instance_at (network_of s.network) p) r ≡ Reads c → w'.taken ≡ w.taken) →
      (actual_at (instance_at (network_of s.network) p) r ≡ Writes c → w'.taken + w'.waiting ≡ w.taken + w.waiting) → place_at (changed s c w') p r ≡ place_at s p r
  place_stays p r = next_set s.queues c w w' (actual_at (instance_at (network_of s.network) p) r) queue_at

  all_stay : (w'.taken ≡ w.taken) × (w'.waiting ≡ w.waiting) → (p r : ℕ) → place_at (changed s c w') p r ≡ place_at s p r
  all_stay same p r = let a = same.0 in let b = same.1 in place_stays p r (λ e. a) (λ e. omega (arith, a, b))

  more_stay : w.waiting ≤ w'.waiting → StaySo (ready_at s) (ready_at (changed s c w'))
  more_stay more q = ready_set s.queues c w w' (actual_here s q) queue_at (λ e. more)

  rooms_stay : (0 < w.spare → 0 < w'.spare) → StaySo (roomy_at s) (roomy_at (changed s c w'))
  rooms_stay more q = room_set s.queues c w w' (actual_here s q) queue_at (λ e. more)

-- a take leaves the room that there was
room_taken : (w w' : Waiting) (o : Option Token) → IfSome o (λ _. 0 < w.spare → w'.spare ≡ w.spare + 1) → IfNone o ((w' ≡ w) × (w.waiting ≡ 0)) → 0 < w.spare → 0 < w'.spare
room_taken w w' (Some t) more none lt = omega (arith, more lt)
room_taken w w' None more none lt = subst (λ (x : Waiting). 0 < x.spare) (sym none.0) lt

-- what a take leaves
pub record Took (n new : Lines) (q c : ℕ) (o : Option Token) : Type 0 where
  pub queued : AreQueued new
  pub others : LeavesOthers (site_of n) (place_at n) (place_at new)
  pub token : IfSome o (IsNext (site_of n) c (place_at n n.instance q))
  pub moved : IfSome o (λ _. Moved (place_at n n.instance) (place_at new new.instance) q)
  pub stays : IfNone o (Stays (place_at n n.instance) (place_at new new.instance))
  pub dry : IfNone o (waiting_of (queue_of new.queues (actual_here new q)) ≡ 0)
  pub some : ready_at n q → IsSome o
  pub keeps : (r d : ℕ) → r ≢ q → actual_here n r ≡ Reads d → ready_at n r → ready_at new r

-- queues s, seen as n, of which parameter q reads channel c
module _ {s n : Lines} (is : s ≡ n) (h : AreQueued s) (q c : ℕ) (reads : actual_here n q ≡ Reads c) where
  read_here : actual_here s q ≡ Reads c
  read_here = ap (λ (x : Lines). actual_here x q) is ∙ reads

  pub read_inside : c < length s.queues
  read_inside = subst (λ k. c < k) (sym h.count) (reads_listed s.network h.wired s.instance q c read_here)

  -- no other end reads it
  read_once : (p r : ℕ) → (p ≡ s.instance → r ≡ q → ⊥) → actual_at (instance_at (network_of s.network) p) r ≡ Reads c → ⊥
  read_once p r other e = let o = reads_once s.network h.wired p r s.instance q c e read_here in other o.0 o.1

  module _ {w : Waiting} (value : w ≡ slice_index_or s.queues c w) where
    pub queue_read : queue_of n.queues (actual_here n q) ≡ Some w
    queue_read = rw (← is) (ap (queue_of s.queues) read_here ∙ queue_at s h c w w read_inside value)

    pub next_read : place_at n n.instance q ≡ w.taken
    next_read = rw (← is) (ap (next_at s.queues) read_here ∙ ap taken_of (queue_at s h c w w read_inside value))

    pub took : (w' : Waiting) (o : Option Token) → (w'.network ≡ w.network) × (w'.input ≡ w.input) × (w'.channel ≡ w.channel) →
        IfSome o (λ t. IsOf w.network w.input t × (t.line ≡ Channel w.channel) × (t.place ≡ w.taken)) →
        IfSome o (λ _. (w'.taken ≡ w.taken + 1) × (w'.waiting + 1 ≡ w.waiting)) → IfNone o ((w' ≡ w) × (w.waiting ≡ 0)) → Took n (changed s c w') q c o
    took w' (Some t) same told counts none =
        let mine = own s h c w w' read_inside value in
        let more = counts.0 in
        let less = counts.1 in
        let sums : w'.taken + w'.waiting ≡ w.taken + w.waiting = omega (arith, more, less) in
        let step : w'.taken ≡ suc w.taken = omega (arith, more) in
        let stays : (p r : ℕ) → (p ≡ s.instance → r ≡ q → ⊥) → place_at (changed s c w') p r ≡ place_at s p r =
        λ p r other. place_stays s h c w w' read_inside value p r (λ e. absurd (read_once p r other e)) (λ e. sums)
        in
        record {
          queued = still_queued s h c w w' read_inside value same (λ e. sums);
          others = rw (← is) (λ p r other. stays p r (λ e f. other e));
          token = record {
            names = (told.0.0 ∙ mine.network ∙ ap (λ (x : Lines). x.network) is, told.0.1 ∙ mine.input ∙ ap (λ (x : Lines). x.input) is);
            line = told.1 ∙ ap Channel mine.channel;
            place = told.2 ∙ sym next_read;
          };
          moved = (
            ap (next_at (slice_set s.queues c w')) read_here ∙ ap taken_of (set_here s.queues c w' read_inside) ∙ step ∙ ap suc (sym next_read),
            rw (← is) (λ r other. stays s.instance r (λ e f. other f)),
          );
          stays = tt;
          dry = tt;
          some = λ ready. refl;
          keeps = rw (← is) (λ r d other read. ready_set s.queues c w w' (actual_here s r) (queue_at s h c w w read_inside value)
              (λ joins. absurd (read_once s.instance r (λ e f. other f) (read ∙ ap Reads (subst (λ a. Joins a c) read joins)))));
        }
    took w' None same told counts none =
        let kept : (w'.taken ≡ w.taken) × (w'.waiting ≡ w.waiting) = (ap (λ (x : Waiting). x.taken) none.0, ap (λ (x : Waiting). x.waiting) none.0) in
        let stays = all_stay s h c w w' read_inside value kept in record {
          queued = still_queued s h c w w' read_inside value same (λ e. ap (λ (x : Waiting). x.taken + x.waiting) none.0);
          others = rw (← is) (λ p r other. stays p r);
          token = tt;
          moved = tt;
          stays = rw (← is) (stays s.instance);
          dry = ap (λ a. waiting_of (queue_of (slice_set s.queues c w') a)) read_here ∙ ap waiting_of (set_here s.queues c w' read_inside) ∙ kept.1 ∙ none.1;
          some = λ ready. let e = ap waiting_of queue_read in let z = none.1 in absurd (omega (arith, ready, e, z));
          keeps = rw (← is) (λ r d other read. more_stay s h c w w' read_inside value (let e = kept.1 in omega (arith, e)) r);
        }

    pub took_rooms : (w' : Waiting) (o : Option Token) → IfSome o (λ _. 0 < w.spare → w'.spare ≡ w.spare + 1) → IfNone o ((w' ≡ w) × (w.waiting ≡ 0)) → StaySo (roomy_at n) (roomy_at (changed s c w'))
    took_rooms w' o more none = rw (← is) (rooms_stay s h c w w' read_inside value (room_taken w w' o more none))

-- of which it writes channel c
module _ {s n : Lines} (is : s ≡ n) (h : AreQueued s) (q c : ℕ) (writes_it : actual_here n q ≡ Writes c) where
  write_here : actual_here s q ≡ Writes c
  write_here = ap (λ (x : Lines). actual_here x q) is ∙ writes_it

  pub write_inside : c < length s.queues
  write_inside = subst (λ k. c < k) (sym h.count) (writes_listed s.network h.wired s.instance q c write_here)

  -- no other end writes it
  write_once : (p r : ℕ) → (p ≡ s.instance → r ≡ q → ⊥) → actual_at (instance_at (network_of s.network) p) r ≡ Writes c → ⊥
  write_once p r other e = let o = writes_once s.network h.wired p r s.instance q c e write_here in other o.0 o.1

  pub written_by : {w : Waiting} → w ≡ slice_index_or s.queues c w → role_at (network_of w.network) w.channel ≡ Input → ⊥
  written_by {w} value =
      let mine = own s h c w w write_inside value in
      rw (mine.network, mine.channel) (writes s.network h.wired s.instance q c write_here).1

  module _ {w : Waiting} (value : w ≡ slice_index_or s.queues c w) (w' : Waiting) where
    -- where room was made
    module _ (more : HasMore 0 w w') where
      pub room_queued : AreQueued (changed s c w')
      room_queued = still_queued s h c w w' write_inside value (more.0, more.1, more.2) (λ e. omega (arith, more.3, more.4))

      pub room_stays : Stays (place_at n n.instance) (place_at (changed s c w') s.instance)
      room_stays = rw (← is) (all_stay s h c w w' write_inside value (more.3, omega (arith, more.4)) s.instance)

      pub room_leaves : LeavesOthers (site_of n) (place_at n) (place_at (changed s c w'))
      room_leaves = rw (← is) (λ p r other. all_stay s h c w w' write_inside value (more.3, omega (arith, more.4)) p r)

      pub room_keeps : StaySo (ready_at n) (ready_at (changed s c w'))
      room_keeps = rw (← is) (more_stay s h c w w' write_inside value (omega (arith, more.4)))

      pub room_there : 0 < w'.spare → 0 < spare_of (queue_of (slice_set s.queues c w') (actual_here s q))
      room_there room = subst (λ k. 0 < k) (sym (ap (λ a. spare_of (queue_of (slice_set s.queues c w') a)) write_here ∙ ap spare_of (set_here s.queues c w' write_inside))) room

    queue_written : queue_of n.queues (actual_here n q) ≡ Some w
    queue_written = rw (← is) (ap (queue_of s.queues) write_here ∙ queue_at s h c w w' write_inside value)

    queue_made : queue_of (slice_set s.queues c w') (actual_here s q) ≡ Some w'
    queue_made = ap (queue_of (slice_set s.queues c w')) write_here ∙ set_here s.queues c w' write_inside

    pub room_here : roomy_at n q → 0 < w.spare
    room_here l = subst (λ o. 0 < spare_of o) queue_written l

    pub room_gone : w'.spare ≡ 0 → roomy_at (changed s c w') q → ⊥
    room_gone none l = let more : 0 < w'.spare = subst (λ o. 0 < spare_of o) queue_made l in omega (arith, none, more)

    pub room_rooms : (0 < w.spare → 0 < w'.spare) → StaySo (roomy_at n) (roomy_at (changed s c w'))
    room_rooms more = rw (← is) (rooms_stay s h c w w' write_inside value more)

    pub put_rooms : (r d : ℕ) → r ≢ q → (actual_here n r ≡ Writes d) × (is_output (role_at (network_of n.network) d) ≡ false) → roomy_at n r → roomy_at (changed s c w') r
    put_rooms = rw (← is) (λ r d other written. room_set s.queues c w w' (actual_here s r) (queue_at s h c w w' write_inside value)
        (λ joins. absurd (write_once s.instance r (λ e f. other f) (written.0 ∙ ap Writes (subst (λ a. Joins a c) written.0 joins)))))

    -- where a token was put
    module _ (more : HasMore 1 w w') where
      put_stays : (p r : ℕ) → (p ≡ s.instance → r ≡ q → ⊥) → place_at (changed s c w') p r ≡ place_at s p r
      put_stays p r other = place_stays s h c w w' write_inside value p r (λ e. more.3) (λ e. absurd (write_once p r other e))

      pub put_queued : AreQueued (changed s c w')
      put_queued = still_queued s h c w w' write_inside value (more.0, more.1, more.2) (λ e. absurd ((writes s.network h.wired s.instance q c write_here).1 e))

      pub put_leaves : LeavesOthers (site_of n) (place_at n) (place_at (changed s c w'))
      put_leaves = rw (← is) (λ p r other. put_stays p r (λ e f. other e))

      pub put_keeps : StaySo (ready_at n) (ready_at (changed s c w'))
      put_keeps = rw (← is) (more_stay s h c w w' write_inside value (omega (arith, more.4)))

      pub put_moves : Moved (place_at n n.instance) (place_at (changed s c w') s.instance) q
      put_moves =
          let step : w'.taken + w'.waiting ≡ suc (w.taken + w.waiting) = omega (arith, more.3, more.4) in
          rw (← is) (
            ap (next_at (slice_set s.queues c w')) write_here ∙ ap given_of (set_here s.queues c w' write_inside) ∙ step ∙
                ap suc (sym (ap (next_at s.queues) write_here ∙ ap given_of (queue_at s h c w w write_inside value))),
            λ r other. put_stays s.instance r (λ e f. other f),
          )
