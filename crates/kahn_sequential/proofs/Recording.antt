-- What is kept of the channels after a turn, and in the end.
use Rattle.kahn_sequential.proofs.Common.{nat_tests, ⊎_elim, arith, ◌≡◌, ◌⊎◌, inl, inr, ℕ, suc, ◌+◌, ◌-◌, ◌<◌, ◌≤◌, ◌==◌, Bool, true, false, cond, min, List, [], ◌∷◌, ◌++◌, length, refl, sym, ap, ◌∙◌, subst, Option, Some, None, slice_get, AllStandBy, AreKeptTokens, AreStreams, Answer, Channel, Finished, Given, HasRunCell, HasWorked, HaveChanged, Inner, Input, Inputs, IsConcluded, IsGiven, IsLaid, IsOpenStream, IsRight, IsWhole, Lists, Schema, OpensWith, Output, Pause, Program, Reads, Role, Round, RunState, Side, Source, Stream, Table, View, Waiting, Writes, Written, actual_at, all_events, cases_eq, channel_source, events_at, get_or-set_other, given_of, inputs_of, instance_at, is_output, joins_within, length-map, network_of, no_view, one_first, prefix_refl, role_at, sight_of, slice_get_within, source, stream_lines, taken_of, told_view, token_value, turn_of, values_of, view_at, view_events, AllStand, StoodBy, mapped_at, Lines as Queues, Holds, IsServed, IsWriter, inputs, writes, AreCountsOf, AreOpenChannels, AreRecorded, HasRecorded, Global, Vec, HasGiven, IsCountOf, HasOthers, IsRecorded, AreTokensOf, IsSentOn, IsTurnShort, StoodIn, TakesTurns, AreRecordedOf, AreTurnShortOf}
use Rattle.kahn_streams.proofs.{Finding.found, Sided.channel_served, Token_lists.token_stands}
use Rattle.kahn_sequential.specs.{Recordings.AreCountsIn, Recordings.AreHistoriesIn, Recordings.IsHistoryIn, declared.counted.Count.Count}
use Rattle.kahn_sequential.proofs.{Assembling.assembled, Assembling.assembled_long, Assembling.assembled_taken, Assembling.assembled_whole, Benched.seated_at, Benched.sent_there, Benched.taken_there, Benched.viewed, Events.none_sent, Growing.one_event, Growing.sent_grows, Lists.all_of_it, Lists.both_stand, Lists.old_item, Lists.one_of_sum, Lists.prefix_stands}

-- ---- the queues, as the cells see them

pub sent_seen : (b : Table) → IsLaid b → (w o c : ℕ) → actual_at (instance_at (network_of b.network) w) o ≡ Writes c → role_at (network_of b.network) c ≡ Inner →
    given_of (slice_get b.queues.queues c) ≡ (view_at (sight_of b).cells w).sent o
sent_seen b laid w o c e inner =
    let x = seated_at b laid w (joins_within (network_of b.network) w o c (rw e refl)) in
    sent_there b laid w o c x.0 x.2 e (ap is_output inner) ∙ sym (ap (λ v. v.sent o) (viewed b laid w x.0 x.1))

pub taken_seen : (b : Table) → IsLaid b → (r q c : ℕ) → actual_at (instance_at (network_of b.network) r) q ≡ Reads c →
    taken_of (slice_get b.queues.queues c) ≡ (view_at (sight_of b).cells r).taken q
taken_seen b laid r q c e =
    let x = seated_at b laid r (joins_within (network_of b.network) r q c (rw e refl)) in
    taken_there b laid r q c x.0 x.2 e ∙ sym (ap (λ v. v.taken q) (viewed b laid r x.0 x.1))

taken_few : (w : Option Waiting) → taken_of w ≤ given_of w
taken_few None = omega arith
taken_few (Some w) = omega arith

-- ---- counts

-- of a channel that an instance writes, and of one that the input gives
pub has_sent : (b : Table) (t : Program) → b.network ≡ t → (c n : ℕ) (w : Side) → IsWriter (network_of t) c w → channel_source (network_of t) c ≡ Written w.instance →
    n ≡ (view_at (sight_of b).cells w.instance).sent w.parameter → HasGiven (sight_of b) c n
has_sent b t same c n w writer from is =
    subst (λ (k : Program). IsGiven (network_of k) (inputs_of b.input) (sight_of b).cells c (source (network_of k) (Channel c)) n) (sym same)
    (subst (λ k. IsGiven (network_of t) (inputs_of b.input) (sight_of b).cells c k n) (sym from) (w.parameter, writer.1, sym is))

pub has_input : (b : Table) (t : Program) → b.network ≡ t → (c n : ℕ) → channel_source (network_of t) c ≡ Given → n ≡ length (inputs_of b.input c) → HasGiven (sight_of b) c n
has_input b t same c n from is =
    subst (λ (k : Program). IsGiven (network_of k) (inputs_of b.input) (sight_of b).cells c (source (network_of k) (Channel c)) n) (sym same)
    (subst (λ k. IsGiven (network_of t) (inputs_of b.input) (sight_of b).cells c k n) (sym from) (sym is))

-- one count more
pub counts_more : (s : RunState) (counts all : List Count) (n : ℕ) (x : Count) → AreCountsOf s counts n → IsCountOf s n x → all ≡ counts ++ x ∷ [] → AreCountsOf s all (n + 1)
counts_more s counts all n x h is e =
    let r = one_first (IsCountOf s) counts all x n (record { count = h.count; each = h.each }) e is in
    record { count = r.count; each = r.each }

-- one start stream more
pub channels_more : (t : Program) (lists : Lists) (streams all : List Stream) (n : ℕ) (x : Stream) → AreOpenChannels t lists streams n → x.line ≡ Channel n →
    IsOpenStream (network_of t) (inputs_of lists) x → all ≡ streams ++ x ∷ [] → AreOpenChannels t lists all (n + 1)
channels_more t lists streams all n x h line start e =
    let r = one_first (λ c y. (y.line ≡ Channel c) × IsOpenStream (network_of t) (inputs_of lists) y) streams all x n (record { count = h.count; each = h.each }) e (line, start) in
    record { count = r.count; each = r.each }

-- before the first event all is recorded
module _ (b : Table) (laid : IsLaid b) (stood : AllStandBy b.network b.watch b.cells) (none : all_events (sight_of b) ≡ 0) where
  opened_one : (c : ℕ) (x : Stream) → c < length (network_of b.network).channels → x.line ≡ Channel c → IsOpenStream (network_of b.network) (inputs_of b.input) x →
      IsRecorded b.network b.queues c x
  opened_one c x listed line start = record {
    is = record { line = line; input = given; inner = λ r k t e. absurd (let f : slice_get [] k ≡ Some t = rw (empty r) at e in cc) };
    all = λ r. ap length (empty r) ∙ sym (nothing r);
  }
    where
      opens : (k : Source) → channel_source (network_of b.network) c ≡ k → OpensWith (network_of b.network) (inputs_of b.input) k (Channel c) x.tokens.items
      opens k e =
          subst (λ k. OpensWith (network_of b.network) (inputs_of b.input) k (Channel c) x.tokens.items) e
          (subst (λ d. OpensWith (network_of b.network) (inputs_of b.input) (source (network_of b.network) d) d x.tokens.items) line start)

      given : role_at (network_of b.network) c ≡ Input → AreKeptTokens (network_of b.network) (inputs_of b.queues.input) (Channel c) (inputs_of b.queues.input c) x.tokens.items
      given r =
          subst (λ (l : Lists). AreKeptTokens (network_of b.network) (inputs_of l) (Channel c) (inputs_of l c) x.tokens.items) (sym laid.input)
          (opens Given (inputs b.network laid.wired c r))

      served : role_at (network_of b.network) c ≡ Inner → IsServed (network_of b.network) c Inner
      served r = subst (IsServed (network_of b.network) c) r (channel_served b.network laid.wired c listed)

      empty : role_at (network_of b.network) c ≡ Inner → x.tokens.items ≡ []
      empty r =
          let w = (served r).0 in
          opens (Written w.0.instance) (writes b.network laid.wired w.0.instance w.0.parameter c w.1.0.1).0

      nothing : role_at (network_of b.network) c ≡ Inner → given_of (slice_get b.queues.queues c) ≡ 0
      nothing r =
          let w = (served r).0 in
          let y = seated_at b laid w.0.instance (joins_within (network_of b.network) w.0.instance w.0.parameter c (rw w.1.0.1 refl)) in
          let v = viewed b laid w.0.instance y.0 y.1 in
          let few = one_of_sum view_events (sight_of b).cells w.0.instance no_view refl in
          let idle : (told_view y.0).events ≡ 0 = let e = ap (λ u. u.events) v in omega (arith, few, none, e) in
          sent_seen b laid w.0.instance w.0.parameter c w.1.0.1 r ∙ (ap (λ u. u.sent w.0.parameter) v ∙
          none_sent (network_of b.network) (inputs_of y.0.input) b.watch w.0.instance (told_view y.0) (stood w.0.instance y.0 y.1) idle w.0.parameter c w.1.0.1)

  pub opened : (streams : List Stream) → AreOpenChannels b.network b.input streams (length (network_of b.network).channels) → AreRecorded b streams
  opened streams h = record {
    count = h.count;
    each = λ c x at.
        let o = h.each c x at in
        opened_one c x (omega (arith, slice_get_within streams c x at, h.count)) o.0 o.1;
  }

-- ---- a turn

module _ {b d : Table} (laid : IsLaid b) (after : IsLaid d) {p quantum : ℕ} {z : Pause} (ran : HasRunCell (sight_of b) (sight_of d) p quantum z) (worked : HasWorked b d)
    (stood : StoodIn (sight_of b) p) (turns : TakesTurns (network_of b.network) quantum) where
  abbrev N : Schema
  N = network_of b.network

  abbrev I : Inputs
  I = inputs_of b.input

  abbrev old : ℕ → View
  old k = view_at (sight_of b).cells k

  abbrev new : ℕ → View
  new k = view_at (sight_of d).cells k

  apart : (k : ℕ) → (k ≡ p → ⊥) → new k ≡ old k
  apart k n = ap (λ cells. view_at cells k) ran.only ∙ get_or-set_other (sight_of b).cells p k (new p) no_view n

  stands : StoodBy N I b.watch p (new p)
  stands =
      subst (λ (k : Schema × Inputs × Option ℕ). StoodBy k.0 k.1 k.2 p (new p)) (λ i. (ran.same.0 i, ran.same.1 i, ran.same.2 i)) ran.paused.stood

  -- of a channel between processes: who writes it and who reads it
  module _ (c : ℕ) (listed : c < length N.channels) (inner : role_at N c ≡ Inner) where
    served : IsServed N c Inner
    served = subst (IsServed N c) inner (channel_served b.network laid.wired c listed)

    abbrev w : ℕ
    w = served.0.0.instance

    abbrev o : ℕ
    o = served.0.0.parameter

    abbrev r : ℕ
    r = served.1.0.instance

    abbrev q : ℕ
    q = served.1.0.parameter

    written : actual_at (instance_at N w) o ≡ Writes c
    written = served.0.1.0.1

    read : actual_at (instance_at N r) q ≡ Reads c
    read = served.1.1.0.1

    abbrev given : ℕ
    given = given_of (slice_get b.queues.queues c)

    abbrev given' : ℕ
    given' = given_of (slice_get d.queues.queues c)

    abbrev taken' : ℕ
    taken' = taken_of (slice_get d.queues.queues c)

    is_given : given ≡ (old w).sent o
    is_given = sent_seen b laid w o c written inner

    is_given' : given' ≡ (new w).sent o
    is_given' =
        sent_seen d after w o c (ap (λ t. actual_at (instance_at (network_of t) w) o) worked.network ∙ written) (ap (λ t. role_at (network_of t) c) worked.network ∙ inner)

    -- where another process had its turn as many were given
    unless : (w ≡ p → ⊥) → given' ≡ given
    unless n = is_given' ∙ (ap (λ v. v.sent o) (apart w n) ∙ sym is_given)

    not_fewer : given ≤ given'
    not_fewer = by (cases_eq w p)
      where
        by : (w ≡ p) ⊎ (w ≡ p → ⊥) → given ≤ given'
        by (inl e) =
            let g = sent_grows N I I (λ k. prefix_refl (I k)) b.watch p (old p) (new p) stood stands ran.events.0 o c (subst (λ k. actual_at (instance_at N k) o ≡ Writes c) e written) in
            let y = is_given' ∙ ap (λ k. (new k).sent o) e in
            omega (arith, g, is_given ∙ ap (λ k. (old k).sent o) e, y)
        by (inr n) = let e = unless n in omega (arith, e)

    -- no more is taken than was given before
    not_more : taken' ≤ given
    not_more = by (cases_eq r p) (cases_eq w p) turns
      where
        few : taken' ≤ given'
        few = taken_few (slice_get d.queues.queues c)

        was : taken_of (slice_get b.queues.queues c) ≤ given
        was = taken_few (slice_get b.queues.queues c)

        same : (new r).taken q ≡ (old r).taken q → taken' ≤ given
        same e =
            let x = taken_seen d after r q c (ap (λ t. actual_at (instance_at (network_of t) r) q) worked.network ∙ read) ∙ (e ∙ sym (taken_seen b laid r q c read)) in
            omega (arith, x, was)

        full : given' ≡ given → taken' ≤ given
        full e = let x = few in omega (arith, x, e)

        one : r ≡ p → w ≡ p → quantum ≤ 1 → (events_at (sight_of d) p ≡ events_at (sight_of b) p) ⊎ (events_at (sight_of d) p ≡ events_at (sight_of b) p → ⊥) → taken' ≤ given
        one e f l (inl s) = same (ap (λ s. (view_at s.cells r).taken q) (ran.still s))
        one e f l (inr n) = by (one_event N I I (λ k. prefix_refl (I k)) b.watch p (old p) (new p) stood stands ran.events.0 more)
          where
            more : (new p).events ≡ suc (old p).events
            more = let x = ran.events.0 in let y = ran.events.1 in omega (arith, x, y, l, n)

            by : ((k : ℕ) → (new p).taken k ≡ (old p).taken k) ⊎ ((k e : ℕ) → actual_at (instance_at N p) k ≡ Writes e → (new p).sent k ≡ (old p).sent k) → taken' ≤ given
            by (inl h) = same (subst (λ k. (new k).taken q ≡ (old k).taken q) (sym e) (h q))
            by (inr h) =
                full (is_given' ∙ (subst (λ k. (new k).sent o ≡ (old k).sent o) (sym f) (h o c (subst (λ k. actual_at (instance_at N k) o ≡ Writes c) f written)) ∙ sym is_given))

        by : (r ≡ p) ⊎ (r ≡ p → ⊥) → (w ≡ p) ⊎ (w ≡ p → ⊥) → TakesTurns N quantum → taken' ≤ given
        by (inr n) x t = same (ap (λ v. v.taken q) (apart r n))
        by (inl e) (inr n) t = full (unless n)
        by (inl e) (inl f) (inl l) = one e f l (cases_eq (events_at (sight_of d) p) (events_at (sight_of b) p))
        by (inl e) (inl f) (inr h) = absurd (h c listed served.0.0 served.0.1.0 served.1.0 served.1.1.0 (e ∙ sym f))

  one_short : (c : ℕ) (x : Stream) → c < length N.channels → IsRecorded b.network b.queues c x → IsTurnShort d.network d.queues c x
  one_short c x l h = record {
    names = after.network;
    is = subst (λ (k : Program × Lists). IsSentOn k.0 k.1 c x) (λ i. (sym worked.network i, (laid.input ∙ (sym worked.input ∙ sym after.input)) i)) h.is;
    within = λ role.
        let inner = was role in
        let n = h.all inner in
        (omega (arith, not_more c l inner, n), omega (arith, not_fewer c l inner, n));
  }
    where
      was : role_at (network_of d.network) c ≡ Inner → role_at N c ≡ Inner
      was e = ap (λ t. role_at (network_of t) c) (sym worked.network) ∙ e

  -- after a turn of p all streams are short of what it sent alone
  pub turn_short : (xs : List Stream) → AreRecorded b xs → AreTurnShortOf d.network d.queues xs
  turn_short xs h = record {
    count = h.count ∙ ap (λ t. length (network_of t).channels) (sym worked.network);
    each = λ c x at. let l = slice_get_within xs c x at in let n = h.count in one_short c x (omega (arith, l, n)) (h.each c x at);
  }

-- ---- the end

module _ (b : Table) (laid : IsLaid b) {bound left : ℕ} {halted : Bool} (a : Answer) (g : IsConcluded (sight_of b) bound left halted a.verdict a.ends.items)
    (streams : AreStreams (sight_of b) a.streams.items (stream_lines (network_of b.network) b.watch)) (count : a.events ≡ bound - left) where
  total : a.events + left ≡ bound
  total = let t = g.last.total in omega (arith, t, count)

  right : IsRight (network_of b.network) (inputs_of b.input) bound b.watch a
  right = assembled a g streams total

  counts_in : (counts : List Count) → AreCountsOf (sight_of b) counts (length (network_of b.network).channels) → AreCountsIn right.run counts
  unfolding right
  counts_in counts h = record {
    count = h.count;
    each = λ c n at.
        let k = h.each c n at in
        record {
          sent = sym (assembled_long a g streams total c n.sent k.sent);
          taken = λ p q x r e. let m = k.taken p q r in let l = assembled_taken a g streams total p q c x r e in omega (arith, m, l);
        };
  }

  -- tokens from the first place on, as many as were given, are the tape
  module _ (xs : List Stream) (recorded : AreRecorded b xs) where
    module _ (c : ℕ) (s : Stream) (at : slice_get xs c ≡ Some s) where
      listed : c < length (network_of b.network).channels
      listed = let l = slice_get_within xs c s at in let n = recorded.count in omega (arith, l, n)

      h : IsRecorded b.network b.queues c s
      h = recorded.each c s at

      from_input : role_at (network_of b.network) c ≡ Input → values_of s ≡ right.run.tapes (Channel c)
      from_input r =
          (h.is.input r).values ∙ (ap (λ (l : Lists). inputs_of l c) laid.input ∙ sym (right.run.inputs (Channel c) (inputs b.network laid.wired c r)))

      sent : role_at (network_of b.network) c ≡ Inner → values_of s ≡ right.run.tapes (Channel c)
      unfolding right
      sent r = sym (all_of_it (values_of s) (right.run.tapes (Channel c)) (both_stand (network_of b.network) (inputs_of b.input) (Channel c) (values_of s) (right.run.tapes (Channel c)) mine tape (omega (arith, same))) same)
        where
          served : IsServed (network_of b.network) c Inner
          served = subst (IsServed (network_of b.network) c) r (channel_served b.network laid.wired c listed)

          written : actual_at (instance_at (network_of b.network) served.0.0.instance) served.0.0.parameter ≡ Writes c
          written = served.0.1.0.1

          long : length (right.run.tapes (Channel c)) ≡ (view_at (sight_of b).cells served.0.0.instance).sent served.0.0.parameter
          long =
              assembled_long a g streams total c _ (
              subst (λ k. IsGiven (network_of b.network) (inputs_of b.input) (sight_of b).cells c k ((view_at (sight_of b).cells served.0.0.instance).sent served.0.0.parameter))
              (sym (writes b.network laid.wired served.0.0.instance served.0.0.parameter c written).0) (served.0.0.parameter, written, refl))

          same : length (values_of s) ≡ length (right.run.tapes (Channel c))
          same = length-map s.tokens.items token_value ∙ (h.all r ∙ (sent_seen b laid served.0.0.instance served.0.0.parameter c written r ∙ sym long))

          mine : AllStand (network_of b.network) (inputs_of b.input) (Channel c) (values_of s)
          mine k v e =
              let t = mapped_at token_value s.tokens.items k v e in
              let x = h.is.inner r k t.0 t.1 in
              found (network_of b.network) (inputs_of b.input) (Channel c) k v
              (subst (Holds b.network b.input (Channel c) k) (sym t.2)
              (token_stands b.network b.input (Channel c) k t.0 (x.0.0, x.0.1 ∙ laid.input) x.1 x.2))

          tape : AllStand (network_of b.network) (inputs_of b.input) (Channel c) (right.run.tapes (Channel c))
          tape = prefix_stands (network_of b.network) (inputs_of b.input) (Channel c) (right.run.tapes (Channel c)) (right.run.others (Channel c))

      is_history : is_output (role_at (network_of b.network) c) ≡ false → IsHistoryIn right.run c s
      unfolding right
      is_history n = record { line = h.is.line; values = values; whole = whole }
        where
          by : (r : Role) → role_at (network_of b.network) c ≡ r → values_of s ≡ right.run.tapes (Channel c)
          by Input e = from_input e
          by Inner e = sent e
          by Output e = absurd (let f = sym (ap is_output e) ∙ n in cc)

          values : values_of s ≡ right.run.tapes (Channel c)
          values = by (role_at (network_of b.network) c) refl

          whole : a.verdict ≡ Finished → IsWhole (network_of b.network) (inputs_of b.input) (Channel c) (values_of s)
          whole f = subst (IsWhole (network_of b.network) (inputs_of b.input) (Channel c)) (sym values) (assembled_whole a g streams total f (Channel c))

  pub all_recorded : (counts : List Count) (r : Option (Vec Stream Global)) → AreCountsOf (sight_of b) counts (length (network_of b.network).channels) → HasRecorded b r →
      (z : IsRight (network_of b.network) (inputs_of b.input) bound b.watch a) × AreCountsIn z.run counts × ((v : Vec Stream Global) → r ≡ Some v → AreHistoriesIn z.run v.items)
  all_recorded counts r h k = (right, counts_in counts h, λ v e. record { count = (k v e).count; each = is_history v.items (k v e) })

-- ---- turns

pub turns_of : (N : Schema) (r : Round) → TakesTurns N r.quantum → TakesTurns N (turn_of r)
turns_of N r (inl l) = inl (grind (arith, nat_tests, l))
turns_of N r (inr h) = inr h

-- ---- one channel after another

-- a stream was short, and has all
abbrev pub Adds : Program → Queues → Stream → Stream → Type 0
Adds t q x y = (c : ℕ) → IsTurnShort t q c x → IsRecorded t q c y

pub adds_one : (t : Program) (q : Queues) (c : ℕ) (x y : Stream) → IsTurnShort t q c x → IsRecorded t q c y → Adds t q x y
adds_one t q c x y h k d g = subst (λ n. IsRecorded t q n y) same k
  where
    line : Channel c ≡ Channel d
    line = sym h.is.line ∙ g.is.line

    same : c ≡ d
    same = let e = line in cc

pub all_added : (t : Program) (q : Queues) (old new : List Stream) → AreTurnShortOf t q old → HaveChanged (Adds t q) old new → AreRecordedOf t q new
all_added t q old new h k = record {
  count = k.count ∙ h.count;
  each = λ c y at. let x = old_item k c y at in x.2 c (h.each c x.0 x.1);
}

-- a stream that stays
pub stays_so : (t : Program) (q : Queues) (c : ℕ) (x : Stream) → IsTurnShort t q c x → (role_at (network_of t) c ≡ Inner → ⊥) → IsRecorded t q c x
stays_so t q c x h n = record { is = h.is; all = λ r. absurd (n r) }

-- one channel more that its writer doesn't read
pub others_more : (N : Schema) (n : ℕ) → ((d : ℕ) → d < n → HasOthers N d) → HasOthers N n → (d : ℕ) → d < n + 1 → HasOthers N d
others_more N n h k d l = ⊎_elim (λ e. subst (HasOthers N) (sym e) k) (λ m. h d (omega (arith, l, m))) (cases_eq d n)

pub same_number : (n : ℕ) → (n == n) ≡ true
same_number n = grind arith
