-- A flow: what its parts, more input and letting go make of it.
use Rattle.kahn_sequential.proofs.Common.{vec_capacity, sum_by, arith, ◌≡◌, ◌⊎◌, inl, inr, true, ℕ, suc, ◌+◌, ◌-◌, ◌<◌, ◌≤◌, ◌^◌, List, [], ◌∷◌, ◌++◌, length, map, replicate, take, refl, sym, ap, ◌∙◌, subst, append-nil, Option, Some, slice_get, slice_index_or, there, length-map, map-append, take_all, take_at, Source, Given, Written, Nobody, Writes, channel_source, network_of, instance_at, actual_at, role_at, Token, Value, Line, Channel, Print, AreInputsExtended, source, Lists, inputs_of, none_of, prefix_refl, View, token_value, IsPoured, tokens, told_view, Gone, nothing_gone, poured_grown, GoesOn, IsLineOf, HeldRun, given_so_far, seen_at, seen_of, so_far, writing, stream_lines, Verdict, all_events, IsConcluded, AreEnded, AreNew, HasLetGo, IsRunOn, AreLent, IsFlowOf, flow_of, let_go_by, let_go_of, run_of_bench, no_view, AreAllGiven, AllStandBy, AreWhole, HasEmptied, HasTakenIn, HasWorked, IsLaid, IsVerdict, Table, sight_of, writes, HaveRisen, Plan, Program, seen_events, length-append, End, PartEnd, Woken, IsPartEnd, AreNoted, AreSpent, IsWoken, NumberRange, IsStale, HoldNumbers, IsNumberOf, IsSpent}
use Rattle.kahn_sequential.proofs.{Benched.mapped, Giving.input_role, Going_on.Grows, Going_on.goes_on, Going_on.grows_not, Going_on.seen_grows, Once_written.input_watched, Once_written.written_once, Named.HasLine, Named.has_line, Lacking.wants_more, Righted.events_seen, Righted.right_with, Righted.settled_by}

-- ---- it goes on

pub worked_goes_on : (b d : Table) → IsLaid b → IsLaid d → AllStandBy b.network b.watch b.cells → AllStandBy d.network d.watch d.cells → HasWorked b d →
    (plan : Plan) (total : ℕ) (said next : Option Verdict) → GoesOn (run_of_bench b plan said) (run_of_bench d (record plan { bound = total }) next)
worked_goes_on b d laid later old new h plan total said next =
    goes_on (run_of_bench b plan said) (run_of_bench d (record plan { bound = total }) next) h.network h.watch refl refl
    (subst (λ l. AreInputsExtended (inputs_of b.input) (inputs_of l)) (sym h.input) (λ c. prefix_refl (inputs_of b.input c)))
    (seen_grows b.network b.watch b.cells d.cells (later.count ∙ ap (λ t. length (network_of t).instances) h.network ∙ sym laid.count) old
    (subst (λ t. AllStandBy t b.watch d.cells) h.network (subst (λ w. AllStandBy d.network w d.cells) h.watch new)) risen)
  where
    risen : HaveRisen b.cells d.cells
    risen p x y e f =
        let a = ap (λ (v : View). v.events) (mapped told_view b.cells p x no_view e) in
        let z = ap (λ (v : View). v.events) (mapped told_view d.cells p y no_view f) in
        let l = h.events p in
        let same : y.input ≡ x.input = (later.each p y f).input ∙ h.input ∙ sym (laid.each p x e).input in
        record { events = omega (arith, a, z, l); input = subst (λ k. AreInputsExtended (inputs_of x.input) (inputs_of k)) (sym same) (λ c. prefix_refl (inputs_of x.input c)) }

pub poured_goes_on : (b d : Table) (c n : ℕ) (values : List Value) (input : Lists) → IsPoured b.input c values input → HasTakenIn c n input b d →
    (plan : Plan) (said next : Option Verdict) → GoesOn (run_of_bench b plan said) (run_of_bench d plan next)
poured_goes_on b d c n values input poured h plan said next =
    goes_on (run_of_bench b plan said) (run_of_bench d plan next) (ap (λ (x : Table). x.network) h.rest) (ap (λ (x : Table). x.watch) h.rest) refl refl
    (subst (λ l. AreInputsExtended (inputs_of b.input) (inputs_of l)) (sym (ap (λ (x : Table). x.input) h.rest)) (poured_grown b.input c values input poured))
    (λ p. subst (λ cells. Grows (seen_at (map seen_of b.cells) p) (seen_at cells p)) (sym h.seen) (grows_not (seen_at (map seen_of b.cells) p)))

-- ---- what was let go of

-- the lines of streams, each with what holds of it
pub map_on : {X : Type 0} (f g : Line → X) (lines : List Line) → ((j : ℕ) (c : Line) → slice_get lines j ≡ Some c → f c ≡ g c) → map f lines ≡ map g lines
map_on f g [] h = refl
map_on f g (c ∷ lines) h = let a = h 0 c refl in let r = map_on f g lines (λ j. h (suc j)) in λ i. a i ∷ r i

map_none : (f : Line → List Value) (lines : List Line) → ((j : ℕ) (c : Line) → slice_get lines j ≡ Some c → f c ≡ []) → map f lines ≡ replicate (length lines) []
map_none f [] h = refl
map_none f (c ∷ lines) h = let a = h 0 c refl in let r = map_none f lines (λ j. h (suc j)) in λ i. a i ∷ r i

-- the front of a list is all but its last ones
pub front_of : (vs front : List Value) (ts : List Token) → vs ≡ front ++ map token_value ts → take (length vs - length ts) vs ≡ front
front_of vs front ts e =
    let n : length front ≡ length vs - length ts = omega (arith, ap length e ∙ length-append front (map token_value ts), length-map ts token_value) in
    ap (take (length vs - length ts)) e ∙ take_at front (map token_value ts) (length vs - length ts) n

-- an input channel that has a stream is watched
pub lent_here : (b : Table) (ts : List Token) → AreLent b ts → (c : ℕ) → source (network_of b.network) (Channel c) ≡ Given → HasLine (network_of b.network) b.watch (Channel c) →
    (front : List Value) × (inputs_of b.input c ≡ front ++ map token_value ts)
lent_here b ts lent c given here =
    let role = input_role (network_of b.network) c given in
    lent c (input_watched (network_of b.network) b.watch c role here.1) role

-- nothing, before the first event
module _ (b : Table) (k : ℕ) (whole : AreWhole k b.gone) (ts : List Token) (all : AreAllGiven (network_of b.network) (inputs_of b.input) b.watch ts) where
  gone_none : (p : ℕ) → slice_index_or b.gone p nothing_gone ≡ nothing_gone
  gone_none p = ap (λ (g : List Gone). slice_index_or g p nothing_gone) whole ∙ none_of k p nothing_gone

  pub all_lent : AreLent b ts
  all_lent c w role = ([], sym (all c w role))

  go_none : (s : Source) (c : Line) → source (network_of b.network) c ≡ s → HasLine (network_of b.network) b.watch c → let_go_by b (length ts) s c ≡ []
  go_none Given (Channel c) f here =
      let role = input_role (network_of b.network) c f in
      front_of (inputs_of b.input c) [] ts (sym (all c (input_watched (network_of b.network) b.watch c role here.1) role))
  go_none (Written p) (Channel c) f here =
      ap (λ (g : Gone). map token_value (tokens g.kept (writing (instance_at (network_of b.network) p).actuals c))) (gone_none p)
  go_none (Written p) (Print r) f here = ap (λ (g : Gone). map token_value g.printed) (gone_none p)
  go_none s c f here = refl

  pub none_let_go : let_go_of b (length ts) ≡ replicate (length (stream_lines (network_of b.network) b.watch)) []
  none_let_go =
      map_none (λ c. let_go_by b (length ts) (source (network_of b.network) c) c) (stream_lines (network_of b.network) b.watch)
      (λ j c e. go_none (source (network_of b.network) c) c refl (has_line (network_of b.network) b.watch j c e))

-- what is let go of goes by the names and by what the cells let go of
pub let_go_same : (b d : Table) → d.network ≡ b.network → d.input ≡ b.input → d.watch ≡ b.watch → (gone : List Gone) → d.gone ≡ gone → (n : ℕ) →
    let_go_of d n ≡ let_go_of (record b { gone = gone }) n
let_go_same b d m l w gone g n = λ i. let_go_of (let x : Table = record { network = m i; input = l i; watch = w i; code = b.code; cells = b.cells; gone = g i; queues = b.queues } in x) n

-- all, where the cells let go of all that they kept
module _ (b : Table) (plan : Plan) (said : Option Verdict) (d : Table) (h : HasEmptied b d) where
  abbrev run : HeldRun
  run = run_of_bench b plan said

  go_all : (s : Source) (c : Line) → let_go_by (record b { gone = d.gone }) 0 s c ≡ given_so_far run s c
  go_all Given (Channel c) = take_all (length (inputs_of b.input c) - 0) (inputs_of b.input c) (omega arith)
  go_all (Written p) (Channel c) =
      let q = writing (instance_at (network_of b.network) p).actuals c in
      ap (map token_value) ((h.spent p).0 q ∙ ap (λ l. tokens (seen_at l p).kept q) h.seen)
  go_all (Written p) (Print r) = ap (map token_value) ((h.spent p).1 ∙ ap (λ l. (seen_at l p).printed) h.seen)
  go_all s c = refl

  pub all_let_go : let_go_of d 0 ≡ map (so_far run) (stream_lines (network_of b.network) b.watch)
  all_let_go =
      ap (λ (x : Table). let_go_of x 0) h.rest
      ∙ (λ i. map (λ c. go_all (source (network_of b.network) c) c i) (stream_lines (network_of b.network) b.watch))

-- ---- what is new of a stream

-- by its source
new_by : (b : Table) (plan : Plan) (said : Option Verdict) (n : ℕ) {line c : Line} {s : Source} (ts : List Token) → line ≡ c → source (network_of b.network) c ≡ s →
    given_so_far (run_of_bench b plan said) s c ≡ let_go_by b n s c ++ map token_value ts → AreNew (flow_of b plan said n) line ts
new_by b plan said n {line} {c} {s} ts e from so j at =
    subst (λ l. so_far (run_of_bench b plan said) l ≡ let_go_by b n (source (network_of b.network) l) l ++ map token_value ts) (sym e)
    (subst (λ s. given_so_far (run_of_bench b plan said) s c ≡ let_go_by b n s c ++ map token_value ts) (sym from) so)
    ∙ ap (λ l. l ++ map token_value ts) (sym (mapped (λ c. let_go_by b n (source (network_of b.network) c) c) (stream_lines (network_of b.network) b.watch) j line [] at))

module _ (b : Table) (plan : Plan) (said : Option Verdict) (n : ℕ) where
  pub new_kept : IsLaid b → (line : Line) (c p q : ℕ) (ts : List Token) → line ≡ Channel c → channel_source (network_of b.network) c ≡ Written p →
      actual_at (instance_at (network_of b.network) p) q ≡ Writes c →
      tokens (seen_at (map seen_of b.cells) p).kept q ≡ tokens (slice_index_or b.gone p nothing_gone).kept q ++ ts → AreNew (flow_of b plan said n) line ts
  new_kept laid line c p q ts e from writes kept =
      let values : map token_value (tokens (seen_at (map seen_of b.cells) p).kept q) ≡ map token_value (tokens (slice_index_or b.gone p nothing_gone).kept q) ++ map token_value ts =
      ap (map token_value) kept ∙ map-append token_value (tokens (slice_index_or b.gone p nothing_gone).kept q) ts in
      new_by b plan said n ts e from
      (subst (λ k. map token_value (tokens (seen_at (map seen_of b.cells) p).kept k) ≡ map token_value (tokens (slice_index_or b.gone p nothing_gone).kept k) ++ map token_value ts)
      (written_once b.network laid.wired p q c writes) values)

  pub new_printed : (line : Line) (p : ℕ) (ts : List Token) → line ≡ Print p →
      (seen_at (map seen_of b.cells) p).printed ≡ (slice_index_or b.gone p nothing_gone).printed ++ ts → AreNew (flow_of b plan said n) line ts
  new_printed line p ts e printed = new_by b plan said n ts e refl (ap (map token_value) printed ∙ map-append token_value (slice_index_or b.gone p nothing_gone).printed ts)

pub new_given : (b : Table) (plan : Plan) (said : Option Verdict) (line : Line) (c : ℕ) (ts : List Token) → line ≡ Channel c →
    channel_source (network_of b.network) c ≡ Given → HasLine (network_of b.network) b.watch line → AreLent b ts → AreNew (flow_of b plan said (length ts)) line ts
new_given b plan said line c ts e from here lent =
    let last = lent_here b ts lent c from (subst (HasLine (network_of b.network) b.watch) e here) in
    new_by b plan said (length ts) ts e from (last.1 ∙ ap (λ l. l ++ map token_value ts) (sym (front_of (inputs_of b.input c) last.0 ts last.1)))

-- nothing is, of an instance that let go of all that it kept
module _ (b : Table) (plan : Plan) (said : Option Verdict) (turned : Woken) (numbers : List NumberRange) (known : turned.known ≡ true) (spent : AreSpent b turned)
    (all : HoldNumbers (network_of b.network) (stream_lines (network_of b.network) b.watch) numbers) where
  stale_by : (s : Source) (c : Line) → ((p : ℕ) → s ≡ Written p → IsSpent b p) → given_so_far (run_of_bench b plan said) s c ≡ let_go_by b 0 s c
  stale_by Given (Channel c) h = sym (take_all (length (inputs_of b.input c) - 0) (inputs_of b.input c) (omega arith))
  stale_by (Written p) (Channel c) h = ap (map token_value) (sym ((h p refl).0 (writing (instance_at (network_of b.network) p).actuals c)))
  stale_by (Written p) (Print r) h = ap (map token_value) (sym (h p refl).1)
  stale_by s c h = refl

  pub stale : (from next : ℕ) → ((p j : ℕ) → IsWoken turned p → IsNumberOf numbers p j → from ≤ j → next ≤ j) → (j : ℕ) → from ≤ j → j < next → IsStale (flow_of b plan said 0) j
  stale from next least j le lt line at =
      stale_by (source (network_of b.network) line) line (λ p e. by p e (spent known p))
      ∙ sym (mapped (λ c. let_go_by b 0 (source (network_of b.network) c) c) (stream_lines (network_of b.network) b.watch) j line [] at)
    where
      by : (p : ℕ) → source (network_of b.network) line ≡ Written p → IsWoken turned p ⊎ IsSpent b p → IsSpent b p
      by p e (inl k) = let m = least p j k (all p j line at e) le in absurd (omega (arith, m, lt))
      by p e (inr k) = k

-- ---- what the type keeps

pub lent_same : (b d : Table) → d.network ≡ b.network → d.input ≡ b.input → d.watch ≡ b.watch → (ts : List Token) → AreLent b ts → AreLent d ts
lent_same b d n l w ts h c seen role =
    subst (λ (x : Lists). (front : List Value) × (inputs_of x c ≡ front ++ map token_value ts)) (sym l) (h c (sym w ∙ seen) (ap (λ t. role_at (network_of t) c) (sym n) ∙ role))

pub none_lent : (b : Table) (ts : List Token) → ts ≡ [] → AreLent b ts
none_lent b ts e c w role = (inputs_of b.input c, sym (append-nil (inputs_of b.input c)) ∙ ap (λ (l : List Token). inputs_of b.input c ++ map token_value l) (sym e))

numbers_same : (b d : Table) → d.network ≡ b.network → d.watch ≡ b.watch → (numbers : List NumberRange) → HoldNumbers (network_of b.network) (stream_lines (network_of b.network) b.watch) numbers →
    HoldNumbers (network_of d.network) (stream_lines (network_of d.network) d.watch) numbers
numbers_same b d n w numbers = subst (λ (k : Program × Option ℕ). HoldNumbers (network_of k.0) (stream_lines (network_of k.0) k.1) numbers) (λ i. (sym n i, sym w i))

-- also with other ends and other lent tokens
pub flow_stays : {t : Program} {plan : Plan} {b : Table} {budget room : ℕ} {ends : List End} {woken turned : Woken} {numbers : List NumberRange} {said : Option Verdict} {ts : List Token} →
    IsFlowOf t plan b budget room ends woken turned numbers said ts → (d : Table) →
    d.network ≡ b.network → d.watch ≡ b.watch → map seen_of d.cells ≡ map seen_of b.cells → (next : Option Verdict) → AreEnded (sight_of d) plan.bound budget ends next →
    (later : Woken) → AreNoted (sight_of d) later ends → (after : Woken) → AreSpent d after → (us : List Token) → AreLent d us → IsFlowOf t plan d budget room ends later after numbers next us
flow_stays {b = b} {budget = budget} {room = room} {numbers = numbers} f d network watch seen next ended later noted after spent us lent = record {
  network = network ∙ f.network;
  watch = watch ∙ f.watch;
  some = f.some;
  left = ap (λ cells. budget + sum_by seen_events cells) seen ∙ f.left;
  few = f.few;
  enough = subst (λ t. length (network_of t).instances ≤ room) (sym network) f.enough;
  ended = ended;
  noted = noted;
  spent = spent;
  numbered = numbers_same b d network watch numbers f.numbered;
  lent = lent;
}

pub emptied_state : (b d : Table) → HasEmptied b d → sight_of d ≡ sight_of b
emptied_state b d h = ap sight_of h.rest ∙ (λ i. record { network = network_of b.network; input = inputs_of b.input; watch = b.watch; cells = h.views i })

pub emptied_flow : (b d : Table) → HasEmptied b d → (plan : Plan) (said : Option Verdict) (n : ℕ) (ts : List Token) → ts ≡ [] →
    HasLetGo (flow_of b plan said n) (flow_of d plan said (length ts))
emptied_flow b d h plan said n ts e =
    let out : let_go_of d (length ts) ≡ map (so_far (run_of_bench b plan said)) (stream_lines (network_of b.network) b.watch) =
    ap (λ (l : List Token). let_go_of d (length l)) e ∙ all_let_go b plan said d h in
    λ i. record {
      run = record {
        network = (h.rest i).network;
        input = (h.rest i).input;
        watch = (h.rest i).watch;
        workers = plan.workers;
        quantum = plan.quantum;
        bound = plan.bound;
        cells = h.seen i;
        verdict = said;
      };
      out = out i;
      waits = map (λ w. w.waiting) (h.rest i).queues.queues;
    }

-- a part of it
module _ {t : Program} {plan : Plan} {b : Table} {budget room : ℕ} {last : List End} {woken turned : Woken} {numbers : List NumberRange} {said : Option Verdict} {ts : List Token}
    (f : IsFlowOf t plan b budget room last woken turned numbers said ts)
    (d : Table) (h : HasWorked b d) (more : ℕ) (below : more ≤ 281474976710655 - plan.bound) (r : PartEnd) (c : IsPartEnd d (all_events (sight_of b) + (budget + more)) r) where
  abbrev after : Plan
  after = record plan { bound = plan.bound + more }

  few : plan.bound + more < 2 ^ 48
  few = let m = f.few in omega (arith, below, m)

  whole : all_events (sight_of b) + (budget + more) ≡ plan.bound + more
  whole = let l = f.left in let s = events_seen b.cells in omega (arith, l, s)

  part_ended : AreEnded (sight_of d) (plan.bound + more) r.left r.ends.items (Some r.verdict)
  part_ended = (c.0, subst (λ n. IsConcluded (sight_of d) n r.left c.0 r.verdict r.ends.items) whole c.1)

  pub flow_after : length (network_of d.network).instances ≤ vec_capacity r.ends → (later : Woken) → AreNoted (sight_of d) later r.ends.items →
      (kept : Woken) → AreSpent d kept → IsFlowOf t after d r.left (vec_capacity r.ends) r.ends.items later kept numbers (Some r.verdict) ts
  flow_after enough later noted kept spent = record {
    network = h.network ∙ f.network;
    watch = h.watch ∙ f.watch;
    some = f.some;
    left = let l = c.1.last.total in let s = events_seen d.cells in omega (arith, l, s, whole);
    few = few;
    enough = enough;
    ended = part_ended;
    noted = noted;
    spent = spent;
    numbered = numbers_same b d h.network h.watch numbers f.numbered;
    lent = lent_same b d h.network h.input h.watch ts f.lent;
  }

  pub flowed_on : IsLaid b → IsLaid d → AllStandBy b.network b.watch b.cells → AllStandBy d.network d.watch d.cells → (n : ℕ) →
      IsRunOn more (flow_of b plan said n) (flow_of d after (Some r.verdict) n) r.verdict
  flowed_on laid later old new n = (
    (
      record {
        goes_on = worked_goes_on b d laid later old new h plan (plan.bound + more) said (Some r.verdict);
        input = h.input;
        bound = refl;
        few = few;
      },
      refl,
      settled_by part_ended.1,
    ),
    let_go_same b d h.network h.input h.watch b.gone h.gone n,
    λ e.
        let lacks = c.2 (subst (λ v. IsVerdict c.0 r.ends.items v) e c.1.rule) in
        let some_left = lacks.0 in
        let last = c.1.last in
        let l = last.total in
        let s = events_seen d.cells in
        let x = there r.ends.items lacks.1.0 (omega (arith, lacks.1.1, last.size, last.known)) in (
          omega (arith, some_left, l, s, whole),
          (
            r.ends.items,
            right_with d.network d.input d.watch after d.cells (Some r.verdict) part_ended.1,
            (lacks.1.0, x.0, x.1, wants_more (sight_of d) lacks.1.0 x.0 lacks.1.2 (last.ends lacks.1.0 x.0 x.1).0),
          ),
        ),
  )

-- a line of its streams
pub line_here : (b : Table) (plan : Plan) (said : Option Verdict) (line : Line) → IsLineOf (run_of_bench b plan said) line →
    HasLine (network_of b.network) b.watch line
line_here b plan said line (j, at) = has_line (network_of b.network) b.watch j line at
