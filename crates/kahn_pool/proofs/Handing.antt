-- Jobs that go on from where the cells of a bench stand.
use Rattle.kahn_pool.proofs.Common.{arith, false, zero, suc, refl, [], ◌∷◌, ◌⊎◌, inl, inr, ◌<◌, ◌≤◌, ◌^◌, ◌≡◌, ℕ, ◌+◌, List, length, map, sym, ap, ◌∙◌, subst, Some, slice_get, slice_index_or, replicate, sum_by, AreCounts, AreWhole, Lists, cell_for, seated_with, vacant_of, HaveFewTokens, AreQueued, MayRun, Round, RunState, View, cases_lt, events_at, given_of, length-map, prefix_refl, none_of, network_of, instance_at, actual_at, role_at, Actual, Reads, Writes, is_output, AreInputsExtended, inputs_of, CellView, Gone, nothing_gone, Tapped, IsIdle, AreJobsAt, AreSamePlaces, StandsByQueue, cells_of, rows_of, row_there, settled_rest, end_at, end_in, Work, AllStandBy, AreHeld, HaveSettled, view_events, told_view, IsLaid, Table, all_events, gone_in, sight_of, get_map, no_view, one_of_sum, mapped, actual_same, seated_at, sent_there, taken_there, viewed, events_seen, IsServed, slice_get_past}
use Rattle.kahn_sequential.proofs.Turns.{turn_bound}
use Rattle.kahn_streams.proofs.Sided.{channel_served}

-- a tap let go of nothing
pub none_gone : (taps : List Tapped) (n : ℕ) → map gone_in taps ≡ replicate n nothing_gone → (p : ℕ) (x : Tapped) → slice_get taps p ≡ Some x → x.gone ≡ nothing_gone
none_gone taps n e p x at = sym (mapped gone_in taps p x nothing_gone at) ∙ ap (λ (gs : List Gone). slice_index_or gs p nothing_gone) e ∙ none_of n p nothing_gone

module _ (b : Table) (laid : IsLaid b) (ws : List Work) (jobs : AreJobsAt b.network b.input b.queues.queues ws) where
  -- the taps are those of the instances of the jobs
  pub same_places : AreSamePlaces (cells_of ws) b.cells
  same_places p c d of_c of_d =
      let j = jobs.each p c of_c in
      let s = laid.each p d of_d in
      (s.network ∙ sym j.0, s.instance ∙ sym j.1)

  module _ (us : List Work) (rows : rows_of us ≡ rows_of ws) (cells : cells_of us ≡ b.cells) where
    stands : (p q : ℕ) (a : Actual) → actual_at (instance_at (network_of b.network) p) q ≡ a → StandsByQueue b.network b.queues.queues a (end_in (rows_of us) p q)
    stands p q a e = subst (λ a. StandsByQueue b.network b.queues.queues a (end_in (rows_of us) p q)) e
        (subst (λ rs. StandsByQueue b.network b.queues.queues (actual_at (instance_at (network_of b.network) p) q) (end_in rs p q)) (sym rows) (jobs.at p q))

    one_idle : (p : ℕ) (w : Work) → slice_get us p ≡ Some w → IsIdle b.network b.input p w
    one_idle p w e =
        let s = laid.each p w.cell (subst (λ cs. slice_get cs p ≡ Some w.cell) cells (get_map (λ (w : Work). w.cell) us p w e)) in
        let next : (q : ℕ) → (end_at w.ends q).next ≡ (end_in (rows_of us) p q).next = λ q. ap (λ es. (end_at es q).next) (sym (row_there us p w e)) in
        record {
          network = s.network;
          grown = subst (λ l. AreInputsExtended (inputs_of l) (inputs_of b.input)) (sym s.input) (λ c. prefix_refl (inputs_of b.input c));
          instance = s.instance;
          at = record {
            reads = λ q d i.
                let here = sym (actual_same b laid p q w.cell s) ∙ i in
                next q ∙ stands p q (Reads d) here ∙ taken_there b laid p q d w.cell s here;
            writes = λ q d i inner.
                let here = sym (actual_same b laid p q w.cell s) ∙ i in
                let own = ap (λ t. is_output (role_at (network_of t) d)) (sym s.network) ∙ inner in
                next q ∙ stands p q (Writes d) here own ∙ sent_there b laid p q d w.cell s here own;
          };
        }

    many : length us ≡ length (network_of b.network).instances
    many = sym (length-map us (λ (w : Work). w.cell)) ∙ ap (λ (l : List CellView). length l) cells ∙ laid.count

    pub handed : AllStandBy b.network b.watch b.cells → (left : ℕ) → AreHeld b.network b.input b.watch (left + all_events (sight_of b)) us left
    handed stood left = record {
      idle = record {
        count = many;
        each = one_idle;
        resting = settled_rest b.network b.input (rows_of us) (length-map us (λ (w : Work). w.ends) ∙ many) (subst (HaveSettled b.network b.input) (sym rows) jobs.settled);
      };
      watched = λ p c at. (laid.each p c (subst (λ cs. slice_get cs p ≡ Some c) cells at)).watch;
      stood = subst (AllStandBy b.network b.watch) (sym cells) stood;
      events = ap (λ n. left + n) (events_seen (cells_of us) ∙ ap (λ cs. sum_by view_events (map told_view cs)) cells);
    }

-- what an instance wrote it sent, by an event each
module _ (b : Table) (laid : IsLaid b) (counted : AreQueued b.queues) (counts : (p : ℕ) (c : CellView) → slice_get b.cells p ≡ Some c → AreCounts c) (few : (p : ℕ) → events_at (sight_of b) p < 2 ^ 48) where
  few_written : (p q d : ℕ) → p < length (network_of b.network).instances → actual_at (instance_at (network_of b.network) p) q ≡ Writes d →
      is_output (role_at (network_of b.network) d) ≡ false → given_of (slice_get b.queues.queues d) ≤ 2 ^ 48
  few_written p q d here e inner =
      let c = seated_at b laid p here in
      let sent = sent_there b laid p q d c.0 c.2 e inner in
      let most = (counts p c.0 c.1).sent_few q d (actual_same b laid p q c.0 c.2 ∙ e) in
      let events : events_at (sight_of b) p ≡ c.0.events = ap (λ (v : View). v.events) (viewed b laid p c.0 c.1) in
      let all = few p in
      omega (arith, sent, most, events, all)

  pub few_given : HaveFewTokens b.network b.queues.queues
  few_given d inner = by (cases_lt d (length (network_of b.network).channels))
    where
      by : (d < length (network_of b.network).channels) ⊎ (length (network_of b.network).channels ≤ d) → given_of (slice_get b.queues.queues d) ≤ 2 ^ 48
      by (inl lt) =
          let w = (subst (IsServed (network_of b.network) d) inner (channel_served b.network laid.wired d lt)).0 in
          few_written w.0.instance w.0.parameter d w.1.0.0.0 w.1.0.1 (ap is_output inner)
      by (inr past) =
          let n = counted.count ∙ ap (λ t. length (network_of t).channels) laid.network in
          let none = ap given_of (slice_get_past b.queues.queues d (omega (arith, past, n))) in
          omega (arith, none)

-- a run that may go on has done few events
pub few_events : (s : RunState) (r : Round) → MayRun s r → (p : ℕ) → events_at s p < 2 ^ 48
few_events s r may p = let most = turn_bound s r p may in omega (arith, most)

-- one that did none too
pub few_first : (s : RunState) → all_events s ≡ 0 → (p : ℕ) → events_at s p < 2 ^ 48
few_first s none p = let most = one_of_sum view_events s.cells p no_view refl in omega (arith, most, none)

-- the cells of this input for this input
same_input : (lists : Lists) (cells : List CellView) → ((p : ℕ) (c : CellView) → slice_get cells p ≡ Some c → c.input ≡ lists) → map (cell_for lists) cells ≡ cells
same_input lists [] h = refl
same_input lists (c ∷ cells) h =
    ap (λ (d : CellView). d ∷ map (cell_for lists) cells) (λ i. record c { input = sym (h zero c refl) i }) ∙ ap (λ l. c ∷ l) (same_input lists cells (λ p d e. h (suc p) d e))

-- a bench whose cells came back as they were, for its input
pub seated_again : (b : Table) → IsLaid b → AreWhole (length (network_of b.network).instances) b.gone → (lists : Lists) → b.input ≡ lists → (v : Table) → v ≡ vacant_of b →
    (cells : List CellView) → cells ≡ map (cell_for lists) b.cells → seated_with v cells ≡ b
seated_again b laid whole lists to v is cells came = ap (λ (v : Table). seated_with v cells) is ∙ λ i. record b { cells = same i; gone = gone i }
  where
    same : cells ≡ b.cells
    same = came ∙ same_input lists b.cells (λ p d e. (laid.each p d e).input ∙ to)

    gone : replicate (length cells) nothing_gone ≡ b.gone
    gone = ap (λ n. replicate n nothing_gone) (ap (λ (l : List CellView). length l) same ∙ laid.count) ∙ sym whole
