-- A held run goes on: its streams grow, and no instance has fewer events.
use Rattle.kahn_pool.proofs.Common.{◌≡◌, ℕ, ◌+◌, ◌<◌, ◌^◌, List, length, map, refl, sym, ap, ◌∙◌, subst, Bool, Option, Some, None, Ok, Err, arith, ◌≤◌, ◌-◌, [], slice_index_or, length-map, Program, Line, IsRight, stream_lines, Source, Given, Written, Nobody, network_of, IsWellWired, Token, Channel, Print, AreInputsExtended, source, Lists, inputs_of, prefix_refl, token_value, cells_of, NoMemory, NoThread, Plan, Stopped, Work, AreStreams, IsConcluded, IsFrom, GoesOn, HasResumed, HeldRun, IsAnswerOf, IsResumed, Seen, given_so_far, seen_at, seen_of, HasStopped, IsHolding, held_state, run_of, told_view, Answer, Verdict, End, written_once, seen_there, settled_by}
use Rattle.kahn_pool.proofs.Held_jobs.{ended_alike, held_again, held_grown, same_seen}
use Rattle.kahn_sequential.proofs.Going_on.{goes_on, grows_not, seen_grows}

module _ (t : Program) (lists : Lists) (plan : Plan) (ws : List Work) (verdict : Option Verdict) where
  abbrev held : HeldRun
  held = run_of t lists plan ws verdict

  so_far_in : IsWellWired t → (s : Source) (c : Line) (ts : List Token) → IsFrom (network_of t) (inputs_of lists) plan.watch (map told_view (cells_of ws)) s c ts → map token_value ts ≡ given_so_far held s c
  so_far_in wired Given (Channel c) ts h = h.values
  so_far_in wired Given (Print r) ts h = absurd h
  so_far_in wired (Written p) (Channel c) ts (q, w, s, e) =
      ap (map token_value) (e ∙ (seen_there (cells_of ws) p).1 q) ∙ ap (λ k. map token_value (slice_index_or (seen_at held.cells p).kept k [])) (written_once t wired p q c w)
  so_far_in wired (Written p) (Print r) ts h = ap (map token_value) (h ∙ (seen_there (cells_of ws) p).2)
  so_far_in wired Nobody c ts h = absurd h

  pub answer_is : IsWellWired t → {budget : ℕ} {halted : Bool} (a : Answer) → IsConcluded (held_state t lists plan.watch ws) plan.bound budget halted a.verdict a.ends.items →
      AreStreams (held_state t lists plan.watch ws) a.streams.items (stream_lines (network_of t) plan.watch) → verdict ≡ Some a.verdict →
      IsRight (network_of t) (inputs_of lists) plan.bound plan.watch a → IsAnswerOf held a
  answer_is wired a c streams v right = record {
    right = right;
    verdict = v;
    streams = λ s h. so_far_in wired (source (network_of t) s.line) s.line s.tokens.items (streams.each h.0 s h.1);
    events = λ p x h. ((c.last.ends p x h).0).count ∙ (seen_there (cells_of ws) p).0;
  }

-- ---- what a held run keeps

module _ (t : Program) {compiled : Program} (lists : Lists) (plan : Plan) (ws : List Work) {budget : ℕ}
    {ends : List End} (verdict : Option Verdict) (h : IsHolding t compiled lists plan ws budget ends verdict) where
  abbrev held_run : ℕ → List Work → Option Verdict → HeldRun
  held_run total vs next = run_of t lists (record plan { bound = total }) vs next

  -- more input
  module _ (after : Lists) (grown : AreInputsExtended (inputs_of lists) (inputs_of after)) where
    pub holding_fed : length after ≡ length lists → IsHolding t compiled after plan ws budget ends None
    holding_fed size = record {
      code = h.code;
      fits = size ∙ h.fits;
      few = h.few;
      held = held_grown h.held after grown;
      ended = tt;
    }

    pub goes_on_fed : GoesOn (held_run plan.bound ws verdict) (run_of t after plan ws None)
    goes_on_fed = goes_on (held_run plan.bound ws verdict) (run_of t after plan ws None) refl refl refl refl grown (λ p. grows_not (seen_at (map seen_of (cells_of ws)) p))

  -- a part with so many events more
  module _ (more : ℕ) {us : List Work} {r : Stopped} (part : HasStopped t lists plan.watch plan.workers (plan.bound + more) us (budget + more) r) (same : us ≡ ws)
      (below : more ≤ 281474976710655 - plan.bound) where
    s : HasStopped t lists plan.watch plan.workers (plan.bound + more) ws (budget + more) r
    s = subst (λ l. HasStopped t lists plan.watch plan.workers (plan.bound + more) l (budget + more) r) same part

    pub few : plan.bound + more < 2 ^ 48
    few = let b = h.few in omega (arith, below, b)

    pub resumed : (next : Option Verdict) → HasResumed more (held_run plan.bound ws verdict) (held_run (plan.bound + more) r.idles.items next)
    resumed next = record {
      goes_on = goes_on (held_run plan.bound ws verdict) (held_run (plan.bound + more) r.idles.items next) refl refl refl refl (λ c. prefix_refl (inputs_of lists c))
          (seen_grows t plan.watch (cells_of ws) (cells_of r.idles.items) count h.held.stood s.held.stood s.risen);
      input = refl;
      bound = refl;
      few = few;
    }
      where
        count : length (cells_of r.idles.items) ≡ length (cells_of ws)
        count = length-map r.idles.items (λ (w : Work). w.cell) ∙ s.held.idle.count ∙ sym (length-map ws (λ (w : Work). w.cell) ∙ h.held.idle.count)

    pub resumed_ok : (v : Verdict) → r.outcome ≡ Ok v → IsResumed more (held_run plan.bound ws verdict) (held_run (plan.bound + more) r.idles.items (Some v)) v
    resumed_ok v e = let c = rw e at s.outcome in (resumed (Some v), refl, settled_by c.1)

    pub still_holding : r.outcome ≡ Err NoMemory → IsHolding t compiled lists plan r.idles.items budget ends verdict
    still_holding e =
        let u = s.untouched e in
        record {
          code = h.code;
          fits = h.fits;
          few = h.few;
          held = held_again s.held more plan.bound budget refl (sym u.0);
          ended = ended_alike r.idles.items ws u.1 t lists plan.watch plan.bound budget ends verdict h.ended;
        }

    pub still_same : r.outcome ≡ Err NoMemory → held_run plan.bound r.idles.items verdict ≡ held_run plan.bound ws verdict
    still_same e =
        ap (λ (cs : List Seen). record { network = t; input = lists; watch = plan.watch; workers = plan.workers; quantum = plan.quantum; bound = plan.bound; cells = cs; verdict = verdict })
        (same_seen r.idles.items ws (s.untouched e).1)

    pub several : r.outcome ≡ Err NoThread → 1 < plan.workers
    several e = rw e at s.outcome
