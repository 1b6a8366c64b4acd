-- A worker in a turn.
use Rattle.kahn_crew.proofs.Common.{arith, ◌≡◌, ◌⊎◌, inl, inr, ⊎_elim, ℕ, ◌+◌, ◌-◌, ◌<◌, ◌≤◌, ◌^◌, List, length, refl, sym, ap, ◌∙◌, subst, Option, Some, None, slice_index, slice_set, Program, network_of, instance_at, actual_at, IsWellWired, Wires, Sat, InTurn, Becomes, Swaps, after_reporting, belongs, wired, Seat, Terms, SeatView, IsDelivered, Fits, HasPublished, HoldsInTurn, Knows, Run, IsTaskOf, CanRest, IsDue, Tasked, Continues, AgreesWith, IsLater, IsPublished, told_tale, written_by, HasTask, IsAtWork, IsTaskIn, StandsStill, terms_of, is_there}
use Rattle.kahn_crew.specs.declared.worker.Due.{Due}
use Rattle.kahn_crew.proofs.{Publishing.agrees_told, Wirings.instances_are}
use Rattle.kahn_crew.proofs.Resting.{agrees_known, agrees_later, agrees_with, continues_here, continues_still, fits_after, fits_still, is_published, sees_two, task_of}

-- what was in the slot of the instance is exchanged
pub swapped : (p n l : ℕ) (x y : Option Tasked) (s u : Seat Tasked) → Swaps s u p x y → HoldsInTurn p n l x s → HoldsInTurn p n l y u
swapped p n l x y s u e h = subst (λ (v : SeatView). InTurn p n l y (v, u.seat.me.1)) (sym e.1) record { mine = h.mine; alone = h.alone; slot = e.3; owed = h.owed; down = h.down; drawn = h.drawn; untold = h.untold }

-- the task is put back, and the events that it did are reported
pub put_down : (p n k : ℕ) (x : Tasked) (w : Wires) (s m u : Seat Tasked) → Swaps s m p None (Some x) → Becomes (after_reporting m.seat.me.0 k) m u → HoldsInTurn p n 0 None s →
    HoldsInTurn p (n - k) k (Some x) u × Knows w p s.seat.me.0 u.seat.me.0
put_down p n k x w s m u e f h =
    let t = swapped p n 0 None (Some x) s m e h in
    subst (λ (z : Sat Tasked). InTurn p (n - k) k (Some x) z × Knows w p s.seat.me.0 z.0) (sym f.1) (
      record { mine = t.mine; alone = t.alone; slot = t.slot; owed = t.owed; down = t.down; drawn = ap (λ j. j - k) t.drawn; untold = omega (arith, t.untold) },
      subst (λ (v : SeatView). Knows w p s.seat.me.0 v) (λ i. after_reporting (sym e.1 i) k) record { flushed = λ c _ _. refl; events_when_got = refl; seen = inl refl },
    )

module _ (run : Run) where
  abbrev key : Terms Tasked
  key = terms_of run

  abbrev t : Program
  t = key.network.value

  pub is_task : (p : ℕ) (x : Tasked) → p < (wired key).instances → belongs Continues key p x → IsTaskOf t p x
  is_task p x lt b = task_of key p x run.fits lt b

  -- its network and its input are those that are lent
  pub is_lent : (p : ℕ) (x : Tasked) → p < (wired key).instances → belongs Continues key p x →
      (run.network.now ≡ x.work.cell.network) × (run.input.now ≡ x.work.cell.input)
  is_lent p x lt b =
      let f = is_there key.cells.value.items p (omega (arith, run.fits.count, lt)) in
      (run.fits.network ∙ sym (is_task p x lt b).0, sym ((b f.0 f.1).input ∙ run.fits.given p f.0 f.1))

  -- it was run, by a seat that stands still
  pub ran : (p n k j : ℕ) (x z : Tasked) (s u : Seat Tasked) → IsAtWork run p n k x s → StandsStill s u → u.seat.table_id ≡ s.seat.table_id → Continues x z →
      z.published ≡ x.published → z.work.cell.events + k ≡ x.work.cell.events + j → j ≤ n → IsAtWork run p n j z u
  ran p n k j x z s u a still table l same more most = record {
    seated = table ∙ a.seated;
    inside = a.inside;
    few = subst (λ (g : List ℕ). slice_index g p + n < 2 ^ 48) (sym still.events_when_got) a.few;
    most = most;
    holds = still.holds p n 0 None a.holds;
    events = omega (arith, a.events, more, ap (λ (g : List ℕ). slice_index g p) still.events_when_got);
    agrees = subst (λ (f : List ℕ). AgreesWith z.work z.published f) (sym still.flushed) (agrees_later x z s.seat.me.0.flushed l same a.agrees);
    first = λ f e. continues_still f x z (a.first f e) l;
  }

  pub stood : (p n k : ℕ) (x : Tasked) (s u : Seat Tasked) → IsAtWork run p n k x s → StandsStill s u → u.seat.table_id ≡ s.seat.table_id → IsAtWork run p n k x u
  stood p n k x s u a still table = ran p n k k x x s u a still table (continues_here x) refl refl a.most

  -- it was run and flushed
  pub went : (p n : ℕ) (x y z : Tasked) (s u : Seat Tasked) → IsAtWork run p n 0 x s → StandsStill s u → u.seat.table_id ≡ s.seat.table_id →
      Continues x y → y.published ≡ x.published → (x.work.cell.events ≤ y.work.cell.events) × (y.work.cell.events ≤ x.work.cell.events + n) →
      Continues y z → z.published ≡ y.published → z.work.cell ≡ y.work.cell → IsAtWork run p n (z.work.cell.events - x.work.cell.events) z u
  went p n x y z s u a still table l same most l2 same2 cell =
      let events : z.work.cell.events ≡ y.work.cell.events = ap (λ v. v.events) cell in
      ran p n 0 (z.work.cell.events - x.work.cell.events) x z s u a still table (continues_still x y z l l2) (same2 ∙ same)
      (omega (arith, events, most)) (omega (arith, events, most))

  pub in_hand : (p n k : ℕ) (x : Tasked) (s : Seat Tasked) → IsAtWork run p n k x s → IsTaskIn run p x
  in_hand p n k x s a = (a.inside, is_task p x a.inside a.first, omega (arith, a.events, a.few, a.most))

  -- the same instances in the network that was lent, and in the code
  pub inside_lent : (p : ℕ) → p < (wired key).instances → p < length (network_of run.network.now).instances
  inside_lent p lt = subst (λ (k : Program). p < length (network_of k).instances) (sym run.fits.network) (omega (arith, lt, instances_are t))

  pub inside_code : (p : ℕ) → p < (wired key).instances → p < length (network_of run.code.now.network.value).instances
  inside_code p lt = subst (λ (k : Program). p < length (network_of k).instances) (sym run.fits.code) (omega (arith, lt, instances_are t))

  pub written_here : (p o : ℕ) (m : Option ℕ) → m ≡ written_by (network_of run.network.now) (actual_at (instance_at (network_of run.network.now) p) o) →
      written_by (network_of t) (actual_at (instance_at (network_of t) p) o) ≡ m
  written_here p o m e = subst (λ (k : Program). written_by (network_of k) (actual_at (instance_at (network_of k) p) o) ≡ m) run.fits.network (sym e)

module _ (run : Run) (well : IsWellWired (terms_of run).network.value) where
  -- events are drawn, or none are
  pub still_has : (p n : ℕ) (s u : Seat Tasked) → HasTask run p 0 s → u.seat.table_id ≡ s.seat.table_id → Knows (wired (key run)) p s.seat.me.0 u.seat.me.0 →
      ((x : Option Tasked) → HoldsInTurn p 0 0 x s → HoldsInTurn p n 0 x u) → slice_index u.seat.me.0.events_when_got p + n < 2 ^ 48 → HasTask run p n u
  still_has p n s u h same knows drawn few =
      let y = h.3.0 in
      let is = is_task run p y h.1 (λ z e. (h.3.2.belonging z e).continues) in
      let turn : HoldsInTurn p n 0 (Some y) u = drawn (Some y) h.3.1 in
      (same ∙ h.0, h.1, few, (y, turn, fits_still (t run) well (key run) p y s.seat.me.0 u.seat.me.0 is knows (turn.untold ∙ sym h.3.1.untold) h.3.2))

  -- the task is taken into the worker's hands
  pub taken : (p n : ℕ) (x : Tasked) (s u : Seat Tasked) (h : HasTask run p n s) → h.3.0 ≡ x → HoldsInTurn p n 0 None u → u.seat.table_id ≡ s.seat.table_id →
      u.seat.me.0 ≡ s.seat.me.0 → IsAtWork run p n 0 x u
  taken p n x s u h same turn table view =
      let v = s.seat.me.0 in
      let fits : Fits told_tale (belongs IsLater (key run)) (wired (key run)) p x v = subst (λ (k : Tasked). Fits told_tale (belongs IsLater (key run)) (wired (key run)) p k v) same h.3.2 in
      let first : belongs Continues (key run) p x = λ z e. (fits.belonging z e).continues in
      let published = is_published (key run) p x run.fits h.1 fits.belonging in
      let events : x.work.cell.events ≡ slice_index v.events_when_got p + v.untold = fits.events in
      record {
        seated = table ∙ h.0;
        inside = h.1;
        few = subst (λ (k : SeatView). slice_index k.events_when_got p + n < 2 ^ 48) (sym view) h.2;
        most = omega arith;
        holds = turn;
        events = subst (λ (k : SeatView). x.work.cell.events ≡ slice_index k.events_when_got p + 0) (sym view) (omega (arith, events, h.3.1.untold));
        agrees = subst (λ (k : SeatView). AgreesWith x.work x.published k.flushed) (sym view) (agrees_with (t run) well (key run) p x v (is_task run p x h.1 first) published fits);
        first = first;
      }

  -- a number was told
  pub told : (p n k o c j : ℕ) (x : Tasked) (s u : Seat Tasked) → IsAtWork run p n k x s → HoldsInTurn p n 0 None u → u.seat.table_id ≡ s.seat.table_id →
      HasPublished (wired (key run)) p c j s.seat.me.0 u.seat.me.0 → written_by (network_of (t run)) (actual_at (instance_at (network_of (t run)) p) o) ≡ Some c → o < length x.published →
      IsAtWork run p n k (record { work = x.work; standing = x.standing; published = slice_set x.published o j }) u
  told p n k o c j x s u a turn table tells written lt = record {
    seated = table ∙ a.seated;
    inside = a.inside;
    few = omega (arith, a.few, tells.events_when_got);
    most = a.most;
    holds = turn;
    events = omega (arith, a.events, tells.events_when_got);
    agrees = agrees_told (t run) well x p o c j s.seat.me.0 u.seat.me.0 (is_task run p x a.inside a.first) written lt tells a.agrees;
    first = λ f e. let l = a.first f e in record { network = l.network; input = l.input; instance = l.instance; watch = l.watch; ends = l.ends; events = l.events; still = l.still };
  }

  -- it is at home again, and may be set down as it is due
  pub can_rest : (p n k : ℕ) (x : Tasked) (due : Due) (s m u : Seat Tasked) → IsAtWork run p n k x s → ((o : ℕ) → IsPublished x o) → (s.seat.me.0.seen ≡ 2) ⊎ IsDelivered x.work →
      Swaps s m p None (Some x) → Becomes (after_reporting m.seat.me.0 k) m u → IsDue (wired (key run)) p x due → CanRest run p due u
  can_rest p n k x due s m u a published delivered e f is_due =
      let is = is_task run p x a.inside a.first in
      let d = put_down p n k x (wired (key run)) s m u e f a.holds in
      let turn = d.0 in
      let knows = d.1 in
      let v = s.seat.me.0 in
      let w = u.seat.me.0 in (
        f.0.0 ∙ (e.0.0 ∙ a.seated),
        (
          n - k,
          k,
          x,
          turn,
          fits_after (t run) well (key run) p x w is a.first (agrees_known (t run) well p x v w is knows a.agrees) published
              (⊎_elim (λ e. inl (sees_two v.seen w.seen knows.seen e)) (λ d. inr d) delivered) (omega (arith, a.events, knows.events_when_got, turn.untold)),
          is_due,
        ),
      )
