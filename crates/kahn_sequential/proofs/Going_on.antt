-- Cells that have done no fewer events: their streams have grown.
use Rattle.kahn_sequential.proofs.Common.{arith, ◌≡◌, ◌⊎◌, inl, inr, ℕ, zero, suc, ◌≤◌, List, [], ◌∷◌, length, map, refl, sym, subst, Option, Some, slice_get, slice_index_or, Program, Line, Source, Given, Written, Nobody, network_of, instance_at, Channel, Print, AreInputsExtended, IsPrefix, source, inputs_of, prefix_refl, begins_nil, token_value, CellView, told_view, GoesOn, HeldRun, Seen, seen_at, seen_of, unseen, given_so_far, so_far, writing, AllStandBy, HaveRisen}
use Rattle.kahn_sequential.proofs.{Benched.got, Benched.mapped, Benched.within_get, Growing.kept_grows, Growing.printed_grows}

-- more is seen of a process later on: no fewer events, and what it kept and printed has grown
pub record Grows (x y : Seen) : Type 0 where
  pub events : x.events ≤ y.events
  pub kept : (q : ℕ) → IsPrefix (map token_value (slice_index_or x.kept q [])) (map token_value (slice_index_or y.kept q []))
  pub printed : IsPrefix (map token_value x.printed) (map token_value y.printed)

pub grows_not : (x : Seen) → Grows x x
grows_not x = record { events = omega arith; kept = λ q. prefix_refl (map token_value (slice_index_or x.kept q [])); printed = prefix_refl (map token_value x.printed) }

-- the cell of an instance, or there is none
there_or : (cells : List CellView) (p : ℕ) → ((c : CellView) × (slice_get cells p ≡ Some c)) ⊎ (seen_at (map seen_of cells) p ≡ unseen)
there_or [] p = inr refl
there_or (c ∷ cells) zero = inl (c, refl)
there_or (c ∷ cells) (suc p) = there_or cells p

pub seen_grows : (t : Program) (watch : Option ℕ) (cells later : List CellView) → length later ≡ length cells → AllStandBy t watch cells → AllStandBy t watch later →
    HaveRisen cells later → (p : ℕ) → Grows (seen_at (map seen_of cells) p) (seen_at (map seen_of later) p)
seen_grows t watch cells later count old new risen p = by (there_or cells p)
  where
    by : ((c : CellView) × (slice_get cells p ≡ Some c)) ⊎ (seen_at (map seen_of cells) p ≡ unseen) → Grows (seen_at (map seen_of cells) p) (seen_at (map seen_of later) p)
    by (inl (c, e)) =
        let (d, f) = got later p (omega (arith, within_get cells p c e, count)) in
        let x = risen p c d e f in
        let more : Grows (seen_of c) (seen_of d) = record {
          events = x.events;
          kept = kept_grows (network_of t) (inputs_of c.input) (inputs_of d.input) x.input watch p (told_view c) (told_view d) (old p c e) (new p d f) x.events;
          printed = printed_grows (network_of t) (inputs_of c.input) (inputs_of d.input) x.input watch p (told_view c) (told_view d) (old p c e) (new p d f) x.events;
        } in
        subst (λ z. Grows z (seen_at (map seen_of later) p)) (sym (mapped seen_of cells p c unseen e)) (subst (Grows (seen_of c)) (sym (mapped seen_of later p d unseen f)) more)
    by (inr n) =
        subst (λ z. Grows z (seen_at (map seen_of later) p)) (sym n)
        (record { events = omega arith; kept = λ q. begins_nil (map token_value (slice_index_or (seen_at (map seen_of later) p).kept q [])); printed = begins_nil (map token_value (seen_at (map seen_of later) p).printed) })

pub goes_on : (a b : HeldRun) → b.network ≡ a.network → b.watch ≡ a.watch → b.workers ≡ a.workers → b.quantum ≡ a.quantum → AreInputsExtended (inputs_of a.input) (inputs_of b.input) →
    ((p : ℕ) → Grows (seen_at a.cells p) (seen_at b.cells p)) → GoesOn a b
goes_on a b network watch workers quantum grown seen = record {
  network = network;
  watch = watch;
  workers = workers;
  quantum = quantum;
  input = grown;
  streams = λ c. subst (λ t. IsPrefix (so_far a c) (so_far (record b { network = t }) c)) (sym network) (by (source (network_of a.network) c) c);
  events = λ p. (seen p).events;
}
  where
    by : (s : Source) (c : Line) → IsPrefix (given_so_far a s c) (given_so_far (record b { network = a.network }) s c)
    by Given (Channel c) = grown c
    by Given (Print r) = prefix_refl []
    by (Written p) (Channel c) = (seen p).kept (writing (instance_at (network_of a.network) p).actuals c)
    by (Written p) (Print r) = (seen p).printed
    by Nobody c = prefix_refl []
