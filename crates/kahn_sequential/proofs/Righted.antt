-- A run with these cells is right so far: what its streams have are the tapes of the right answer.
use Rattle.kahn_sequential.proofs.Common.{arith, ◌≡◌, ℕ, zero, suc, ◌+◌, Bool, List, [], ◌∷◌, map, sum_by, refl, sym, ap, ◌∙◌, subst, Option, slice_index_or, ◌-◌, Program, Line, Schema, Source, Given, Written, Nobody, network_of, Channel, Print, Inputs, IsWhole, source, Lists, inputs_of, token_value, CellView, told_view, Settles, AreRight, HeldRun, IsLineOf, IsRightSoFar, given_so_far, so_far, writing, Plan, instance_at, seen_at, seen_events, seen_of, RunState, view_events, IsConcluded, view_at, Verdict, unseen, IsRight, stream_lines, Answer, AreStreams, run_with, End}
use Rattle.kahn_sequential.proofs.{Assembling.are_right, Assembling.kept_values, Assembling.nobodys_values, Assembling.printed_values, Assembling.whole_tapes, Assembling.assembled, Sizes.settles_ends, Lists.sum_over, Lists.one_of_sum, Lists.same_writer, Named.HasLine, Named.has_line, Once_written.wrote}

-- the verdict of a part goes by the size of the solution
pub settled_by : {s : RunState} {bound left : ℕ} {halted : Bool} {v : Verdict} {ends : List End} → IsConcluded s bound left halted v ends → Settles s.network s.input bound v
settled_by c = settles_ends (are_right _ c c.last.total)

-- an answer that is put together from them is right
pub answer_right : {s : RunState} {bound left : ℕ} {halted : Bool} (a : Answer) → IsConcluded s bound left halted a.verdict a.ends.items →
    AreStreams s a.streams.items (stream_lines s.network s.watch) → a.events ≡ bound - left → IsRight s.network s.input bound s.watch a
answer_right a c streams e = let t = c.last.total in assembled a c streams (omega (arith, t, e))

-- the events that contracts see are those of the cells
pub events_seen : (cells : List CellView) → sum_by seen_events (map seen_of cells) ≡ sum_by view_events (map told_view cells)
events_seen cells = sum_over seen_events seen_of cells ∙ sym (sum_over view_events told_view cells)

-- where there are none, no process has any
pub none_done : (cells : List CellView) → sum_by seen_events (map seen_of cells) ≡ 0 → (p : ℕ) → (seen_at (map seen_of cells) p).events ≡ 0
none_done cells none p = let m = one_of_sum seen_events (map seen_of cells) p unseen refl in omega (arith, m, none)

-- what is seen of a cell is what its view says
pub seen_there : (cells : List CellView) (p : ℕ) →
    ((view_at (map told_view cells) p).events ≡ (seen_at (map seen_of cells) p).events)
    × ((q : ℕ) → (view_at (map told_view cells) p).kept q ≡ slice_index_or (seen_at (map seen_of cells) p).kept q [])
    × ((view_at (map told_view cells) p).printed ≡ (seen_at (map seen_of cells) p).printed)
seen_there [] p = (refl, λ q. refl, refl)
seen_there (c ∷ cells) zero = (refl, λ q. refl, refl)
seen_there (c ∷ cells) (suc p) = seen_there cells p

module _ (t : Program) (lists : Lists) (watch : Option ℕ) (plan : Plan) (cells : List CellView) (verdict : Option Verdict) where
  abbrev N : Schema
  N = network_of t

  abbrev I : Inputs
  I = inputs_of lists

  abbrev state : RunState
  state = record { network = N; input = I; watch = watch; cells = map told_view cells }

  abbrev run : HeldRun
  run = run_with t lists watch plan cells verdict

  abbrev done : ℕ
  done = sum_by seen_events run.cells

  module _ {left : ℕ} {halted : Bool} {v : Verdict} {ends : List End} (c : IsConcluded state plan.bound left halted v ends) where
    sum : done + left ≡ plan.bound
    sum = ap (λ n. n + left) (events_seen cells) ∙ c.last.total

    abbrev right : AreRight N I plan.bound v ends done
    right = are_right done c sum

    by_source : (s : Source) (d : Line) → source N d ≡ s → HasLine N watch d → given_so_far run s d ≡ right.tapes d
    by_source Given (Channel d) f here = sym (right.inputs (Channel d) f)
    by_source Given (Print r) f here = absurd cc
    by_source (Written p) (Channel d) f here =
        let q = writing (instance_at N p).actuals d in
        ap (map token_value) (sym ((seen_there cells p).1 q)) ∙ kept_values done c sum p q d f (wrote N p d f) here.1
    by_source (Written p) (Print r) f here =
        subst (λ x. map token_value (seen_at run.cells p).printed ≡ right.tapes (Print x)) (sym (same_writer f))
        (ap (map token_value) (sym ((seen_there cells p).2)) ∙ printed_values done c sum p)
    by_source Nobody d f here = sym (nobodys_values done c sum d f)

    values : (d : Line) → IsLineOf run d → so_far run d ≡ right.tapes d
    values d (j, at) = by_source (source N d) d refl (has_line N watch j d at)

    pub right_with : IsRightSoFar run v ends
    right_with = record {
      right = right;
      values = values;
      whole = λ f d here. subst (IsWhole N I d) (sym (values d here)) (whole_tapes done c sum f d);
      events = λ p x h. ((c.last.ends p x h).0).count ∙ (seen_there cells p).0;
    }
