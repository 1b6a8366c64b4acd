-- What a line and a part make of a session.
use Rattle.kahn_session.proofs.Common.{◌≡◌, ◌∙◌, inl, inr, ℕ, Bool, false, List, map, Option, Result, Ok, Err, MatchResult, refl, sym, ap, subst, Appends, Value, HeldRun, IsRightSoFar, so_far, Flowing, flow_lines, Verdict, joined, HasLetGoBehind, form_text, is_uneven, news_of, next_of, row_count, HasAnswered, HasFedLine, HasRunPart, IsFedBy, IsTakenLine, IsUnfedBy, Live, OutBegins, breaks, pace_after, IsPart, Pace, Program}
use Rattle.kahn_streams.specs.declared.answer.End.{End}
use Rattle.kahn_session.specs.declared.refusal.TakeFault.{TakeFault}
use Rattle.kahn_session.specs.declared.refusal.TakeFault.TheVariants.{BadLine, BadRow, BadValue, Feed, NoMemory, NotUtf8, TooLong, Write}
use Rattle.kahn_session.proofs.Showing.{gone_begins, gone_run, news_fit}

-- a session with this run
abbrev pub live : Pace → Bool → List ℕ → ℕ → Live
live p broken columns shown = record { flow = p.flow; step = p.step; broken = broken; columns = columns; waits = p.waits; shown = shown }

-- ---- a line that is fed

network_fed : (line : List ℕ) (a b : Flowing) → IsFedBy line a b → b.run.network ≡ a.run.network
network_fed line a b (text, inl (blank, same)) = ap (λ (f : Flowing). f.run.network) same
network_fed line a b (text, inr (entry, is, poured)) = poured.goes_on.network

module _ {X : Type 0} (line : List ℕ) (o p : Pace) where
  -- the network stays, whether the line was fed or not
  pub network_stays : (r : Result X TakeFault) → MatchResult r (λ _. IsFedBy line o.flow p.flow) (λ f. (p ≡ o) × IsUnfedBy line o.flow f) → p.flow.run.network ≡ o.flow.run.network
  network_stays (Ok x) fed = network_fed line o.flow p.flow fed
  network_stays (Err f) (same, why) = ap (λ (a : Pace). a.flow.run.network) same

  -- a session that was fed, or wasn't
  pub fed_as : (broken : Bool) (columns : List ℕ) (shown : ℕ) (r : Result X TakeFault) → MatchResult r (λ _. IsFedBy line o.flow p.flow) (λ f. (p ≡ o) × IsUnfedBy line o.flow f)
      → p ≡ record o { flow = p.flow }
      → MatchResult r (λ _. HasFedLine line (live o broken columns shown) (live p broken columns shown)) (λ f. (live p broken columns shown ≡ live o broken columns shown) × IsUnfedBy line o.flow f)
  fed_as broken columns shown (Ok x) fed rest = record { fed = fed; rest = ap (λ (a : Pace). live a broken columns shown) rest }
  fed_as broken columns shown (Err f) (same, why) rest = (ap (λ (a : Pace). live a broken columns shown) same, why)

-- a line that isn't fed is refused
pub refused : (line : List ℕ) (old new : Live) (before after : Option (List ℕ)) (f : TakeFault) → new ≡ old → after ≡ before → IsUnfedBy line old.flow f
    → IsTakenLine line old new before after (Err f)
refused line old new before after TooLong same text why = record { same = same; text = text; why = why }
refused line old new before after NotUtf8 same text why = record { same = same; text = text; why = why }
refused line old new before after BadLine same text why = record { same = same; text = text; why = why }
refused line old new before after BadValue same text why = record { same = same; text = text; why = why }
refused line old new before after BadRow same text why = absurd why
refused line old new before after (Feed f) same text why = record { same = same; text = text; why = why }
refused line old new before after NoMemory same text why = record { same = same; text = text; why = why }
refused line old new before after (Write f) same text why = absurd why

-- and its session isn't broken
pub unbroken : (line : List ℕ) (h : Flowing) (f : TakeFault) → IsUnfedBy line h f → breaks f ≡ false
unbroken line h TooLong why = refl
unbroken line h NotUtf8 why = refl
unbroken line h BadLine why = refl
unbroken line h BadValue why = refl
unbroken line h BadRow why = refl
unbroken line h (Feed f) why = refl
unbroken line h NoMemory why = refl
unbroken line h (Write f) why = absurd why

-- ---- a part

module _ (o q : Pace) (v : Verdict) (part : IsPart o q v) where
  -- what is there after the part
  pub after_is : (r : Pace) → r.flow ≡ record q.flow { out = r.flow.out } → r.step ≡ q.step → record { flow = record r.flow { out = o.flow.out }; waits = o.waits; step = r.step } ≡ q
  after_is r flow step =
      ap (λ (f : Flowing). record { flow = record f { out = o.flow.out }; waits = o.waits; step = r.step }) flow
      ∙ ap (λ (l : List (List Value)). record { flow = record q.flow { out = l }; waits = o.waits; step = r.step }) (sym part.run.out)
      ∙ ap (λ (w : List (List Value)). record { flow = q.flow; waits = w; step = r.step }) (sym part.run.waits)
      ∙ ap (λ (n : ℕ). record { flow = q.flow; waits = q.waits; step = n }) step

  module _ (columns : List ℕ) (broken : Bool) (shown : ℕ) (ends : List End) (right : IsRightSoFar q.flow.run v ends) (begun : OutBegins q.flow) where
    -- the part has a verdict
    pub answered : (r : Pace) → r.flow ≡ record q.flow { out = r.flow.out } → r.step ≡ q.step → (torn : Bool) (left : ℕ)
        → HasAnswered (live o broken columns shown) (live r torn columns left) v
    answered r flow step torn left =
        subst (λ (f : Flowing). HasAnswered (live o broken columns shown) (live (record r { flow = f }) torn columns left) v) (sym flow)
        (record {
          gone_on = record { input = part.run.input; goes_on = part.run.goes_on; step = step ∙ part.run.step; columns = refl };
          bound = part.run.bound;
          verdict = part.settled;
          ends = (ends, right);
          exact = part.exact;
          joined = subst (λ (l : List (List Value)). joined l (news_of (record q.flow { out = l })) ≡ map (so_far q.flow.run) (flow_lines q.flow.run)) part.run.out (news_fit q.flow begun);
        })

    -- and what is new went out
    pub went : (count : ℕ) → count ≡ row_count (next_of q) columns → (r : Pace) (left : ℕ) → HasLetGoBehind count columns q r left → (before after : Option (List ℕ))
        → Appends before after (form_text columns shown q.flow.run.network q) → HasRunPart (live o broken columns shown) (live r broken columns left) before after v
    went count counted r left gone before after text =
        let run = gone_run count columns q r left (is_uneven (next_of q) count columns) gone in
        let same = after_is r run.0 run.1 in
        record {
          answered = answered r run.0 run.1 broken left;
          gone = subst (λ (a : Pace). HasLetGoBehind (row_count (next_of a) columns) columns a r left) (sym same) (subst (λ n. HasLetGoBehind n columns q r left) counted gone);
          begun = gone_begins count columns q r left (is_uneven (next_of q) count columns) gone begun;
          text = subst (λ (f : Flowing). Appends before after (form_text columns shown f.run.network (pace_after (live o broken columns shown) (live r broken columns left)))) (sym run.0)
              (subst (λ (a : Pace). Appends before after (form_text columns shown q.flow.run.network a)) (sym same) text);
        }
