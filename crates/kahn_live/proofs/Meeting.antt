-- What lines make, one after the other.
use Rattle.kahn_live.proofs.Common.{[], ◌≡◌, ◌∙◌, inl, inr, ℕ, zero, suc, take, subst, Bool, true, false, true≢false, List, None, Some, Option, Result, Ok, Err, IfOk, is_err, MatchResult, append-nil, refl, sym, ap, Keeps-refl, ◌||◌, Appends, Verdict, AppendsFront, Writes, Fault, HasRunPart, HasVerdict, IsTakenLine, Live, breaks, TakeFault, WasAnswered, WasFed, HasSent, HasWaited, AreCellsMet, AreFedIn, AreFedUpTo, IsAnswerTold, IsRefused, IsTornOff, IsUnfedBy, IsWriteFault, Keeps, no_memory, IsLineMet, IsNewFault, IsPartMet, IsPartTold, Point, LiveTelling, AreLikeTold, WasSaid, is_verdict_new, IsCome, IsSource, IsNextLine, Next, Line, End, Failed, NoMemory}
use Rattle.kahn_streams.specs.declared.value.Failure.{Failure}
use Rattle.kahn_session.specs.{Refusals.like_words, declared.refusal.Origin.TheVariants.File}
use Rattle.std.specs.Prelude.{codes, decimal, ◌==◌, ◌∷◌, ◌⊎◌}

-- what the session made of a line, where no byte more went out since
fed_since : (line : List ℕ) (answer : Result Verdict TakeFault) (old mid new : Point) → IsTakenLine line old.session mid.session old.out mid.out answer → HasWaited mid new
    → WasFed line answer old new
fed_since line answer old mid new taken (same, kept) = (mid.out, rw (sym same) at taken, kept)

-- a line that was fed, and what is told of it
pub line_met : (number : ℕ) (line : List ℕ) (answer : Result Verdict TakeFault) (old mid new : Point) (r : Result (Option TakeFault) Fault) → mid.told ≡ old.told
    → IsTakenLine line old.session mid.session old.out mid.out answer → IsAnswerTold number line answer mid new r → IsLineMet number line old new r
line_met number line answer old mid new (Ok None) quiet taken ((v, is), told, waited) =
    (v, (rw (quiet, is) at told, rw is at (fed_since line answer old mid new taken waited)))
line_met number line answer old mid new (Ok (Some f)) quiet taken (is, told, waited) = (rw (quiet, is) at told, rw is at (fed_since line answer old mid new taken waited))
line_met number line answer old mid new (Err fault) quiet taken (why, (still, waited)) =
    (why, still ∙ quiet, inr (answer, fed_since line answer old mid new taken waited))

-- a part of a line that was taken has a verdict
pub settled_by : (line : List ℕ) (old new : Live) (before after : Option (List ℕ)) (answer : Result Verdict TakeFault) → IsTakenLine line old new before after answer
    → MatchResult answer (λ _. new.broken ≡ false) (λ f. new.broken ≡ breaks f) → IfOk answer (λ _. HasVerdict new)
settled_by line old new before after (Ok v) (fed, of, shown) whole = (whole, (v, shown.answered.verdict))
settled_by line old new before after (Err f) taken whole = tt

-- a session is whole after a line that was told of
pub still_whole : (number : ℕ) (line : List ℕ) (answer : Result Verdict TakeFault) (mid new : Point) (r : Result (Option TakeFault) Fault)
    → MatchResult answer (λ _. mid.session.broken ≡ false) (λ f. mid.session.broken ≡ breaks f) → IsAnswerTold number line answer mid new r → IfOk r (λ _. new.session.broken ≡ false)
still_whole number line answer mid new (Ok None) whole ((v, is), told, (same, kept)) = ap (λ (s : Live). s.broken) same ∙ (rw is at whole)
still_whole number line answer mid new (Ok (Some f)) whole (is, told, (same, kept)) = ap (λ (s : Live). s.broken) same ∙ (rw is at whole) ∙ (rw is at told).1
still_whole number line answer mid new (Err fault) whole told = tt

-- a row that was fed, had its part, and is told of
pub row_met : {X : Type 0} (number : ℕ) (names : List ℕ) (cells : List (List ℕ)) (v : Verdict) (old mid run new : Point) (r : Result X Fault)
    → AreFedIn cells old.session mid.session → mid.out ≡ old.out → run.told ≡ old.told → HasRunPart mid.session run.session mid.out run.out v → IsPartMet number names v run new r
    → AreCellsMet number names cells old new r
row_met number names cells v old mid run new (Ok x) fed out quiet shown (part, (same, kept)) = (
  v,
  (
    subst (λ (k : LiveTelling). IsPartTold new.session number names v k new.told) quiet part,
    (mid.session, run.out, fed, subst (λ (s : Live). HasRunPart mid.session s old.out run.out v) (sym same) (subst (λ (o : Option (List ℕ)). HasRunPart mid.session run.session o run.out v) out shown), kept),
  ),
)
row_met number names cells v old mid run new (Err fault) fed out quiet shown (why, (still, (same, kept))) = inl (
  why,
  still ∙ quiet,
  (mid.session, run.out, Ok v, fed, subst (λ (s : Live). HasRunPart mid.session s old.out run.out v) (sym same) (subst (λ (o : Option (List ℕ)). HasRunPart mid.session run.session o run.out v) out shown), kept),
)

-- a line of a row that was refused behind those that were fed
pub torn : (number : ℕ) (cells rest left : List (List ℕ)) (cell : List ℕ) (f : TakeFault) (old mid fed new : Point) (fault : Fault)
    → ((c : List ℕ) (g : TakeFault) (s : Live) → AreFedUpTo rest c g mid.session s → AreFedUpTo cells c g old.session s) → rest ≡ cell ∷ left → fed.session ≡ mid.session
    → fed.out ≡ old.out → fed.told ≡ old.told → IsUnfedBy cell mid.session.flow f → HasWaited fed new
    → (IsRefused new.session number cell f fed.told new.told × (fault ≡ no_memory)) ⊎ (IsWriteFault fault × (new.told ≡ fed.told)) → IsTornOff number cells old new fault
torn number cells rest left cell f old mid fed new fault all split same out quiet why (stays, kept) told = (
  cell,
  f,
  all cell f new.session (subst (λ (l : List (List ℕ)). AreFedUpTo l cell f mid.session new.session) (sym split) (inl (refl, stays ∙ same, why))),
  subst (λ (o : Option (List ℕ)). Keeps o new.out) out kept,
  subst (λ (k : LiveTelling). (IsRefused new.session number cell f k new.told × (fault ≡ no_memory)) ⊎ (IsWriteFault fault × (new.told ≡ k))) quiet told,
)

-- whatever comes of it
pub at_least : {X F : Type 0} {P : Type 0} (r : Result X F) → P → IfOk r (λ _. P)
at_least (Ok x) p = p
at_least (Err f) p = tt

-- a line that was met, as one behind those of the input
pub answered_of : (number : ℕ) (line : List ℕ) (old new : Point) (r : Option TakeFault) → IsLineMet number line old new (Ok r) → WasAnswered number line old new
answered_of number line old new None (v, met) = (Ok v, met)
answered_of number line old new (Some f) met = (Err f, met)

-- a line that was read, where there is an input channel
pub come_read : (s : Live) (text rest : Option (List ℕ)) (kept : List ℕ) (r : Next) → IsSource s false → IsNextLine text rest kept r → IsCome s text rest kept r
come_read s text rest kept Line source (line, cuts, is) = (line, inl (source, cuts), is)
come_read s text rest kept End source at = inl (source, at)
come_read s text rest kept Failed source read = tt
come_read s text rest kept NoMemory source (line, cuts) = (line, inl (source, cuts))

pub none_kept : (n : ℕ) → take {A = ℕ} n [] ≡ []
none_kept zero = refl
none_kept (suc n) = refl

-- nothing changed
pub unmoved : (p : Point) → HasSent p p
unmoved p = (refl, (refl, Keeps-refl p.out))

-- a part of which there is nothing to tell
pub none_told : (s : Live) (number : ℕ) (line : List ℕ) (v : Verdict) (told : LiveTelling) (first : Option (ℕ × Failure)) (wanted : Bool)
    → IsNewFault told.faulted s.flow.run first → wanted ≡ is_verdict_new told line v → wanted ≡ false → first ≡ None → IsPartTold s number line v told told
none_told s number line v told first wanted new is not none = (first, told, told, new, rw (sym is ∙ not) refl, rw none refl, inl refl)

-- so many lines more were told of, where there are some
pub like_some : (count : ℕ) (old new : LiveTelling) → (count == 0) ≡ false → WasSaid File (codes "and ") [] (decimal count ∷ like_words count ∷ []) old new → AreLikeTold count old new
like_some zero old new some said = absurd cc
like_some (suc n) old new some said = said

-- ---- what was written is told

neither : (a b : Bool) → (a || b) ≡ false → a ≡ false
neither true b e = e
neither false b e = refl

pub put_as : {X F : Type 0} (text : List ℕ) (before after : Option (List ℕ)) (failed bad : Bool) (r : Result X F) → bad ≡ is_err r → Writes before after r text
    → AppendsFront before after text × ((failed || bad) ≡ false → (failed ≡ false) × Appends before after text)
put_as text before after failed bad (Ok x) is wrote = ((text, [], sym (append-nil text), wrote), λ e. (neither failed bad e, wrote))
put_as text before after true bad (Err f) is wrote = (wrote, λ e. absurd (true≢false e))
put_as text before after false bad (Err f) is wrote = (wrote, λ e. absurd (true≢false (sym is ∙ e)))
