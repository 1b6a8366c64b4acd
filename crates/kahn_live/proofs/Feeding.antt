-- What went out stays right, line by line.
use Rattle.kahn_live.proofs.Common.{[], ◌≡◌, ◌∙◌, inl, inr, ℕ, zero, suc, Bool, true, false, true≢false, List, ◌∷◌, length, map, string_bytes, Global, String, take, Option, None, Some, Result, Ok, Err, sym, ap, subst, Verdict, Fault, list_any, ◌&&◌, nat_lt, HasLetGoAt, are_rows, next_of, row_count, HasRunPart, IsTakenLine, Live, pace_after, pace_of, TakeFault, at_end_number, HasMissed, IsToldBy, LiveTelling, Point, WasAnswered, WasMet, AreFed, AreRead, IsRowRun, IsAnyMet, IsReadBy, IsReadIn, is_idle, fed_text, most_kept, unmarked, bare_of, row_names, AreEachMet, IsAloneTold, IsShown}
use Rattle.kahn_session.specs.{Pace.Pace, declared.refusal.TakeFault.TheVariants.Write}

-- ---- what went out is right after each line

stays : (old new : Live) → new ≡ old → IsShown old → IsShown new
stays old new same was = subst (λ (s : Live). IsShown s) (sym same) was

-- a part shows all that isn't in rows, whatever was shown before
let_go : (old new : Live) (before after : Option (List ℕ)) (v : Verdict) → HasRunPart old new before after v → IsShown new
let_go old new before after v t =
    (v, t.answered.verdict, t.answered.ends, t.begun, λ none. ap (λ (p : Pace). p.flow.out) (subst level (even (sym (ap are_rows t.answered.gone_on.columns) ∙ none)) t.gone).0)
  where
    rows : ℕ
    rows = row_count (next_of (pace_after old new)) old.columns

    level : Bool → Type 0
    level b = HasLetGoAt b rows old.columns (pace_after old new) (pace_of new) new.shown

    even : are_rows old.columns ≡ false → (are_rows old.columns && list_any (λ c. nat_lt rows (length (next_of (pace_after old new) c))) old.columns) ≡ false
    even none = ap (λ b. b && list_any (λ c. nat_lt rows (length (next_of (pace_after old new) c))) old.columns) none

taken : (number : ℕ) (line : List ℕ) (p q : LiveTelling) (old new : Live) (before after : Option (List ℕ)) (answer : Result Verdict TakeFault) → IsToldBy new number line answer p q
    → IsTakenLine line old new before after answer → IsShown old → IsShown new
taken number line p q old new before after (Ok v) told (fed, of, t) was = let_go fed new before after v t
taken number line p q old new before after (Err (Write f)) told t was = absurd (true≢false told.1)
taken number line p q old new before after (Err f) told t was = stays old new t.same was

answered : (number : ℕ) (line : List ℕ) (old new : Point) → WasAnswered number line old new → IsShown old.session → IsShown new.session
answered number line old new (answer, (told, (sent, t, kept))) was = taken number line old.told new.told old.session new.session old.out sent answer told t was

missed : (number : ℕ) (old new : Point) → HasMissed number old new → IsShown old.session → IsShown new.session
missed number old new (told, (same, kept)) was = stays old.session new.session same was

shown : (number : ℕ) (line : List ℕ) (v : Verdict) (old new : Point) → WasMet number line (Ok v) old new → IsShown new.session
shown number line v old new (told, (sent, (fed, of, t), kept)) = let_go fed new.session old.out sent v t

-- and so does a row
row_shown : (number : ℕ) (names : List ℕ) (cells : List (List ℕ)) (v : Verdict) (old new : Point) → IsRowRun number names cells v old new → IsShown new.session
row_shown number names cells v old new (told, (fed, sent, are, t, kept)) = let_go fed new.session old.out sent v t

read_in : (rows input : Option (List ℕ)) (number : ℕ) (line : List ℕ) (old new : Point) (r : Option TakeFault) → IsReadIn rows input number line old new (Ok r) → IsShown old.session
    → IsShown new.session
read_in None input number line old new None (inl (v, met)) was = shown number (fed_text input line) v old new met
read_in None input number line old new (Some f) (inl met) was = answered number (fed_text input line) old new (Err f, met) was
read_in None input number line old new r (inr (is, none)) was = missed number old new none was
read_in (Some names) input number line old new None (cells, are, (v, run)) was = row_shown number names cells v old new run
read_in (Some names) input number line old new (Some f) (cell, bad, told, (same, kept)) was = stays old.session new.session same was

-- the first part shows all
first_in : (rows input : Option (List ℕ)) (line : List ℕ) (old new : Point) → IsReadIn rows input 0 line old new (Ok None) → IsShown new.session
first_in None input line old new (inl (v, met)) = shown 0 (fed_text input line) v old new met
first_in None input line old new (inr (is, none)) = absurd cc
first_in (Some names) input line old new (cells, are, (v, run)) = row_shown 0 names cells v old new run

-- a line that may change something, as it is met
pub not_idle : (idle : Bool) (input : Option (List ℕ)) (number : ℕ) (line kept : List ℕ) (old new : Point) (r : Result (Option TakeFault) Fault) → idle ≡ false
    → idle ≡ is_idle number line old.session.flow.run.verdict → line ≡ kept → IsReadIn (row_names input) input number line old new r
    → IsReadBy (is_idle number kept old.session.flow.run.verdict) input number kept old new r
not_idle idle input number line kept old new r not is same met =
    subst (λ (l : List ℕ). IsReadBy (is_idle number l old.session.flow.run.verdict) input number l old new r) same
    (subst (λ (b : Bool). IsReadBy b input number line old new r) (sym not ∙ is) met)

read_by : (idle : Bool) (input : Option (List ℕ)) (number : ℕ) (line : List ℕ) (old new : Point) (r : Option TakeFault) → IsReadBy idle input number line old new (Ok r) → IsShown old.session
    → IsShown new.session
read_by true input number line old new r (none, same) was = stays old.session new.session (ap (λ (p : Point). p.session) same) was
read_by false input number line old new r is was = read_in (row_names input) input number line old new r is was

met : (input : Option (List ℕ)) (number : ℕ) (line : List ℕ) (old new : Point) → IsAnyMet input number line old new → IsShown old.session → IsShown new.session
met input number line old new (inl (r, is)) was = read_by (is_idle number (unmarked number (take most_kept line)) old.session.flow.run.verdict) input number (unmarked number (take most_kept line)) old new r is was
met input number line old new (inr none) was = missed number old new none was

read : (input : Option (List ℕ)) (n : ℕ) (text rest : Option (List ℕ)) (old new : Point) → AreRead input n text rest old new → IsShown old.session → IsShown new.session
read input zero text rest old new (left, same) was = stays old.session new.session (ap (λ (p : Point). p.session) same) was
read input (suc n) text rest old new (left, last, are, hearing, (line, ready, cuts, (quiet, (same, kept)), any)) was =
    met input (suc n) line ready new any (stays last.session ready.session same (read input n text left old last are was))

fed : (lines : List (List ℕ)) (old new : Point) → AreFed lines old new → IsShown old.session → IsShown new.session
fed [] old new same was = stays old.session new.session (ap (λ (p : Point). p.session) same) was
fed (line ∷ lines) old new (next, a, rest) was = fed lines next new rest (answered at_end_number line old next a was)

alone : (input : Option (List ℕ)) (old new : Point) → IsAloneTold input old new → new.session ≡ old.session
alone None old new same = ap (λ (p : Point). p.session) same
alone (Some input) old new told = told.0

-- where all lines were met
pub all_shown : (input : Option (List ℕ)) (at_end : List (String Global)) (text : Option (List ℕ)) (old new : Point) → AreEachMet input at_end (Ok true) text old new → IsShown new.session
all_shown input at_end text old new (begun, first, (ready, last, told, (n, rest, ended, are, (quiet, (same, still)), out), behind)) =
    fed (map string_bytes at_end) last new behind
    (stays ended.session last.session same (read input n text rest ready ended are (stays begun.session ready.session (alone (bare_of input) begun ready told) (first_in (row_names input) input [] old begun first))))
