-- What a parse of the words gives the options.
use Rattle.kahn_line.proofs.Common.{[], ◌≡◌, ◌≢◌, ◌∙◌, ◌<◌, ◌≤◌, ℕ, zero, suc, Bool, true, false, List, ◌∷◌, length, map, Option, Some, None, refl, sym, subst, ap, inl, inr, arith, codes, slice_index, ⊤, Result, Ok, Err, IsErrAnd, option_and_then, option_map, slice_get, Bor, BuildsTo, IsAuto, IsParsedFrom, SameRules, found_of, first_value, matched_of, one_text, App, HasMatchesOf, Shape, app_of, is_simple, matches_of, shape_of, Rule, Text, first_of, one_of, rows_of, rule_of, Arg, Command, Unsigned, ArgMatches, Found, first_value-rows, one_text-rows, fault_of, file_named, file_of, is_flagged, number_for, number_or, text_of, was_given, IsRead, IsSet, IsSetBy, IsTold, ReadsOr}
use Rattle.std.specs.{List.All, List.slice_index_or, List.list_all, Str.bytes_eq, Str.Parse.digits_value, Str.Parse.without_leading_plus}
use Rattle.std.proofs.{lemmas.Bool.cases_lt, lemmas.Slice.Eq.bytes_eq-Decides}
use Rattle.clap.specs.{Facts.args_of, Facts.groups_of, Facts.parser_of, Facts.parser_of_value, Facts.Entry, Facts.EntryPasses, Facts.PassesArg, Facts.ValuesPass, Kinds.HasKind, Kinds.IsAmong, Values.Accepts, Values.IsUnsignedIn, Values.kind_of, Values.read_as, Values.reading_of, declared.builder.value_parser.Reading.Reading, declared.builder.value_parser.Reading.TheVariants.AsWritten, declared.builder.value_parser.ValueParser.ValueParser, declared.parser.matches.MatchedArg.MatchedArg, declared.error.Error.Error}
use Rattle.clap.proofs.{CallerLemmas.entry_by_id, SimpleLemmas.plain_fields, SimpleLemmas.simple_groups}
use Rattle.kahn_streams.specs.declared.config.Config.{Config}
use Rattle.kahn_line.specs.{declared.line.LineFault.LineFault, declared.line.LineFault.TheVariants.NoMemory, declared.line.LineFault.TheVariants.Refused}

-- this, where that holds, and the rest
abbrev pub Also : Bool → Type 0 → Type 0 → Type 0
Also true A B = A × B
Also false A B = B

behind : (b : Bool) (A B : Type 0) → Also b A B → B
behind true A B h = h.1
behind false A B h = h

-- each rule of this name has this parser
abbrev pub ParsedAs : List Rule → Text → ValueParser → Type 0
ParsedAs [] id q = ⊤
ParsedAs (r ∷ rs) id q = Also (bytes_eq r.id id) (r.parser ≡ Some q) (ParsedAs rs id q)

-- and so each argument of the name
argument : (xs : List Arg) (id : Text) (q : ValueParser) → ParsedAs (map rule_of xs) id q → (j : ℕ) (d : Arg) → j < length xs
    → bytes_eq (slice_index_or xs j d).id.now id ≡ true → (slice_index_or xs j d).value_parser ≡ Some q
argument [] id q h j d below same = absurd (omega arith)
argument (x ∷ xs) id q h zero d below same = (subst (λ (b : Bool). Also b (x.value_parser ≡ Some q) (ParsedAs (map rule_of xs) id q)) same h).0
argument (x ∷ xs) id q h (suc j) d below same = argument xs id q (behind (bytes_eq x.id.now id) _ _ h) j d (omega arith) same

-- also of the command that was built
built_argument : (old new : Command) → BuildsTo old new → (id : Text) (q : ValueParser) → ParsedAs (map rule_of (args_of old)) id q
    → (id ≡ codes "help" → ⊥) → (id ≡ codes "version" → ⊥)
    → (j : ℕ) (x : Arg) → j < length (args_of new) → slice_index_or (args_of new) j x ≡ x → bytes_eq x.id.now id ≡ true
    → parser_of x ≡ q
built_argument old new from id q parsed help version j x high at same =
    let x_id : x.id.now ≡ id = (bytes_eq-Decides x.id.now id).0 same in
    elim (cases_lt j (length (args_of old))) [
      | inl under ↦
          let s = subst (λ w. SameRules (slice_index_or (args_of old) j x) w) at (from.kept j x under).1 in
          let old_same : bytes_eq (slice_index_or (args_of old) j x).id.now id ≡ true = rw (← s.id) same in
          ap parser_of_value (s.parser q (argument (args_of old) id q parsed j x under old_same))
      | inr over ↦
          let flag = subst IsAuto at (from.extra j x over high) in
          absurd (elim flag [ inl h ↦ help (sym x_id ∙ h) | inr h ↦ version (sym x_id ∙ h) ])
    ]

-- the first of values that passed
first_passed : (c : Command) (id : Text) (low high : ℕ)
    → ((j : ℕ) (x : Arg) → j < length (args_of c) → slice_index_or (args_of c) j x ≡ x → bytes_eq x.id.now id ≡ true → parser_of x ≡ Unsigned low high)
    → (vs : List (Bor Text)) → All (λ v. PassesArg c id v.now) vs
    → (t : Text) → option_map (λ s. read_as AsWritten s.now) (slice_get vs 0) ≡ Some t → IsUnsignedIn low high t
first_passed c id low high parsers [] all t got = cc
first_passed c id low high parsers (v ∷ vs) all t got =
    let pass : PassesArg c id v.now = all 0 v (omega arith) in
    let parser : parser_of pass.1 ≡ Unsigned low high = parsers pass.0 pass.1 pass.2 pass.3 pass.4.0 in
    let accepted : IsUnsignedIn low high v.now = subst (λ (q : ValueParser). Accepts pass.1.ignore_case q v.now) parser pass.4.1 in
    let same : v.now ≡ t = cc in
    subst (IsUnsignedIn low high) same accepted

-- the text that is read of an entry passed
text_passed : (c : Command) (id : Text) (low high : ℕ) → groups_of c ≡ [] → (id ≡ [] → ⊥)
    → ((j : ℕ) (x : Arg) → j < length (args_of c) → slice_index_or (args_of c) j x ≡ x → bytes_eq x.id.now id ≡ true → parser_of x ≡ Unsigned low high)
    → (e : Entry) → e.0.now ≡ id → EntryPasses c e
    → (t : Text) → option_map (λ s. read_as e.1.reading s.now) (slice_get e.1.vals.items 0) ≡ Some t → IsUnsignedIn low high t
text_passed c id low high groups named parsers e key pass t read =
    let no_group : e.1.is_group ≡ true → ⊥ = λ g. elim (pass.3 g) [
      | inl empty ↦ named (sym key ∙ empty)
      | inr lots ↦
          let bad : 0 < 0 = rw groups at lots in
          absurd (omega arith)
    ] in
    let all : All (λ v. PassesArg c id v.now) e.1.vals.items = elim pass.0 [
      | inl g ↦ absurd (no_group g)
      | inr vals ↦ subst (λ (w : Text). All (λ v. PassesArg c w v.now) e.1.vals.items) key vals
    ] in
    let written : e.1.reading ≡ AsWritten = elim pass.4 [
      | inl g ↦ absurd (no_group g)
      | inr h ↦ sym h.4.1 ∙ ap reading_of (parsers h.0 h.1 h.2 h.3 (subst (λ (w : Text). bytes_eq h.1.id.now w ≡ true) key h.4.0))
    ] in
    first_passed c id low high parsers e.1.vals.items all t (subst (λ (how : Reading). option_map (λ s. read_as how s.now) (slice_get e.1.vals.items 0) ≡ Some t) written read)

-- the text that is read of a name
abbrev read_text : Option MatchedArg → Option Text
read_text = option_and_then (λ a. option_map (λ s. read_as a.reading s.now) (slice_get a.vals.items 0))

-- and so the text that is read of a name that has an entry
entry_passed : (c : Command) (f : Found) (id : Text) (low high : ℕ) → groups_of c ≡ [] → (id ≡ [] → ⊥)
    → ((j : ℕ) (x : Arg) → j < length (args_of c) → slice_index_or (args_of c) j x ≡ x → bytes_eq x.id.now id ≡ true → parser_of x ≡ Unsigned low high)
    → ValuesPass c f → (t : Text) → one_text f id ≡ Some t → IsUnsignedIn low high t
entry_passed c f id low high groups named parsers values t read = go (matched_of f id) refl
  where
    step : (x : MatchedArg) → read_text (Some x) ≡ Some t → ((e : Entry) × (e.1 ≡ x) × (bytes_eq e.0.now id ≡ true) × EntryPasses c e) → IsUnsignedIn low high t
    step x text got =
        text_passed c id low high groups named parsers got.0 ((bytes_eq-Decides got.0.0.now id).0 got.2) got.3 t
        (subst (λ (y : MatchedArg). read_text (Some y) ≡ Some t) (sym got.1) text)

    go : (o : Option MatchedArg) → matched_of f id ≡ o → IsUnsignedIn low high t
    go None e =
        let bad : None ≡ Some t = subst (λ (o : Option MatchedArg). read_text o ≡ Some t) e read in
        cc
    go (Some x) e = step x (subst (λ (o : Option MatchedArg). read_text o ≡ Some t) e read) (entry_by_id (EntryPasses c) f.entries.items id x values e)

-- a name that begins like none of the library's own names
abbrev pub IsOwn : ℕ → Type 0
IsOwn first = (first ≢ 0) × (first ≢ 104) × (first ≢ 118)

begins : (id other : Text) (first : ℕ) → slice_index id 0 ≡ first → id ≡ other → slice_index other 0 ≡ first
begins id other first is e = ap (λ (l : Text). slice_index l 0) (sym e) ∙ is

-- what a parse found, by the rules of a program: what the words give, and numbers in their ranges
pub record IsFound (app : App) (words : List Text) (m : ArgMatches) : Type 0 where
  pub rows : rows_of (found_of m) ≡ matches_of app words
  pub numbers : (id : Text) (low high : ℕ) → ParsedAs app.top.rules id (Unsigned low high) → (first : ℕ) → slice_index id 0 ≡ first → IsOwn first
      → (t : Text) → one_text (found_of m) id ≡ Some t → IsUnsignedIn low high t

-- for a command that is simple
pub found : (app : App) → app.top.is_plain ≡ true → list_all (λ r. r.is_simple) app.top.rules ≡ true → is_simple app ≡ true
    → (cmd : Command) (m : ArgMatches) (words : List Text) → IsParsedFrom cmd m → HasMatchesOf (app_of cmd) words m → app_of cmd ≡ app → IsFound app words m
found app plain simple whole cmd m words p matches is = record {
  rows = (matches (ap is_simple is ∙ whole)).0 ∙ ap (λ (a : App). matches_of a words) is;
  numbers = λ id low high parsed first begin own t read.
      let shape : shape_of cmd ≡ app.top = ap (λ (a : App). a.top) is in
      let fields = plain_fields cmd (ap (λ (s : Shape). s.is_plain) shape ∙ plain) in
      let none = simple_groups cmd (ap (λ (s : Shape). list_all (λ a. a.is_simple) s.rules) shape ∙ simple) in
      let groups : groups_of p.built ≡ [] = (p.from.same_groups none).1 ∙ fields.groups in
      let rules : ParsedAs (map rule_of (args_of cmd)) id (Unsigned low high) = subst (λ (s : Shape). ParsedAs s.rules id (Unsigned low high)) (sym shape) parsed in
      let parsers = built_argument cmd p.built p.from id (Unsigned low high) rules
      (λ e. own.1 (sym (begins id (codes "help") first begin e)))
      (λ e. own.2 (sym (begins id (codes "version") first begin e))) in
      let named : id ≡ [] → ⊥ = λ e. own.0 (sym (begins id [] first begin e)) in
      let facts = p.parsed (p.from.globals ∙ fields.globals) in
      entry_passed p.built (found_of m) id low high groups named parsers facts.values t read;
}

-- a text, a path and a word alone that were found are those that the words give
pub text : {app : App} {words : List Text} {m : ArgMatches} → IsFound app words m → (id : Text) → first_value (found_of m) id ≡ text_of app words id
text {m = m} f id = first_value-rows (found_of m) id ∙ ap (first_of id) f.rows

pub file : {app : App} {words : List Text} {m : ArgMatches} → IsFound app words m → (id : Text) → option_map file_named (first_value (found_of m) id) ≡ file_of app words id
file f id = ap (option_map file_named) (text f id)

pub named : {app : App} {words : List Text} {m : ArgMatches} → IsFound app words m → (id : Text) → was_given (first_value (found_of m) id) ≡ is_flagged app words id
named f id = ap was_given (text f id)

-- a number as it was read, where its text is in its range
known : (low high other : ℕ) (o : Option Text) (n : ℕ) → ReadsOr other o n → ((t : Text) → o ≡ Some t → IsUnsignedIn low high t)
    → low ≤ other → other ≤ high → (n ≡ number_or other o) × (low ≤ n) × (n ≤ high)
known low high other None n is all above below = (is, omega arith, omega arith)
known low high other (Some t) n is all above below =
    let text = all t refl in
    let value : n ≡ digits_value 10 (without_leading_plus t) = is text.0 text.1 in
    let least = text.2 in
    let most = text.3 in
    (value, omega arith, omega arith)

-- and it is the number that the words give, in its range
pub number : {app : App} {words : List Text} {m : ArgMatches} → IsFound app words m → (id : Text) (low high other : ℕ) → ParsedAs app.top.rules id (Unsigned low high)
    → (first : ℕ) → slice_index id 0 ≡ first → IsOwn first → (n : ℕ) → ReadsOr other (one_text (found_of m) id) n → low ≤ other → other ≤ high
    → (n ≡ number_for app words id other) × (low ≤ n) × (n ≤ high)
number {m = m} f id low high other parsed first begin own n reads above below =
    let k = known low high other (one_text (found_of m) id) n reads (f.numbers id low high parsed first begin own) above below in
    (k.0 ∙ ap (number_or other) (one_text-rows (found_of m) id ∙ ap (one_of id) f.rows), k.1, k.2)

-- the numbers of a run are those that the words give
pub set_by : {app : App} {words : List Text} {m : ArgMatches} → IsFound app words m → ParsedAs app.top.rules (codes "workers") (Unsigned 1 16)
    → ParsedAs app.top.rules (codes "quantum") (Unsigned 1 1000000) → ParsedAs app.top.rules (codes "bound") (Unsigned 0 281474976710655)
    → (c : Config) → IsSet (found_of m) 4 (codes "bound") c → IsSetBy app words c
set_by f by_workers by_quantum by_bound c set =
    let workers = number f (codes "workers") 1 16 4 by_workers 119 refl ((λ e. omega arith), (λ e. omega arith), (λ e. omega arith)) c.workers set.threads (omega arith) (omega arith) in
    let quantum = number f (codes "quantum") 1 1000000 1000 by_quantum 113 refl ((λ e. omega arith), (λ e. omega arith), (λ e. omega arith)) c.quantum set.quantum (omega arith) (omega arith) in
    let bound = number f (codes "bound") 0 281474976710655 1000000 by_bound 98 refl ((λ e. omega arith), (λ e. omega arith), (λ e. omega arith)) c.bound set.bound (omega arith) (omega arith) in
    let most = bound.2 in
    record {
      watch = set.watch ∙ text f (codes "watch");
      workers = workers.0;
      quantum = quantum.0;
      bound = bound.0;
      in_range = (workers.1, workers.2, quantum.1, quantum.2, omega arith);
    }

-- an error of the library is told as a fault: as want of memory, or as what is at fault in the words
pub told : {O : Type 0} (app : App) (Asks : List Text → O → Type 0) (words : List Text) (cmd : Command) → app_of cmd ≡ app → (e : Error)
    → HasKind (fault_of (app_of cmd) words) e → (r : Result O LineFault) → IsErrAnd r (IsTold e) → IsRead app Asks words r
told app Asks words cmd of e kinds (Ok o) is = absurd is
told app Asks words cmd of e kinds (Err NoMemory) is = tt
told app Asks words cmd of e kinds (Err (Refused x)) (inl want) =
    let bad : Refused x ≡ NoMemory = want.1 in
    absurd cc
told app Asks words cmd of e (inl want) (Err (Refused x)) (inr other) = absurd (other.0 want)
told app Asks words cmd of e (inr among) (Err (Refused x)) (inr other) =
    let same : Refused x ≡ Refused e = other.1 in
    let one : e ≡ x = cc in
    subst (λ (a : App). IsAmong (kind_of x) (fault_of a words)) of (subst (λ (y : Error). IsAmong (kind_of y) (fault_of (app_of cmd) words)) one among)
