-- What is told of each part in turn.
use Rattle.kahn_check.proofs.Common.{Ok, Err, Result, slice_get, AllByRecursion, IsMade, IsWellWired, faults, ◌≡◌, inl, inr, ℕ, zero, suc, ◌+◌, ◌-◌, List, [], ◌∷◌, ◌++◌, map, length, Option, None, Some, refl, ap, sym, ◌∙◌, subst, append_assoc, bytes_eq, arith, nat_tests, false, option_or, append-nil, map-append, lookup, ◌==◌, Name, Kind, Role, Direction, Process, Parameter, Argument, Declaration, Instance, Program, In, Out, bytes_of, Vec, NamedWire, shown, lines_of, entries, IsChannel, IsProcess, declared_of, declared_channels, handed, handed_in, parameters_of, side_at, CheckFault, NoMemory, TooMany, Span, verdict, IsMet, most_channels, most_instances, too_many, repeated, process_faults, miscounted, name_parts, parts, side_parts, firsts, first_alone, faults_by_part, unless_empty, HaveGot, HasTold, no_room, first_fault, fault_alone, first_then, seat_faults, seats_parts, sides_parts, Ends, taken, place_faults, places_faults, made_in, meant, handed_to, handed_all, side_in, as_lines, line_in, lines_in, HasWired, made_of, made_all, process_at, Table, as_channels}
use Rattle.std.specs.Prelude.{OnOk}
use Rattle.std.specs.{Bool.then_some, Result.result_err, declared.alloc.Global.Global}
use Rattle.kahn_streams.specs.declared.tree.Declaration.TheVariants as D
use Rattle.kahn_streams.specs.Wiring
use Rattle.kahn_check.proofs.{Linked.all_handed, Linked.table, Linked.link_handed, Linked.link_lines, Linked.link_seats, Linked.link_sides, Linked.taken_append, Parts.first, Parts.firsts_append, Wired.well_wired}
use Rattle.kahn_streams.proofs.By_number.{the_process}
use Rattle.kahn_streams.specs.Network.{process_of}

alone : (fs : List CheckFault) → fault_alone (first_fault fs) ≡ first_alone fs
alone [] = refl
alone (f ∷ fs) = refl

then_first : (o : Option CheckFault) (xs ys : List CheckFault) → first_then (first_then o xs) ys ≡ first_then o (xs ++ ys)
then_first None [] ys = refl
then_first None (x ∷ xs) ys = refl
then_first (Some f) xs ys = refl

pub or_first : (o : Option CheckFault) (xs : List CheckFault) → option_or o (first_fault xs) ≡ first_then o xs
or_first None xs = refl
or_first (Some f) xs = refl

pub err_first : {A : Type 0} (fs : List CheckFault) (a : A) → result_err (verdict fs a) ≡ first_fault fs
err_first [] a = refl
err_first (f ∷ fs) a = refl

pub or_firsts : (xs ys : List CheckFault) → option_or (first_fault xs) (first_fault ys) ≡ first_fault (xs ++ ys)
or_firsts [] ys = refl
or_firsts (x ∷ xs) ys = refl

-- one part more that is told
one_told : (fs fs' p : List CheckFault) (ps : List (List CheckFault)) (found : Option CheckFault) → found ≡ first_fault p → fs' ≡ fs ++ fault_alone found → fs' ++ firsts ps ≡ fs ++ firsts (p ∷ ps)
one_told fs fs' p ps found h i =
    ap (λ z. z ++ firsts ps) (i ∙ ap (λ o. fs ++ fault_alone o) h ∙ ap (λ z. fs ++ z) (alone p)) ∙ append_assoc fs (first_alone p) (firsts ps)

-- ---- names

-- the table and the list of faults, where so many channels more may be declared, come out with the names that are left as those with 0 do with all
pub record AreNamesTold (left : List (Name × Wiring.Global)) (g : Table) (room : ℕ) (fs : List CheckFault) (all : List (Name × Wiring.Global)) (g0 : Table) (room0 : ℕ) (fs0 : List CheckFault) : Type 0 where
  pub table : (rest : List (Name × Wiring.Global)) → g ++ entries (left ++ rest) ≡ g0 ++ entries (all ++ rest)
  pub told : (rest : List (Name × Wiring.Global)) → fs ++ firsts (name_parts g room (left ++ rest)) ≡ fs0 ++ firsts (name_parts g0 room0 (all ++ rest))

pub full_or : (room : ℕ) (at : Span) (xs : List CheckFault) (full twice : Option CheckFault) → full ≡ then_some (room == 0) (TooMany at) → twice ≡ first_fault xs →
    option_or full twice ≡ first_fault (no_room room at ++ xs)
full_or zero at xs full twice h i = rw h refl
full_or (suc room) at xs full twice h i =
    let more : (suc room == 0) ≡ false = grind (arith, nat_tests) in
    rw (h, more) i

pub names_begin : (all : List (Name × Wiring.Global)) (g : Table) (room : ℕ) (fs : List CheckFault) → AreNamesTold all g room fs all g room fs
names_begin all g room fs = record { table = λ rest. refl; told = λ rest. refl }

pub channel_told : (kind : Kind) (role : Role) (x : Name) (xs : List Name) (g g' : Table) (room room' : ℕ) (fs fs' : List CheckFault) (found : Option CheckFault)
    (all : List (Name × Wiring.Global)) (g0 : Table) (room0 : ℕ) (fs0 : List CheckFault) → AreNamesTold (as_channels kind role (x ∷ xs)) g room fs all g0 room0 fs0 → found ≡ first_fault (no_room room x.span ++ repeated (lookup (bytes_eq (bytes_of x)) g) x.span) →
    fs' ≡ fs ++ fault_alone found → g' ≡ g ++ (bytes_of x, IsChannel kind role) ∷ [] → room' ≡ room - 1 → AreNamesTold (as_channels kind role xs) g' room' fs' all g0 room0 fs0
channel_told kind role x xs g g' room room' fs fs' found all g0 room0 fs0 h is more grown less =
    let one = (bytes_of x, IsChannel kind role) ∷ [] in
    record {
      table = λ rest. ap (λ z. z ++ entries (as_channels kind role xs ++ rest)) grown ∙ append_assoc g one (entries (as_channels kind role xs ++ rest)) ∙ h.table rest;
      told = λ rest.
          (λ j. fs' ++ firsts (name_parts (grown j) (less j) (as_channels kind role xs ++ rest)))
          ∙ one_told fs fs' (no_room room x.span ++ repeated (lookup (bytes_eq (bytes_of x)) g) x.span) (name_parts (g ++ one) (room - 1) (as_channels kind role xs ++ rest)) found is more
          ∙ h.told rest;
    }

pub channels_told : (kind : Kind) (role : Role) (names : Vec Name Global) (g g' : Table) (room room' : ℕ) (fs fs' : List CheckFault) →
    AreNamesTold [] g' room' fs' (as_channels kind role names.items) g room fs → HasTold (D.Channels kind role names) g room fs g' room' fs'
channels_told kind role names g g' room room' fs fs' h = record { table = λ rest. h.table (declared_of rest); told = λ rest. h.told (declared_of rest) }

pub process_told : (p : Process) (g g' : Table) (room : ℕ) (fs fs' fs2 : List CheckFault) (found : Option CheckFault) → found ≡ first_fault (repeated (lookup (bytes_eq (bytes_of p.name)) g) p.name.span) →
    fs' ≡ fs ++ fault_alone found → fs2 ≡ fs' ++ first_alone (process_faults p) → g' ≡ g ++ (bytes_of p.name, IsProcess p) ∷ [] → HasTold (D.Process p) g room fs g' room fs2
process_told p g g' room fs fs' fs2 found is more body grown =
    let one = (bytes_of p.name, IsProcess p) ∷ [] in
    record {
      table = λ rest. ap (λ z. z ++ entries (declared_of rest)) grown ∙ append_assoc g one (entries (declared_of rest));
      told = λ rest.
          (λ j. body j ++ firsts (name_parts (grown j) room (declared_of rest)))
          ∙ append_assoc fs' (first_alone (process_faults p)) (firsts (name_parts (g ++ one) room (declared_of rest)))
          ∙ one_told fs fs' (repeated (lookup (bytes_eq (bytes_of p.name)) g) p.name.span) (process_faults p ∷ name_parts (g ++ one) room (declared_of rest)) found is more;
    }

-- a body whose first fault was found, or none
pub body_right : (p : Process) (fs : List CheckFault) → process_faults p ≡ [] → fs ≡ fs ++ first_alone (process_faults p)
body_right p fs h = sym (append-nil fs) ∙ ap (λ z. fs ++ first_alone z) (sym h)

pub body_wrong : (fs : List CheckFault) (f : CheckFault) → (f ≡ NoMemory → ⊥) → IsMet fs f → fault_alone (Some f) ≡ first_alone fs
body_wrong fs f other (inl h) = absurd (other h)
body_wrong [] f other (inr h) = cc
body_wrong _ f other (inr h) = cc

-- ---- the arguments of an instance

pub record AreLeft (g : Table) (i q : ℕ) (ps : List Parameter) (xs : List Argument) (w r : Ends) (found : Option CheckFault) (ps0 : List Parameter) (xs0 : List Argument) (w0 r0 : Ends) (found0 : Option CheckFault) : Type 0 where
  pub same : first_then found (places_faults g w r i q ps xs) ≡ first_then found0 (places_faults g w0 r0 i 0 ps0 xs0)
  pub writes : w ++ taken Out (handed_in i q ps xs) ≡ w0 ++ taken Out (handed_in i 0 ps0 xs0)
  pub reads : r ++ taken In (handed_in i q ps xs) ≡ r0 ++ taken In (handed_in i 0 ps0 xs0)

pub arguments_begin : (g : Table) (i : ℕ) (ps : List Parameter) (xs : List Argument) (w r : Ends) (found : Option CheckFault) → AreLeft g i 0 ps xs w r found ps xs w r found
arguments_begin g i ps xs w r found = record { same = refl; writes = refl; reads = refl }

taken_more : (d : Direction) (s s' : Ends) (i q : ℕ) (p : Parameter) (ps : List Parameter) (x : Argument) (xs : List Argument) → s' ≡ s ++ taken d (handed (side_at i q) p.taking x) →
    s' ++ taken d (handed_in i (q + 1) ps xs) ≡ s ++ taken d (handed_in i q (p ∷ ps) (x ∷ xs))
taken_more d s s' i q p ps x xs h =
    let one = handed (side_at i q) p.taking x in
    let step : q + 1 ≡ suc q = omega arith in
    (λ j. h j ++ taken d (handed_in i (step j) ps xs))
    ∙ append_assoc s (taken d one) (taken d (handed_in i (suc q) ps xs))
    ∙ ap (λ z. s ++ z) (sym (taken_append d one (handed_in i (suc q) ps xs)))

pub arguments_step : (g : Table) (i q : ℕ) (p : Parameter) (ps : List Parameter) (x : Argument) (xs : List Argument) (w r w' r' : Ends) (found found' : Option CheckFault)
    (ps0 : List Parameter) (xs0 : List Argument) (w0 r0 : Ends) (found0 : Option CheckFault) → AreLeft g i q (p ∷ ps) (x ∷ xs) w r found ps0 xs0 w0 r0 found0 →
    found' ≡ first_then found (place_faults g w r p.taking x) → HaveGot (handed (side_at i q) p.taking x) w r w' r' → AreLeft g i (q + 1) ps xs w' r' found' ps0 xs0 w0 r0 found0
arguments_step g i q p ps x xs w r w' r' found found' ps0 xs0 w0 r0 found0 h is grown =
    let out = taken Out (handed (side_at i q) p.taking x) in
    let ins = taken In (handed (side_at i q) p.taking x) in
    let step : q + 1 ≡ suc q = omega arith in
    record {
      same =
          (λ j. first_then (is j) (places_faults g (grown.0 j) (grown.1 j) i (step j) ps xs))
          ∙ then_first found (place_faults g w r p.taking x) (places_faults g (w ++ out) (r ++ ins) i (suc q) ps xs)
          ∙ h.same;
      writes = taken_more Out w w' i q p ps x xs grown.0 ∙ h.writes;
      reads = taken_more In r r' i q p ps x xs grown.1 ∙ h.reads;
    }

done : (g : Table) (i q : ℕ) (ps : List Parameter) (xs : List Argument) (w r : Ends) (found : Option CheckFault) (ps0 : List Parameter) (xs0 : List Argument) (w0 r0 : Ends) (found0 : Option CheckFault) →
    places_faults g w r i q ps xs ≡ [] → handed_in i q ps xs ≡ [] → AreLeft g i q ps xs w r found ps0 xs0 w0 r0 found0 →
    (found ≡ first_then found0 (places_faults g w0 r0 i 0 ps0 xs0)) × HaveGot (handed_in i 0 ps0 xs0) w0 r0 w r
done g i q ps xs w r found ps0 xs0 w0 r0 found0 none left h = (
  sym (then_nothing found) ∙ sym (ap (first_then found) none) ∙ h.same,
  (sym (append-nil w) ∙ ap (λ z. w ++ taken Out z) (sym left) ∙ h.writes, sym (append-nil r) ∙ ap (λ z. r ++ taken In z) (sym left) ∙ h.reads),
)
  where
    then_nothing : (o : Option CheckFault) → first_then o [] ≡ o
    then_nothing None = refl
    then_nothing (Some f) = refl

-- where the arguments end, and where the parameters do
pub arguments_end : (g : Table) (i q : ℕ) (ps : List Parameter) (w r : Ends) (found : Option CheckFault) (ps0 : List Parameter) (xs0 : List Argument) (w0 r0 : Ends) (found0 : Option CheckFault) →
    AreLeft g i q ps [] w r found ps0 xs0 w0 r0 found0 → (found ≡ first_then found0 (places_faults g w0 r0 i 0 ps0 xs0)) × HaveGot (handed_in i 0 ps0 xs0) w0 r0 w r
arguments_end g i q [] w r found ps0 xs0 w0 r0 found0 h = done g i q [] [] w r found ps0 xs0 w0 r0 found0 refl refl h
arguments_end g i q ps w r found ps0 xs0 w0 r0 found0 h = done g i q ps [] w r found ps0 xs0 w0 r0 found0 refl refl h

pub parameters_end : (g : Table) (i q : ℕ) (xs : List Argument) (w r : Ends) (found : Option CheckFault) (ps0 : List Parameter) (xs0 : List Argument) (w0 r0 : Ends) (found0 : Option CheckFault) →
    AreLeft g i q [] xs w r found ps0 xs0 w0 r0 found0 → (found ≡ first_then found0 (places_faults g w0 r0 i 0 ps0 xs0)) × HaveGot (handed_in i 0 ps0 xs0) w0 r0 w r
parameters_end g i q xs w r found ps0 xs0 w0 r0 found0 h = done g i q [] xs w r found ps0 xs0 w0 r0 found0 refl refl h

-- a channel that is handed over to neither side, to be written, to be read
pub got_none : (w r : Ends) → HaveGot [] w r w r
got_none w r = (sym (append-nil w), sym (append-nil r))

-- ---- one instance

pub on_ok : {A E : Type 0} (r : Result A E) (P : Type 0) → P → OnOk r P
on_ok (Ok x) P h = h
on_ok (Err e) P h = tt

pub added_if : {A E : Type 0} (r : Result A E) (P Q : Type 0) → (P → Q) → OnOk r P → OnOk r Q
added_if (Ok x) P Q f h = f h
added_if (Err e) P Q f h = tt

pub seat_made : (g : Table) (w r : Ends) (i : ℕ) (x : Instance) (p : Process) (fs fs' : List CheckFault) (limit count found : Option CheckFault) → meant g x ≡ Some (IsProcess p) →
    limit ≡ first_fault (too_many most_instances i x.process.span) → count ≡ first_fault (miscounted (length p.parameters.items) (length x.arguments.items) x.process.span) →
    found ≡ first_then (option_or limit count) (places_faults g w r i 0 p.parameters.items x.arguments.items) → fs' ≡ fs ++ fault_alone found → fs' ≡ fs ++ first_alone (seat_faults g w r i x)
seat_made g w r i x p fs fs' limit count found m is counts arguments more =
    let many = too_many most_instances i x.process.span in
    let wrong = miscounted (length p.parameters.items) (length x.arguments.items) x.process.span in
    let places = places_faults g w r i 0 p.parameters.items x.arguments.items in
    let same : found ≡ first_fault (seat_faults g w r i x) =
    arguments
    ∙ (λ j. first_then (option_or (is j) (counts j)) places)
    ∙ ap (λ o. first_then o places) (or_first (first_fault many) wrong ∙ then_first None many wrong)
    ∙ then_first None (many ++ wrong) places
    ∙ ap first_fault (append_assoc many wrong places)
    ∙ ap (λ o. first_fault (many ++ made_in g w r i o x)) (sym m) in
    more ∙ ap (λ o. fs ++ fault_alone o) same ∙ ap (λ z. fs ++ z) (alone (seat_faults g w r i x))

pub seat_kept : (g : Table) (i : ℕ) (x : Instance) (p : Process) (w r w' r' : Ends) → meant g x ≡ Some (IsProcess p) → HaveGot (handed_in i 0 p.parameters.items x.arguments.items) w r w' r' →
    HaveGot (handed_to g i x) w r w' r'
seat_kept g i x p w r w' r' m h = subst (λ o. HaveGot (handed_in i 0 (parameters_of o) x.arguments.items) w r w' r') (sym m) h

pub seat_numbered : (ds : List Declaration) (g : Table) (x : Instance) (p : Process) (before after : List ℕ) (k : ℕ) → meant g x ≡ Some (IsProcess p) → process_at ds k ≡ Some p → after ≡ before ++ k ∷ [] →
    map (process_at ds) after ≡ map (process_at ds) before ++ made_of (meant g x)
seat_numbered ds g x p before after k m at more =
    ap (map (process_at ds)) more ∙ map-append (process_at ds) before (k ∷ []) ∙ ap (λ o. map (process_at ds) before ++ o ∷ []) at ∙ ap (λ o. map (process_at ds) before ++ made_of o) (sym m)

-- ---- the instances in turn

pub record SeatsLeft (g : Table) (i : ℕ) (xs : List Instance) (w r : Ends) (fs : List CheckFault) (xs0 : List Instance) (w0 r0 : Ends) (fs0 : List CheckFault) : Type 0 where
  pub told : fs ++ firsts (seats_parts g w r i xs) ≡ fs0 ++ firsts (seats_parts g w0 r0 0 xs0)
  pub writes : w ++ taken Out (handed_all g i xs) ≡ w0 ++ taken Out (handed_all g 0 xs0)
  pub reads : r ++ taken In (handed_all g i xs) ≡ r0 ++ taken In (handed_all g 0 xs0)

all_more : (d : Direction) (g : Table) (s s' : Ends) (i : ℕ) (x : Instance) (xs : List Instance) → s' ≡ s ++ taken d (handed_to g i x) →
    s' ++ taken d (handed_all g (i + 1) xs) ≡ s ++ taken d (handed_all g i (x ∷ xs))
all_more d g s s' i x xs h =
    let step : i + 1 ≡ suc i = omega arith in
    (λ j. h j ++ taken d (handed_all g (step j) xs))
    ∙ append_assoc s (taken d (handed_to g i x)) (taken d (handed_all g (suc i) xs))
    ∙ ap (λ z. s ++ z) (sym (taken_append d (handed_to g i x) (handed_all g (suc i) xs)))

pub seats_onward : (g : Table) (i : ℕ) (x : Instance) (xs : List Instance) (w r w' r' : Ends) (fs fs' : List CheckFault) (xs0 : List Instance) (w0 r0 : Ends) (fs0 : List CheckFault) →
    SeatsLeft g i (x ∷ xs) w r fs xs0 w0 r0 fs0 → fs' ≡ fs ++ first_alone (seat_faults g w r i x) → HaveGot (handed_to g i x) w r w' r' → SeatsLeft g (i + 1) xs w' r' fs' xs0 w0 r0 fs0
seats_onward g i x xs w r w' r' fs fs' xs0 w0 r0 fs0 h more grown =
    let step : i + 1 ≡ suc i = omega arith in
    let rest = seats_parts g (w ++ taken Out (handed_to g i x)) (r ++ taken In (handed_to g i x)) (suc i) xs in
    record {
      told = (λ j. more j ++ firsts (seats_parts g (grown.0 j) (grown.1 j) (step j) xs)) ∙ append_assoc fs (first_alone (seat_faults g w r i x)) (firsts rest) ∙ h.told;
      writes = all_more Out g w w' i x xs grown.0 ∙ h.writes;
      reads = all_more In g r r' i x xs grown.1 ∙ h.reads;
    }

-- ---- the sides of channels

-- the wires and the faults of sides come out with the channels that are left as those with 0 do with all
pub record AreWired (w r : Ends) (left : List (Name × (Kind × Role))) (ws : List NamedWire) (fs : List CheckFault) (all : List (Name × (Kind × Role))) (ws0 : List NamedWire) (fs0 : List CheckFault) : Type 0 where
  pub lines : (rest : List (Name × (Kind × Role))) → map shown ws ++ lines_in w r (left ++ rest) ≡ map shown ws0 ++ lines_in w r (all ++ rest)
  pub sides : (rest : List (Name × (Kind × Role))) → fs ++ firsts (sides_parts w r (left ++ rest)) ≡ fs0 ++ firsts (sides_parts w r (all ++ rest))

pub wired_step : (w r : Ends) (kind : Kind) (role : Role) (x : Name) (xs : List Name) (ws : List NamedWire) (one : NamedWire) (fs fs' : List CheckFault) (found : Option CheckFault)
    (all : List (Name × (Kind × Role))) (ws0 : List NamedWire) (fs0 : List CheckFault) → AreWired w r (as_lines kind role (x ∷ xs)) ws fs all ws0 fs0 → found ≡ first_fault (side_in w r x role) →
    fs' ≡ fs ++ fault_alone found → shown one ≡ line_in w r (x, (kind, role)) → AreWired w r (as_lines kind role xs) (ws ++ one ∷ []) fs' all ws0 fs0
wired_step w r kind role x xs ws one fs fs' found all ws0 fs0 h is more line =
    record {
      lines = λ rest.
          let after = lines_in w r (as_lines kind role xs ++ rest) in
          ap (λ z. z ++ after) (map-append shown ws (one ∷ []) ∙ ap (λ l. map shown ws ++ l ∷ []) line)
          ∙ append_assoc (map shown ws) (line_in w r (x, (kind, role)) ∷ []) after
          ∙ h.lines rest;
      sides = λ rest. one_told fs fs' (side_in w r x role) (sides_parts w r (as_lines kind role xs ++ rest)) found is more ∙ h.sides rest;
    }

pub wired_begin : (w r : Ends) (all : List (Name × (Kind × Role))) (ws : List NamedWire) (fs : List CheckFault) → AreWired w r all ws fs all ws fs
wired_begin w r all ws fs = record { lines = λ rest. refl; sides = λ rest. refl }

pub channels_wired : (w r : Ends) (kind : Kind) (role : Role) (names : Vec Name Global) (ws ws0 : List NamedWire) (fs fs0 : List CheckFault) → AreWired w r [] ws fs (as_lines kind role names.items) ws0 fs0 →
    HasWired w r (D.Channels kind role names) ws fs ws0 fs0
channels_wired w r kind role names ws ws0 fs fs0 h = record { lines = λ rest. h.lines (declared_channels rest); sides = λ rest. h.sides (declared_channels rest) }

pub process_wired : (w r : Ends) (p : Process) (ws : List NamedWire) (fs : List CheckFault) → HasWired w r (D.Process p) ws fs ws fs
process_wired w r p ws fs = record { lines = λ rest. refl; sides = λ rest. refl }

-- ---- the whole program

taken_all : (t : Program) (g : Table) (d : Direction) → g ≡ table t → taken d (handed_all g 0 t.instances.items) ≡ taken d (all_handed t)
taken_all t g d is = ap (λ z. taken d (handed_all z 0 t.instances.items)) is ∙ ap (taken d) (link_handed t 0 t.instances.items)

-- what is told of all names, bodies and instances, and then of the sides
pub walked_told : (t : Program) (g : Table) (w r : Ends) (fs ss all : List CheckFault) → g ≡ table t → w ≡ taken Out (handed_all g 0 t.instances.items) → r ≡ taken In (handed_all g 0 t.instances.items) →
    fs ≡ firsts (name_parts [] most_channels (declared_of t.declarations.items)) ++ firsts (seats_parts g [] [] 0 t.instances.items) →
    ss ≡ firsts (sides_parts w r (declared_channels t.declarations.items)) → all ≡ unless_empty fs ss → all ≡ faults_by_part t
walked_told t g w r fs ss all is hw hr told sides every =
    let names = name_parts [] most_channels (declared_of t.declarations.items) in
    let seats = (λ j. seats_parts (is j) [] [] 0 t.instances.items) ∙ link_seats t [] 0 t.instances.items in
    let parted : fs ≡ firsts (parts t) = told ∙ sym (firsts_append names (seats_parts g [] [] 0 t.instances.items)) ∙ ap (λ z. firsts (names ++ z)) seats in
    let sided : ss ≡ firsts (side_parts t) =
    sides
    ∙ (λ j. firsts (sides_parts ((hw ∙ taken_all t g Out is) j) ((hr ∙ taken_all t g In is) j) (declared_channels t.declarations.items)))
    ∙ ap firsts (link_sides t (declared_channels t.declarations.items)) in
    every ∙ (λ j. unless_empty (parted j) (sided j))

pub walked_lines : (t : Program) (g : Table) (w r : Ends) → g ≡ table t → w ≡ taken Out (handed_all g 0 t.instances.items) → r ≡ taken In (handed_all g 0 t.instances.items) →
    lines_in w r (declared_channels t.declarations.items) ≡ lines_of t
walked_lines t g w r is hw hr =
    (λ j. lines_in ((hw ∙ taken_all t g Out is) j) ((hr ∙ taken_all t g In is) j) (declared_channels t.declarations.items)) ∙ link_lines t (declared_channels t.declarations.items)

-- ---- what `check` makes of it

pub sound : (t : Program) (fs : List CheckFault) → fs ≡ faults_by_part t → slice_get fs 0 ≡ None → IsWellWired t
sound t [] is h = well_wired t (none (faults t) (sym (first t) ∙ ap (λ z. verdict z (tt {0})) (sym is)))
  where
    none : (fs : List CheckFault) → verdict fs (tt {0}) ≡ Ok tt → fs ≡ []
    none [] i = refl
    none (f ∷ fs) i = cc
sound t (f ∷ fs) is h = cc

pub first_met : (t : Program) (f : CheckFault) (fs : List CheckFault) → fs ≡ faults_by_part t → slice_get fs 0 ≡ Some f → IsMet (faults t) f
first_met t f [] is h = cc
first_met t f (g ∷ gs) is h = let same : g ≡ f = cc in inr (sym (first t) ∙ ap (λ z. verdict z (tt {0})) (sym is) ∙ ap Err same)

pub made_named : (t : Program) (xs : List Instance) → AllByRecursion (IsMade t) xs → made_all (table t) xs ≡ map (λ i. process_of t.declarations.items (bytes_of i.process)) xs
made_named t [] h = refl
made_named t (x ∷ xs) h =
    ap (λ o. made_of o ++ made_all (table t) xs) h.0.1
    ∙ (λ j. sym (the_process (bytes_of x.process) h.0.0 t.declarations.items h.0.1) j ∷ made_named t xs h.1 j)
