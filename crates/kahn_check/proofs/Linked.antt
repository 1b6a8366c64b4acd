-- What is wrong by the tables is what is wrong by the definition.
use Rattle.kahn_check.proofs.Common.{arith, nat_tests, first, ◌≡◌, ℕ, suc, Bool, true, false, List, [], ◌∷◌, ◌++◌, map, length, Option, Some, None, refl, ap, sym, ◌∙◌, bytes_eq, lookup, Span, Name, Kind, Role, Direction, Taking, Parameter, Argument, Instance, Program, Side, Inner, Input, Output, In, Out, bytes_of, CheckFault, NoWriter, NoReader, wrong, most_instances, too_many, miscounted, overtaken, misplaced, argument_faults, arguments_faults, made_faults, instance_parts, missing, side_faults, entries, Global, IsChannel, IsProcess, declared_of, global, Handover, handed, handed_by, handed_from, ends, writers, readers, side_at, is_closed, held, taken, place_faults, places_faults, made_in, handed_all, seats_parts, side_in, sides_parts, lines_in, channel_line, Table}
use Rattle.kahn_streams.specs.declared.tree.Taking.TheVariants as T
use Rattle.kahn_streams.specs.declared.tree.Argument.TheVariants as A

pub taken_append : (d : Direction) (xs ys : List Handover) → taken d (xs ++ ys) ≡ taken d xs ++ taken d ys
taken_append d [] ys = refl
taken_append d (x ∷ xs) ys = grind (arith, nat_tests, taken_append d xs ys)

-- the table has the first of the ends
pub first_taken : (d : Direction) (c : List ℕ) (hs : List Handover) → lookup (bytes_eq c) (taken d hs) ≡ first (ends d c hs)
first_taken d c [] = refl
first_taken d c (h ∷ hs) = grind (arith, nat_tests, first_taken d c hs)

misplaced_first : (d : Direction) (k : Kind) (o : Option Global) (es : List Side) (at : Span) → misplaced d k o (held (first es)) at ≡ misplaced d k o es at
misplaced_first d k (Some (IsChannel kind role)) (e ∷ es) at = ap (λ z. wrong k kind at ++ z) (by (is_closed d role))
  where
    by : (b : Bool) → overtaken d b (e ∷ []) at ≡ overtaken d b (e ∷ es) at
    by true = refl
    by false = refl
misplaced_first d k _ _ at = refl

missing_first : (es : List Side) (f : CheckFault) → missing (held (first es)) f ≡ missing es f
missing_first [] f = refl
missing_first (e ∷ es) f = refl

abbrev pub table : Program → Table
table t = entries (declared_of t.declarations.items)

link_argument : (t : Program) (before : List Handover) (w : Taking) (x : Argument) → place_faults (table t) (taken Out before) (taken In before) w x ≡ argument_faults t before w x
link_argument t before (T.Channel Out k) (A.Channel n) = ap (λ z. misplaced Out k (global t n) z n.span) (ap held (first_taken Out (bytes_of n) before)) ∙ misplaced_first Out k (global t n) (ends Out (bytes_of n) before) n.span
link_argument t before (T.Channel In k) (A.Channel n) = ap (λ z. misplaced In k (global t n) z n.span) (ap held (first_taken In (bytes_of n) before)) ∙ misplaced_first In k (global t n) (ends In (bytes_of n) before) n.span
link_argument t before _ _ = refl

link_arguments : (t : Program) (before : List Handover) (i q : ℕ) (ps : List Parameter) (xs : List Argument) →
    places_faults (table t) (taken Out before) (taken In before) i q ps xs ≡ arguments_faults t before i q ps xs
link_arguments t before i q [] xs = refl
link_arguments t before i q (p ∷ ps) [] = refl
link_arguments t before i q (p ∷ ps) (x ∷ xs) =
    let one = handed (side_at i q) p.taking x in
    let w = sym (taken_append Out before one) in
    let r = sym (taken_append In before one) in
    (λ j. link_argument t before p.taking x j ++ places_faults (table t) (w j) (r j) i (suc q) ps xs)
    ∙ ap (λ z. argument_faults t before p.taking x ++ z) (link_arguments t (before ++ one) i (suc q) ps xs)

link_made : (t : Program) (before : List Handover) (i : ℕ) (o : Option Global) (x : Instance) → made_in (table t) (taken Out before) (taken In before) i o x ≡ made_faults t before i o x
link_made t before i None x = refl
link_made t before i (Some (IsChannel kind role)) x = refl
link_made t before i (Some (IsProcess p)) x =
    ap (λ z. miscounted (length p.parameters.items) (length x.arguments.items) x.process.span ++ z) (link_arguments t before i 0 p.parameters.items x.arguments.items)

pub link_seats : (t : Program) (before : List Handover) (i : ℕ) (xs : List Instance) → seats_parts (table t) (taken Out before) (taken In before) i xs ≡ instance_parts t before i xs
link_seats t before i [] = refl
link_seats t before i (x ∷ xs) =
    let one = handed_by t i x in
    let w = sym (taken_append Out before one) in
    let r = sym (taken_append In before one) in
    (λ j. (too_many most_instances i x.process.span ++ link_made t before i (global t x.process) x j) ∷ seats_parts (table t) (w j) (r j) (suc i) xs)
    ∙ ap (λ z. (too_many most_instances i x.process.span ++ made_faults t before i (global t x.process) x) ∷ z) (link_seats t (before ++ one) (suc i) xs)

pub link_handed : (t : Program) (i : ℕ) (xs : List Instance) → handed_all (table t) i xs ≡ handed_from t i xs
link_handed t i [] = refl
link_handed t i (x ∷ xs) = ap (λ z. handed_by t i x ++ z) (link_handed t (suc i) xs)

abbrev pub all_handed : Program → List Handover
all_handed t = handed_from t 0 t.instances.items

link_side : (t : Program) (n : Name) (role : Role) → side_in (taken Out (all_handed t)) (taken In (all_handed t)) n role ≡ side_faults t n role
link_side t n role =
    let w = ap held (first_taken Out (bytes_of n) (all_handed t)) in
    let r = ap held (first_taken In (bytes_of n) (all_handed t)) in
    let no_writer = ap (λ z. missing z (NoWriter n.span)) w ∙ missing_first (writers t (bytes_of n)) (NoWriter n.span) in
    let no_reader = ap (λ z. missing z (NoReader n.span)) r ∙ missing_first (readers t (bytes_of n)) (NoReader n.span) in
    by role no_writer no_reader
  where
    by : (o : Role) → missing (held (lookup (bytes_eq (bytes_of n)) (taken Out (all_handed t)))) (NoWriter n.span) ≡ missing (writers t (bytes_of n)) (NoWriter n.span) →
        missing (held (lookup (bytes_eq (bytes_of n)) (taken In (all_handed t)))) (NoReader n.span) ≡ missing (readers t (bytes_of n)) (NoReader n.span) →
        side_in (taken Out (all_handed t)) (taken In (all_handed t)) n o ≡ side_faults t n o
    by Inner a b = λ j. a j ++ b j
    by Input a b = b
    by Output a b = a

pub link_sides : (t : Program) (cs : List (Name × (Kind × Role))) → sides_parts (taken Out (all_handed t)) (taken In (all_handed t)) cs ≡ map (λ c. side_faults t c.0 c.1.1) cs
link_sides t [] = refl
link_sides t (c ∷ cs) = λ j. link_side t c.0 c.1.1 j ∷ link_sides t cs j

pub link_lines : (t : Program) (cs : List (Name × (Kind × Role))) → lines_in (taken Out (all_handed t)) (taken In (all_handed t)) cs ≡ map (channel_line t) cs
link_lines t [] = refl
link_lines t (c ∷ cs) =
    (λ j. ((bytes_of c.0, c.1), (first_taken Out (bytes_of c.0) (all_handed t) j, first_taken In (bytes_of c.0) (all_handed t) j)) ∷ link_lines t cs j)
