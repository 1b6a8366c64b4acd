-- The parts of a program, put together, and the first fault of each.
use Rattle.kahn_check.proofs.Common.{arith, nat_tests, nat_lt, cond, true, false, ◌≡◌, ℕ, zero, suc, ◌+◌, ◌-◌, add-zero, List, [], ◌∷◌, ◌++◌, map, refl, ap, sym, ◌∙◌, append_assoc, append-nil, bytes_eq, length, lookup, Span, Name, Kind, Role, Declaration, Instance, Program, bytes_of, entries, IsChannel, IsProcess, declared_of, declared_channels, global, Handover, handed_by, CheckFault, TooMany, verdict, most_channels, most_instances, too_many, repeated, process_faults, made_faults, channel_faults, declaration_faults, instance_faults, side_faults, sides_faults, faults, name_parts, no_room, instance_parts, parts, side_parts, together, firsts, unless_empty, faults_by_part, first_alone, Table, as_channels}
use Rattle.kahn_streams.specs.Wiring
use Rattle.kahn_streams.specs.declared.tree.Declaration.TheVariants as D

-- ---- put together they are the faults

together_append : (ps qs : List (List CheckFault)) → together (ps ++ qs) ≡ together ps ++ together qs
together_append [] qs = refl
together_append (p ∷ ps) qs = ap (λ z. p ++ z) (together_append ps qs) ∙ sym (append_assoc p (together ps) (together qs))

-- the room of so many channels that were declared
room_left : (n : ℕ) (at : Span) → no_room (most_channels - n) at ≡ too_many most_channels n at
room_left n at = by (most_channels - n) refl
  where
    by : (room : ℕ) → most_channels - n ≡ room → no_room room at ≡ too_many most_channels n at
    by zero h = let beyond : nat_lt n most_channels ≡ false = grind (arith, nat_tests) in ap (λ b. cond b [] (TooMany at ∷ [])) (sym beyond)
    by (suc room) h = let within : nat_lt n most_channels ≡ true = grind (arith, nat_tests) in ap (λ b. cond b [] (TooMany at ∷ [])) (sym within)

channel_whole : (g : Table) (n room : ℕ) (kind : Kind) (role : Role) (xs : List Name) (es : List (Name × Wiring.Global)) → room ≡ most_channels - n →
    together (name_parts g room (as_channels kind role xs ++ es)) ≡ channel_faults g n kind role xs ++ together (name_parts (g ++ entries (as_channels kind role xs)) (most_channels - (n + length xs)) es)
channel_whole g n room kind role [] es h =
    (λ j. together (name_parts (sym (append-nil g) j) (h j) es)) ∙ ap (λ m. together (name_parts (g ++ []) (most_channels - m) es)) (sym (add-zero n))
channel_whole g n room kind role (x ∷ xs) es h =
    let limit = too_many most_channels n x.span in
    let name = repeated (lookup (bytes_eq (bytes_of x)) g) x.span in
    let one : Table = (bytes_of x, IsChannel kind role) ∷ [] in
    let less : room - 1 ≡ most_channels - suc n = omega (arith, h) in
    let go = channel_whole (g ++ one) (suc n) (room - 1) kind role xs es less in
    let faults = channel_faults (g ++ one) (suc n) kind role xs in
    let after = together (name_parts (g ++ entries (as_channels kind role (x ∷ xs))) (most_channels - (n + length (x ∷ xs))) es) in
    let sum : suc n + length xs ≡ n + length (x ∷ xs) = omega arith in
    let same : together (name_parts ((g ++ one) ++ entries (as_channels kind role xs)) (most_channels - (suc n + length xs)) es) ≡ after =
    λ j. together (name_parts (append_assoc g one (entries (as_channels kind role xs)) j) (most_channels - sum j) es) in
    (λ j. ((ap (λ m. no_room m x.span) h ∙ room_left n x.span) j ++ name) ++ (go ∙ ap (λ z. faults ++ z) same) j)
    ∙ append_assoc limit name (faults ++ after)
    ∙ ap (λ z. limit ++ z) (sym (append_assoc name faults after))
    ∙ sym (append_assoc limit (name ++ faults) after)

declaration_whole : (g : Table) (n : ℕ) (ds : List Declaration) → together (name_parts g (most_channels - n) (declared_of ds)) ≡ declaration_faults g n ds
declaration_whole g n [] = refl
declaration_whole g n (D.Channels kind role names ∷ rest) =
    channel_whole g n (most_channels - n) kind role names.items (declared_of rest) refl
    ∙ ap (λ z. channel_faults g n kind role names.items ++ z) (declaration_whole (g ++ entries (as_channels kind role names.items)) (n + length names.items) rest)
declaration_whole g n (D.Process p ∷ rest) =
    ap (λ z. repeated (lookup (bytes_eq (bytes_of p.name)) g) p.name.span ++ (process_faults p ++ z)) (declaration_whole (g ++ (bytes_of p.name, IsProcess p) ∷ []) n rest)

instance_whole : (t : Program) (before : List Handover) (i : ℕ) (xs : List Instance) → together (instance_parts t before i xs) ≡ instance_faults t before i xs
instance_whole t before i [] = refl
instance_whole t before i (x ∷ xs) =
    let limit = too_many most_instances i x.process.span in
    let made = made_faults t before i (global t x.process) x in
    let more = before ++ handed_by t i x in
    append_assoc limit made (together (instance_parts t more (suc i) xs)) ∙ ap (λ z. limit ++ (made ++ z)) (instance_whole t more (suc i) xs)

sides_whole : (t : Program) (cs : List (Name × (Kind × Role))) → together (map (λ c. side_faults t c.0 c.1.1) cs) ≡ sides_faults t cs
sides_whole t [] = refl
sides_whole t (c ∷ cs) = ap (λ z. side_faults t c.0 c.1.1 ++ z) (sides_whole t cs)

pub whole : (t : Program) → together (parts t ++ side_parts t) ≡ faults t
whole t =
    let ds = name_parts [] most_channels (declared_of t.declarations.items) in
    let is = instance_parts t [] 0 t.instances.items in
    together_append (parts t) (side_parts t)
    ∙ ap (λ z. z ++ together (side_parts t)) (together_append ds is)
    ∙ append_assoc (together ds) (together is) (together (side_parts t))
    ∙ (λ i. declaration_whole [] 0 t.declarations.items i ++ (instance_whole t [] 0 t.instances.items i ++ sides_whole t (declared_channels t.declarations.items) i))

-- ---- the first fault of each

pub firsts_append : (ps qs : List (List CheckFault)) → firsts (ps ++ qs) ≡ firsts ps ++ firsts qs
firsts_append [] qs = refl
firsts_append (p ∷ ps) qs = ap (λ z. first_alone p ++ z) (firsts_append ps qs) ∙ sym (append_assoc (first_alone p) (firsts ps) (firsts qs))

first_same : (ps : List (List CheckFault)) → verdict (firsts ps) (tt {0}) ≡ verdict (together ps) (tt {0})
first_same [] = refl
first_same ([] ∷ ps) = first_same ps
first_same ((f ∷ fs) ∷ ps) = refl

unless_first : (fs gs xs ys : List CheckFault) → verdict fs (tt {0}) ≡ verdict xs (tt {0}) → verdict gs (tt {0}) ≡ verdict ys (tt {0}) → verdict (unless_empty fs gs) (tt {0}) ≡ verdict (xs ++ ys) (tt {0})
unless_first [] gs [] ys h i = i
unless_first (f ∷ fs) gs (x ∷ xs) ys h i = h
unless_first _ gs _ ys h i = cc

pub first : (t : Program) → verdict (faults_by_part t) (tt {0}) ≡ verdict (faults t) (tt {0})
first t =
    unless_first (firsts (parts t)) (firsts (side_parts t)) (together (parts t)) (together (side_parts t)) (first_same (parts t)) (first_same (side_parts t))
    ∙ ap (λ z. verdict z (tt {0})) (sym (together_append (parts t) (side_parts t)) ∙ whole t)
