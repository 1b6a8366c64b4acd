-- Inner. The same faults of instances, by tables of who has each side of a channel.
use Rattle.std.specs.Prelude.{◌≡◌, ℕ, suc, List, [], ◌∷◌, ◌++◌, map, length, Option, None, Some, if◌then◌else◌}
use Rattle.std.proofs.Common.{bytes_eq}
use Rattle.std.specs.Map.{lookup}
use Rattle.kahn_streams.specs.{declared.tree.Name.Name, declared.tree.Kind.Kind, declared.tree.Role.Role, declared.tree.Direction.Direction, declared.tree.Taking.Taking, declared.tree.Parameter.Parameter, declared.tree.Argument.Argument, declared.tree.Instance.Instance, declared.sides.Side.Side, declared.tree.Role.TheVariants.Inner, declared.tree.Role.TheVariants.Input, declared.tree.Role.TheVariants.Output, declared.tree.Direction.TheVariants.In, declared.tree.Direction.TheVariants.Out, View.bytes_of, Faults.wrong, Faults.most_instances, Faults.misplaced, Faults.too_many, Faults.miscounted, Faults.missing, declared.fault.CheckFault.CheckFault, declared.fault.CheckFault.TheVariants.Unknown, declared.fault.CheckFault.TheVariants.ChannelExpected, declared.fault.CheckFault.TheVariants.ValueExpected, declared.fault.CheckFault.TheVariants.NoWriter, declared.fault.CheckFault.TheVariants.NoReader}
use Rattle.kahn_streams.specs.declared.tree.Kind.TheVariants as K
use Rattle.kahn_streams.specs.declared.tree.Taking.TheVariants as T
use Rattle.kahn_streams.specs.declared.tree.Argument.TheVariants as A
use Rattle.kahn_streams.specs.Wiring.{Global, IsChannel, IsProcess, Handover, handed, handed_in, parameters_of, same_direction, side_at}

-- by a channel's name, the end that has this side of it
abbrev pub Ends : Type 0
Ends = List (List ℕ × Side)

abbrev pub held : Option Side → List Side
held None = []
held (Some e) = e ∷ []

abbrev pub taken : Direction → List Handover → Ends
taken d [] = []
taken d (h ∷ hs) = if same_direction d h.direction then (h.channel, h.end) ∷ taken d hs else taken d hs

-- both tables hold what is handed over
abbrev pub HaveGot : List Handover → Ends → Ends → Ends → Ends → Type 0
HaveGot hs w r w' r' = (w' ≡ w ++ taken Out hs) × (r' ≡ r ++ taken In hs)

abbrev pub misplaced_in : List (List ℕ × Global) → Ends → Direction → Kind → Name → List CheckFault
misplaced_in g s d k n = misplaced d k (lookup (bytes_eq (bytes_of n)) g) (held (lookup (bytes_eq (bytes_of n)) s)) n.span

abbrev pub side_of : Direction → Ends → Ends → Ends
side_of Out w r = w
side_of In w r = r

abbrev pub place_faults : List (List ℕ × Global) → Ends → Ends → Taking → Argument → List CheckFault
place_faults g w r (T.Channel d k) (A.Channel n) = misplaced_in g (side_of d w r) d k n
place_faults g w r (T.Channel d k) (A.Number z at) = ChannelExpected at ∷ []
place_faults g w r (T.Channel d k) (A.Logical b at) = ChannelExpected at ∷ []
place_faults g w r (T.Value k) (A.Channel n) = ValueExpected n.span ∷ []
place_faults g w r (T.Value k) (A.Number z at) = wrong k K.Integer at
place_faults g w r (T.Value k) (A.Logical b at) = wrong k K.Logical at

abbrev pub places_faults : List (List ℕ × Global) → Ends → Ends → ℕ → ℕ → List Parameter → List Argument → List CheckFault
places_faults g w r i q [] xs = []
places_faults g w r i q (p ∷ ps) [] = []
places_faults g w r i q (p ∷ ps) (x ∷ xs) =
    place_faults g w r p.taking x ++ places_faults g (w ++ taken Out (handed (side_at i q) p.taking x)) (r ++ taken In (handed (side_at i q) p.taking x)) i (suc q) ps xs

abbrev pub made_in : List (List ℕ × Global) → Ends → Ends → ℕ → Option Global → Instance → List CheckFault
made_in g w r i None x = Unknown x.process.span ∷ []
made_in g w r i (Some (IsChannel kind role)) x = Unknown x.process.span ∷ []
made_in g w r i (Some (IsProcess p)) x =
    miscounted (length p.parameters.items) (length x.arguments.items) x.process.span ++ places_faults g w r i 0 p.parameters.items x.arguments.items

abbrev pub meant : List (List ℕ × Global) → Instance → Option Global
meant g x = lookup (bytes_eq (bytes_of x.process)) g

abbrev pub handed_to : List (List ℕ × Global) → ℕ → Instance → List Handover
handed_to g i x = handed_in i 0 (parameters_of (meant g x)) x.arguments.items

abbrev pub handed_all : List (List ℕ × Global) → ℕ → List Instance → List Handover
handed_all g i [] = []
handed_all g i (x ∷ xs) = handed_to g i x ++ handed_all g (suc i) xs

-- the faults of instance i
abbrev pub seat_faults : List (List ℕ × Global) → Ends → Ends → ℕ → Instance → List CheckFault
seat_faults g w r i x = too_many most_instances i x.process.span ++ made_in g w r i (meant g x) x

-- those of each instance from the ith on
abbrev pub seats_parts : List (List ℕ × Global) → Ends → Ends → ℕ → List Instance → List (List CheckFault)
seats_parts g w r i [] = []
seats_parts g w r i (x ∷ xs) = seat_faults g w r i x ∷ seats_parts g (w ++ taken Out (handed_to g i x)) (r ++ taken In (handed_to g i x)) (suc i) xs

abbrev pub side_in : Ends → Ends → Name → Role → List CheckFault
side_in w r n Inner = missing (held (lookup (bytes_eq (bytes_of n)) w)) (NoWriter n.span) ++ missing (held (lookup (bytes_eq (bytes_of n)) r)) (NoReader n.span)
side_in w r n Input = missing (held (lookup (bytes_eq (bytes_of n)) r)) (NoReader n.span)
side_in w r n Output = missing (held (lookup (bytes_eq (bytes_of n)) w)) (NoWriter n.span)

-- the faults of each channel's sides
abbrev pub sides_parts : Ends → Ends → List (Name × (Kind × Role)) → List (List CheckFault)
sides_parts w r cs = map (λ c. side_in w r c.0 c.1.1) cs
