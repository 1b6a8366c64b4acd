-- Believed. What is wrong with a program, in the order in which it is looked for: with a body, with a whole program. Only the first
-- is answered; those after it don't matter.
use Rattle.kahn_streams.specs.Wiring.{Locals, is_closed, locals_of, scope_of, entries, Global, IsChannel, IsProcess, declared_channels, global, Handover, handed, handed_by, ends, writers, readers, side_at, takes, gives}
use Rattle.std.specs.Prelude.{◌≡◌, ◌⊎◌, ℕ, Bool, true, false, List, [], ◌∷◌, ◌++◌, Option, None, Some, Result, Ok, Err, MatchResult, IsSome, if◌then◌else◌, suc, ◌+◌, map, length, nat_lt, nat_eq}
use Rattle.std.proofs.Common.{bytes_eq}
use Rattle.std.specs.Map.{lookup}
use Rattle.kahn_streams.specs.{declared.span.Span.Span, declared.tree.Name.Name, declared.tree.Kind.Kind, declared.tree.Direction.Direction, declared.tree.Taking.Taking, declared.tree.Expression.Expression, declared.tree.Statement.Statement, declared.tree.Role.Role, declared.tree.Parameter.Parameter, declared.tree.Process.Process, declared.tree.Declaration.Declaration, declared.tree.Argument.Argument, declared.tree.Instance.Instance, declared.tree.Program.Program, declared.sides.Side.Side, declared.tree.Kind.TheVariants.Integer, declared.tree.Kind.TheVariants.Logical, declared.tree.Direction.TheVariants.In, declared.tree.Direction.TheVariants.Out, declared.tree.Taking.TheVariants.Channel, declared.tree.Taking.TheVariants.Value, View.bytes_of, declared.fault.CheckFault.CheckFault, declared.tree.Role.TheVariants.Inner, declared.tree.Role.TheVariants.Input, declared.tree.Role.TheVariants.Output}
use Rattle.kahn_streams.specs.declared.tree.Form.{Form, Number, Variable, Wait, Negate', Not', Bracket', Level', Conditional', Row_of-Operand, end_of-Operand, more_of-Operand}
use Rattle.kahn_streams.specs.declared.tree.Action.{Action, Empty, Assign, Send, Print, Block', If', While', Repeat', Row_of-Statement, end_of-Statement, more_of-Statement, Held-Action-If-2, None', Some'}
use Rattle.kahn_streams.specs.declared.tree.Form as F
use Rattle.kahn_streams.specs.declared.fault.CheckFault.TheVariants.{DeclaredTwice, Unknown, WrongKind, ChannelExpected, ValueExpected, WrongDirection, NoMemory, WrongCount, NoWriter, TwoWriters, NoReader, TwoReaders, TooMany}
use Rattle.kahn_streams.specs.declared.tree.Kind.TheVariants as K
use Rattle.kahn_streams.specs.declared.tree.Taking.TheVariants as T
use Rattle.kahn_streams.specs.declared.tree.Declaration.TheVariants as D
use Rattle.kahn_streams.specs.declared.tree.Argument.TheVariants as A

abbrev pub find : Locals → List ℕ → Option Taking
find s x = lookup (bytes_eq x) s

-- the first fault, or what a part without faults gives
abbrev pub verdict : {A : Type 0} → List CheckFault → A → Result A CheckFault
verdict [] a = Ok a
verdict (f ∷ fs) a = Err f

-- refused memory, which is possible at any growth, or the first fault of the list
abbrev pub IsMet : List CheckFault → CheckFault → Type 0
IsMet fs f = (f ≡ NoMemory) ⊎ (verdict fs (tt {0}) ≡ Err f)

-- either the list has no fault and the result is `made`, or memory was refused, or the result is the list's first fault
abbrev pub Checks : {A : Type 0} → List CheckFault → (A → Type 0) → Result A CheckFault → Type 0
Checks fs made result = MatchResult result (λ x. made x × (fs ≡ [])) (λ f. IsMet fs f)

-- the name is declared after those before it, or it is declared already
abbrev pub Declares : {A B : Type 0} → Name → A → List (List ℕ × A) → List (List ℕ × A) → Result B CheckFault → Type 0
Declares name what before after result =
    MatchResult result (λ u. (lookup (bytes_eq (bytes_of name)) before ≡ None) × (after ≡ before ++ (bytes_of name, what) ∷ []))
    (λ f. (f ≡ NoMemory) ⊎ ((f ≡ DeclaredTwice name.span) × IsSome (lookup (bytes_eq (bytes_of name)) before)))

abbrev pub same_kind : Kind → Kind → Bool
same_kind Integer Integer = true
same_kind Integer Logical = false
same_kind Logical Integer = false
same_kind Logical Logical = true

-- where kind `wanted` is expected, kind `found` is wrong unless it is the same
abbrev pub wrong : Kind → Kind → Span → List CheckFault
wrong wanted found at = if same_kind wanted found then [] else WrongKind at ∷ []

-- a name that is read or assigned as a variable
abbrev pub misread : Option Taking → Span → List CheckFault
misread None at = Unknown at ∷ []
misread (Some (Channel d k)) at = ValueExpected at ∷ []
misread (Some (Value k)) at = []

-- a name that is used as a channel in the direction `wanted`
abbrev pub misused : Direction → Option Taking → Span → List CheckFault
misused wanted None at = Unknown at ∷ []
misused wanted (Some (Value k)) at = ChannelExpected at ∷ []
misused In (Some (Channel In k)) at = []
misused In (Some (Channel Out k)) at = WrongDirection at ∷ []
misused Out (Some (Channel In k)) at = WrongDirection at ∷ []
misused Out (Some (Channel Out k)) at = []

-- the kind of a value, or of the values of a channel
abbrev pub kind_in : Option Taking → Kind
kind_in None = Integer
kind_in (Some (Channel d k)) = k
kind_in (Some (Value k)) = k

-- the kind of a level after its first operand
abbrev pub level_kind : {m : _} → Kind → Row_of-Operand m → Kind
level_kind k end_of-Operand = k
level_kind k (more_of-Operand o at e rest) = level_kind (gives o) rest

-- the kind of an expression that has no fault inside
abbrev pub kind_of : Locals → Form → Kind
kind_of s (Number z) = Integer
kind_of s (F.Logical b) = Logical
kind_of s (Variable x) = kind_in (find s (bytes_of x))
kind_of s (Wait q) = kind_in (find s (bytes_of q))
kind_of s (Negate' p at e) = Integer
kind_of s (Not' p at e) = Logical
kind_of s (Bracket' p at e) = kind_of s e
kind_of s (Level' p at e shape rest) = level_kind (kind_of s e) rest
kind_of s (Conditional' p at t q at' a r at'' b) = kind_of s a

-- the first operand's kind, by the operator after it
abbrev pub wrong_first : Option Kind → Kind → Span → List CheckFault
wrong_first None found at = []
wrong_first (Some wanted) found at = wrong wanted found at

-- the second operand's kind, by the operator before it and the first operand's kind
abbrev pub wrong_second : Option Kind → Kind → Kind → Span → List CheckFault
wrong_second None first found at = wrong first found at
wrong_second (Some wanted) first found at = wrong wanted found at

abbrev pub spanning : Span → Span → Span
spanning a b = record { from = a.from; to = b.to }

abbrev mutual
  -- what is wrong inside an expression, from left to right, and the kind of an operand after its inside
  pub faults_in : Locals → Form → List CheckFault
  faults_in s (Number z) = []
  faults_in s (F.Logical b) = []
  faults_in s (Variable x) = misread (find s (bytes_of x)) x.span
  faults_in s (Wait q) = misused In (find s (bytes_of q)) q.span
  faults_in s (Negate' p at e) = faults_in s e ++ wrong Integer (kind_of s e) at
  faults_in s (Not' p at e) = faults_in s e ++ wrong Logical (kind_of s e) at
  faults_in s (Bracket' p at e) = faults_in s e
  faults_in s (Level' p at e shape rest) = faults_in s e ++ level_faults s (kind_of s e) at rest
  faults_in s (Conditional' p at t q at' a r at'' b) =
      (faults_in s t ++ wrong Logical (kind_of s t) at) ++ (faults_in s a ++ (faults_in s b ++ wrong (kind_of s a) (kind_of s b) at''))

  -- what is wrong with the operands of a level after the first; what is before has kind k and span `done`
  pub level_faults : {m : _} → Locals → Kind → Span → Row_of-Operand m → List CheckFault
  level_faults s k done end_of-Operand = []
  level_faults s k done (more_of-Operand o at e rest) =
      wrong_first (takes o) k done ++ (faults_in s e ++ (wrong_second (takes o) k (kind_of s e) at ++ level_faults s (gives o) (spanning done at) rest))

-- an expression where kind k is wanted: its inside, then its kind
abbrev pub faults_as : Kind → Locals → Expression → List CheckFault
faults_as k s e = faults_in s e.form ++ wrong k (kind_of s e.form) e.span

abbrev mutual
  pub faults_of : Locals → Action → List CheckFault
  faults_of s Empty = []
  faults_of s (Assign x e) = misread (find s (bytes_of x)) x.span ++ faults_as (kind_in (find s (bytes_of x))) s e
  faults_of s (Send e q) = faults_in s e.form ++ (misused Out (find s (bytes_of q)) q.span ++ wrong (kind_in (find s (bytes_of q))) (kind_of s e.form) e.span)
  faults_of s (Print e) = faults_in s e.form
  faults_of s (Block' shape row) = row_faults s row
  faults_of s (If' t p at a b) = faults_as Logical s t ++ (faults_of s a ++ else_faults s b)
  faults_of s (While' t p at a) = faults_as Logical s t ++ faults_of s a
  faults_of s (Repeat' p at a) = faults_of s a

  pub row_faults : {m : _} → Locals → Row_of-Statement m → List CheckFault
  row_faults s end_of-Statement = []
  row_faults s (more_of-Statement at a rest) = faults_of s a ++ row_faults s rest

  pub else_faults : Locals → Held-Action-If-2 → List CheckFault
  else_faults s None' = []
  else_faults s (Some' p at a) = faults_of s a

abbrev pub body_faults : Locals → List Statement → List CheckFault
body_faults s [] = []
body_faults s (t ∷ rest) = faults_of s t.action ++ body_faults s rest

-- the most channels, and the most instances
abbrev pub most_channels : ℕ
most_channels = 1024

abbrev pub most_instances : ℕ
most_instances = 256

abbrev pub too_many : ℕ → ℕ → Span → List CheckFault
too_many limit before at = if nat_lt before limit then [] else TooMany at ∷ []

-- a name that is declared twice
abbrev pub repeated : {A : Type 0} → Option A → Span → List CheckFault
repeated None at = []
repeated (Some x) at = DeclaredTwice at ∷ []

-- each name in turn, after those of `known`
abbrev pub twice : {A : Type 0} → List (List ℕ × A) → List (Name × A) → List CheckFault
twice known [] = []
twice known (e ∷ es) = repeated (lookup (bytes_eq (bytes_of e.0)) known) e.0.span ++ twice (known ++ (bytes_of e.0, e.1) ∷ []) es

-- ---- declarations

abbrev pub process_faults : Process → List CheckFault
process_faults p = twice [] (locals_of p) ++ body_faults (scope_of p) p.statements.items

-- the names of a channel declaration, after n channels
abbrev pub channel_faults : List (List ℕ × Global) → ℕ → Kind → Role → List Name → List CheckFault
channel_faults known n kind role [] = []
channel_faults known n kind role (x ∷ xs) =
    too_many most_channels n x.span ++ (repeated (lookup (bytes_eq (bytes_of x)) known) x.span ++ channel_faults (known ++ (bytes_of x, IsChannel kind role) ∷ []) (suc n) kind role xs)

abbrev pub declaration_faults : List (List ℕ × Global) → ℕ → List Declaration → List CheckFault
declaration_faults known n [] = []
declaration_faults known n (D.Channels kind role names ∷ rest) =
    channel_faults known n kind role names.items ++ declaration_faults (known ++ entries (map (λ x. (x, IsChannel kind role)) names.items)) (n + length names.items) rest
declaration_faults known n (D.Process p ∷ rest) =
    repeated (lookup (bytes_eq (bytes_of p.name)) known) p.name.span ++ (process_faults p ++ declaration_faults (known ++ (bytes_of p.name, IsProcess p) ∷ []) n rest)

-- ---- instances

abbrev pub second : Direction → Span → CheckFault
second Out at = TwoWriters at
second In at = TwoReaders at

-- a channel that is handed over in a closed direction, or that one of `taken` has already
abbrev pub overtaken : Direction → Bool → List Side → Span → List CheckFault
overtaken d true taken at = second d at ∷ []
overtaken d false [] at = []
overtaken d false (e ∷ taken) at = second d at ∷ []

abbrev pub misplaced : Direction → Kind → Option Global → List Side → Span → List CheckFault
misplaced d k None taken at = Unknown at ∷ []
misplaced d k (Some (IsProcess p)) taken at = ChannelExpected at ∷ []
misplaced d k (Some (IsChannel kind role)) taken at = wrong k kind at ++ overtaken d (is_closed d role) taken at

abbrev pub argument_faults : Program → List Handover → Taking → Argument → List CheckFault
argument_faults t before (T.Channel d k) (A.Channel n) = misplaced d k (global t n) (ends d (bytes_of n) before) n.span
argument_faults t before (T.Channel d k) (A.Number z at) = ChannelExpected at ∷ []
argument_faults t before (T.Channel d k) (A.Logical b at) = ChannelExpected at ∷ []
argument_faults t before (T.Value k) (A.Channel n) = ValueExpected n.span ∷ []
argument_faults t before (T.Value k) (A.Number z at) = wrong k K.Integer at
argument_faults t before (T.Value k) (A.Logical b at) = wrong k K.Logical at

-- the arguments of instance i from parameter q on
abbrev pub arguments_faults : Program → List Handover → ℕ → ℕ → List Parameter → List Argument → List CheckFault
arguments_faults t before i q [] xs = []
arguments_faults t before i q (p ∷ ps) [] = []
arguments_faults t before i q (p ∷ ps) (x ∷ xs) =
    argument_faults t before p.taking x ++ arguments_faults t (before ++ handed (side_at i q) p.taking x) i (suc q) ps xs

abbrev pub miscounted : ℕ → ℕ → Span → List CheckFault
miscounted wanted found at = if nat_eq wanted found then [] else WrongCount at ∷ []

abbrev pub made_faults : Program → List Handover → ℕ → Option Global → Instance → List CheckFault
made_faults t before i None x = Unknown x.process.span ∷ []
made_faults t before i (Some (IsChannel kind role)) x = Unknown x.process.span ∷ []
made_faults t before i (Some (IsProcess p)) x =
    miscounted (length p.parameters.items) (length x.arguments.items) x.process.span ++ arguments_faults t before i 0 p.parameters.items x.arguments.items

-- the instances from the ith on
abbrev pub instance_faults : Program → List Handover → ℕ → List Instance → List CheckFault
instance_faults t before i [] = []
instance_faults t before i (x ∷ xs) =
    too_many most_instances i x.process.span ++ (made_faults t before i (global t x.process) x ++ instance_faults t (before ++ handed_by t i x) (suc i) xs)

-- ---- channels

abbrev pub missing : List Side → CheckFault → List CheckFault
missing [] f = f ∷ []
missing (e ∷ es) f = []

abbrev pub side_faults : Program → Name → Role → List CheckFault
side_faults t n Inner = missing (writers t (bytes_of n)) (NoWriter n.span) ++ missing (readers t (bytes_of n)) (NoReader n.span)
side_faults t n Input = missing (readers t (bytes_of n)) (NoReader n.span)
side_faults t n Output = missing (writers t (bytes_of n)) (NoWriter n.span)

abbrev pub sides_faults : Program → List (Name × (Kind × Role)) → List CheckFault
sides_faults t [] = []
sides_faults t (c ∷ cs) = side_faults t c.0 c.1.1 ++ sides_faults t cs

-- ---- the whole program

abbrev pub faults : Program → List CheckFault
faults t =
    declaration_faults [] 0 t.declarations.items
    ++ (instance_faults t [] 0 t.instances.items ++ sides_faults t (declared_channels t.declarations.items))
