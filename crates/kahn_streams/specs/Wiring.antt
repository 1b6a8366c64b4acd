-- Believed. Which programs are well wired: a property of the program, which speaks of no walk. First which bodies agree in kind
-- and direction: a relation by cases on the abstract syntax.
use Rattle.std.specs.Prelude.{◌≡◌, List, Option, None, Some, slice_get, ℕ, suc, ◌≤◌, Bool, true, false, ◌&&◌, [], ◌∷◌, ◌++◌, map, length, if◌then◌else◌}
use Rattle.kahn_streams.specs.Types.{Kind, Operator, Taking, Name, Role, Direction, Parameter, Process, Declaration, Argument, Instance, Program, Side}
use Rattle.kahn_streams.specs.{declared.tree.Kind.TheVariants.Integer, declared.tree.Kind.TheVariants.Logical, declared.tree.Direction.TheVariants.In, declared.tree.Direction.TheVariants.Out, declared.tree.Taking.TheVariants.Channel, declared.tree.Taking.TheVariants.Value, Syntax.Constant, Syntax.Expr, Syntax.Stmt, declared.tree.Role.TheVariants.Inner, declared.tree.Role.TheVariants.Input, declared.tree.Role.TheVariants.Output, View.bytes_of, View.body_of}
use Rattle.kahn_streams.specs.declared.tree.Operator.TheVariants.{Or, And, Equal, Unequal, Less, AtMost, Greater, AtLeast, Add, Subtract, Multiply, Divide, Remainder}
use Rattle.kahn_streams.specs.Syntax as S
use Rattle.std.proofs.Common.{bytes_eq}
use Rattle.std.specs.{Map.lookup, List.IsDistinct, List.AllByRecursion}
use Rattle.kahn_streams.specs.declared.tree.Kind.TheVariants as K
use Rattle.kahn_streams.specs.declared.tree.Taking.TheVariants as T
use Rattle.kahn_streams.specs.declared.tree.Declaration.TheVariants as D
use Rattle.kahn_streams.specs.declared.tree.Argument.TheVariants as A

-- the kind that an operator takes; nothing if it takes two operands of any one kind
abbrev pub takes : Operator → Option Kind
takes Or = Some Logical
takes And = Some Logical
takes Equal = None
takes Unequal = None
takes Less = Some Integer
takes AtMost = Some Integer
takes Greater = Some Integer
takes AtLeast = Some Integer
takes Add = Some Integer
takes Subtract = Some Integer
takes Multiply = Some Integer
takes Divide = Some Integer
takes Remainder = Some Integer

-- the kind that it gives
abbrev pub gives : Operator → Kind
gives Or = Logical
gives And = Logical
gives Equal = Logical
gives Unequal = Logical
gives Less = Logical
gives AtMost = Logical
gives Greater = Logical
gives AtLeast = Logical
gives Add = Integer
gives Subtract = Integer
gives Multiply = Integer
gives Divide = Integer
gives Remainder = Integer

abbrev pub constant_kind : Constant → Kind
constant_kind (S.Number z) = Integer
constant_kind (S.Truth b) = Logical

abbrev pub IsTaken : Option Kind → Kind → Type 0
IsTaken None k = Unit {0}
IsTaken (Some j) k = k ≡ j

-- the expression has kind k; w says what each number stands for
abbrev pub HasKind : List Taking → Expr → Kind → Type 0
HasKind w (S.Literal c) k = k ≡ constant_kind c
HasKind w (S.Variable x) k = slice_get w x ≡ Some (Value k)
HasKind w (S.Wait q) k = slice_get w q ≡ Some (Channel In k)
HasKind w (S.Negate e) k = HasKind w e Integer × (k ≡ Integer)
HasKind w (S.Not e) k = HasKind w e Logical × (k ≡ Logical)
HasKind w (S.Binary o a b) k = ((j : Kind) × IsTaken (takes o) j × HasKind w a j × HasKind w b j) × (k ≡ gives o)
HasKind w (S.Conditional t a b) k = HasKind w t Logical × HasKind w a k × HasKind w b k

-- each use in the statement agrees with what its names stand for
abbrev pub Agrees : List Taking → Stmt → Type 0
Agrees w S.Skip = Unit {0}
Agrees w (S.Assign x e) = (k : Kind) × (slice_get w x ≡ Some (Value k)) × HasKind w e k
Agrees w (S.Send e q) = (k : Kind) × (slice_get w q ≡ Some (Channel Out k)) × HasKind w e k
Agrees w (S.Print e) = (k : Kind) × HasKind w e k
Agrees w (S.Seq a b) = Agrees w a × Agrees w b
Agrees w (S.If t a b) = HasKind w t Logical × Agrees w a × Agrees w b
Agrees w (S.While t a) = HasKind w t Logical × Agrees w a
Agrees w (S.Repeat a) = Agrees w a

-- ---- what is declared

-- what the names of a process stand for, in order of declaration
abbrev pub Locals : Type 0
Locals = List (List ℕ × Taking)

-- the names that a process declares, its parameters first and then its variables, and what each stands for
abbrev pub locals_of : Process → List (Name × Taking)
locals_of p = map (λ q. (q.name, q.taking)) p.parameters.items ++ map (λ v. (v.name, T.Value v.kind)) p.variables.items

abbrev pub entries : {A : Type 0} → List (Name × A) → List (List ℕ × A)
entries xs = map (λ e. (bytes_of e.0, e.1)) xs

abbrev pub scope_of : Process → Locals
scope_of p = entries (locals_of p)

-- what a name of the program stands for
pub data Global : Type 0 where
  IsChannel : Kind → Role → Global
  IsProcess : Process → Global

-- the names that the program declares, in order
abbrev pub declared_of : List Declaration → List (Name × Global)
declared_of [] = []
declared_of (D.Channels kind role names ∷ rest) = map (λ n. (n, IsChannel kind role)) names.items ++ declared_of rest
declared_of (D.Process p ∷ rest) = (p.name, IsProcess p) ∷ declared_of rest

-- the declared channels, in order
abbrev pub declared_channels : List Declaration → List (Name × (Kind × Role))
declared_channels [] = []
declared_channels (D.Channels kind role names ∷ rest) = map (λ n. (n, (kind, role))) names.items ++ declared_channels rest
declared_channels (D.Process p ∷ rest) = declared_channels rest

abbrev pub processes_of : List Declaration → List Process
processes_of [] = []
processes_of (D.Channels kind role names ∷ rest) = processes_of rest
processes_of (D.Process p ∷ rest) = p ∷ processes_of rest

abbrev pub global : Program → Name → Option Global
global t n = lookup (bytes_eq (bytes_of n)) (entries (declared_of t.declarations.items))

-- ---- who writes and who reads

-- where a channel is handed over: the instance and the parameter
abbrev pub side_at : ℕ → ℕ → Side
side_at i q = record { instance = i; parameter = q }

-- a channel's name as it is handed over: to be written or to be read, and where
pub record Handover : Type 0 where
  pub direction : Direction
  pub channel : List ℕ
  pub end : Side

abbrev pub handed : Side → Taking → Argument → List Handover
handed e (T.Channel d k) (A.Channel n) = record { direction = d; channel = bytes_of n; end = e } ∷ []
handed e (T.Channel d k) (A.Number z at) = []
handed e (T.Channel d k) (A.Logical b at) = []
handed e (T.Value k) x = []

-- the arguments of instance i from parameter q on
abbrev pub handed_in : ℕ → ℕ → List Parameter → List Argument → List Handover
handed_in i q [] xs = []
handed_in i q (p ∷ ps) [] = []
handed_in i q (p ∷ ps) (x ∷ xs) = handed (side_at i q) p.taking x ++ handed_in i (suc q) ps xs

abbrev pub parameters_of : Option Global → List Parameter
parameters_of None = []
parameters_of (Some (IsChannel kind role)) = []
parameters_of (Some (IsProcess p)) = p.parameters.items

abbrev pub handed_by : Program → ℕ → Instance → List Handover
handed_by t i x = handed_in i 0 (parameters_of (global t x.process)) x.arguments.items

abbrev pub handed_from : Program → ℕ → List Instance → List Handover
handed_from t i [] = []
handed_from t i (x ∷ xs) = handed_by t i x ++ handed_from t (suc i) xs

abbrev pub same_direction : Direction → Direction → Bool
same_direction In In = true
same_direction In Out = false
same_direction Out In = false
same_direction Out Out = true

-- the ends of the channel of that name in that direction, in order
abbrev pub ends : Direction → List ℕ → List Handover → List Side
ends d c [] = []
ends d c (h ∷ hs) = if same_direction d h.direction && bytes_eq c h.channel then h.end ∷ ends d c hs else ends d c hs

-- everyone who writes the channel of that name, and everyone who reads it
abbrev pub writers : Program → List ℕ → List Side
writers t c = ends Out c (handed_from t 0 t.instances.items)

abbrev pub readers : Program → List ℕ → List Side
readers t c = ends In c (handed_from t 0 t.instances.items)

-- whether no instance may stand at that side of the channel
abbrev pub is_closed : Direction → Role → Bool
is_closed Out Input = true
is_closed Out Inner = false
is_closed Out Output = false
is_closed In Output = true
is_closed In Inner = false
is_closed In Input = false

-- ---- well wired

abbrev pub IsOne : List Side → Type 0
IsOne ends = (e : Side) × (ends ≡ e ∷ [])

abbrev pub IsWired : Program → Name × (Kind × Role) → Type 0
IsWired t (n, (kind, Inner)) = IsOne (writers t (bytes_of n)) × IsOne (readers t (bytes_of n))
IsWired t (n, (kind, Input)) = (writers t (bytes_of n) ≡ []) × IsOne (readers t (bytes_of n))
IsWired t (n, (kind, Output)) = IsOne (writers t (bytes_of n)) × (readers t (bytes_of n) ≡ [])

-- the argument is what the parameter wants
abbrev pub Fits : Program → Taking → Argument → Type 0
Fits t (T.Channel d k) (A.Channel n) = (role : Role) × (global t n ≡ Some (IsChannel k role))
Fits t (T.Channel d k) (A.Number z at) = ⊥
Fits t (T.Channel d k) (A.Logical b at) = ⊥
Fits t (T.Value k) (A.Channel n) = ⊥
Fits t (T.Value k) (A.Number z at) = k ≡ K.Integer
Fits t (T.Value k) (A.Logical b at) = k ≡ K.Logical

-- as many arguments as parameters, each of which fits
abbrev pub AllFit : Program → List Parameter → List Argument → Type 0
AllFit t [] [] = Unit {0}
AllFit t [] (x ∷ xs) = ⊥
AllFit t (p ∷ ps) [] = ⊥
AllFit t (p ∷ ps) (x ∷ xs) = Fits t p.taking x × AllFit t ps xs

abbrev pub IsMade : Program → Instance → Type 0
IsMade t i = (p : Process) × (global t i.process ≡ Some (IsProcess p)) × AllFit t p.parameters.items i.arguments.items

abbrev pub IsSound : Process → Type 0
IsSound p = IsDistinct bytes_eq (map (λ e. e.0) (scope_of p)) × Agrees (map (λ e. e.1) (scope_of p)) (body_of (map (λ e. e.0) (scope_of p)) p.statements.items)

pub record IsWellWired (t : Program) : Type 0 where
  -- channels and processes are one name space, and each process has another
  pub names : IsDistinct bytes_eq (map (λ e. e.0) (entries (declared_of t.declarations.items)))
  pub processes : AllByRecursion IsSound (processes_of t.declarations.items)
  pub instances : AllByRecursion (IsMade t) t.instances.items
  pub channels : AllByRecursion (IsWired t) (declared_channels t.declarations.items)
  pub channel_limit : length (declared_channels t.declarations.items) ≤ 1024
  pub instance_limit : length t.instances.items ≤ 256
