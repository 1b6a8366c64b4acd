-- Believed. A network as contracts see it, a parallel program schema (section 3 of Kahn's paper): its channels, and its instances with what is handed to each parameter; who writes
-- and who reads a channel, by numbers. The main program of Kahn's paper (section 2) composes instances of processes by channels;
-- the kinds, roles and value arguments are this project's profile.
use Rattle.std.specs.Prelude.{ℕ, suc, List, [], ◌∷◌, ◌++◌, map, Option, Some, None, pos, Bool, true, false, ◌==◌, if◌then◌else◌, slice_index_or, ◌≡◌, ◌<◌, length}
use Rattle.std.proofs.Common.{bytes_eq}
use Rattle.kahn_streams.specs.Types.{Kind, Role, Taking, Parameter, Process, Declaration, Argument, Program, Side}
use Rattle.kahn_streams.specs.declared.tree.Kind.TheVariants as KindOf
use Rattle.kahn_streams.specs.{declared.tree.Role.TheVariants.Inner, declared.tree.Role.TheVariants.Input, declared.tree.Role.TheVariants.Output, declared.tree.Direction.TheVariants.In, declared.tree.Direction.TheVariants.Out, Syntax.Stmt, View.Scope, View.number_of, View.bytes_of, View.names_of, View.body_of, Wiring.constant_kind, Wiring.Agrees}
use Rattle.kahn_streams.specs.declared.tree.Taking.TheVariants as T
use Rattle.kahn_streams.specs.declared.tree.Declaration.TheVariants as D
use Rattle.kahn_streams.specs.declared.tree.Argument.TheVariants as A
use Rattle.kahn_streams.specs.Syntax as S
use Rattle.std.specs.List.{AllByRecursion}

-- what an instance hands to a parameter: a channel to read, a channel to write, or a value
pub data Actual : Type 0 where
  Reads : ℕ → Actual
  Writes : ℕ → Actual
  Hands : S.Constant → Actual

-- an instance: the actuals of its parameters, the kinds of its variables, and its body
pub record Node : Type 0 where
  pub actuals : List Actual
  pub variables : List Kind
  pub body : Stmt

-- a network: each channel's kind and role, and the instances
pub record Schema : Type 0 where
  pub channels : List (Kind × Role)
  pub instances : List Node

abbrev pub idle : Node
idle = record { actuals = []; variables = []; body = Stmt.Skip }

abbrev pub instance_at : Schema → ℕ → Node
instance_at N p = slice_index_or N.instances p idle

abbrev pub actual_at : Node → ℕ → Actual
actual_at i q = slice_index_or i.actuals q (Hands (S.Number (pos 0)))

abbrev pub kind_at : Schema → ℕ → Kind
kind_at N c = (slice_index_or N.channels c (KindOf.Integer, Inner)).0

abbrev pub role_at : Schema → ℕ → Role
role_at N c = (slice_index_or N.channels c (KindOf.Integer, Inner)).1

-- ---- who writes a channel

abbrev pub is_written : Actual → ℕ → Bool
is_written (Writes d) c = d == c
is_written (Reads d) c = false
is_written (Hands v) c = false

-- from outside, by an instance, or by nobody
pub data Source : Type 0 where
  Given : Source
  Written : ℕ → Source
  Nobody : Source

abbrev pub any_written : List Actual → ℕ → Bool
any_written [] c = false
any_written (a ∷ rest) c = if is_written a c then true else any_written rest c

abbrev pub first_writer : List Node → ℕ → ℕ → Source
first_writer [] p c = Nobody
first_writer (i ∷ rest) p c = if any_written i.actuals c then Written p else first_writer rest (suc p) c

abbrev pub source_by : Role → Source → Source
source_by Input s = Given
source_by Inner s = s
source_by Output s = s

abbrev pub channel_source : Schema → ℕ → Source
channel_source N c = source_by (role_at N c) (first_writer N.instances 0 c)

-- ---- the network of a program

-- the declared channels, in order
abbrev pub channels_of : List Declaration → List (List ℕ × (Kind × Role))
channels_of [] = []
channels_of (D.Channels kind role names ∷ rest) = map (λ n. (bytes_of n, (kind, role))) names.items ++ channels_of rest
channels_of (D.Process p ∷ rest) = channels_of rest

-- the process of that name
abbrev pub process_of : List Declaration → List ℕ → Option Process
process_of [] x = None
process_of (D.Channels kind role names ∷ rest) x = process_of rest x
process_of (D.Process p ∷ rest) x = if bytes_eq x (bytes_of p.name) then Some p else process_of rest x

-- what an argument hands to a parameter. A checked program has no other pair.
abbrev pub actual_of : Scope → Taking → Argument → Actual
actual_of channels (T.Channel In k) (A.Channel n) = Reads (number_of channels n)
actual_of channels (T.Channel Out k) (A.Channel n) = Writes (number_of channels n)
actual_of channels (T.Value k) (A.Channel n) = Hands (S.Number (pos 0))
actual_of channels w (A.Number z at) = Hands (S.Number z)
actual_of channels w (A.Logical b at) = Hands (S.Truth b)

abbrev pub actuals_of : Scope → List Parameter → List Argument → List Actual
actuals_of channels [] xs = []
actuals_of channels (q ∷ qs) [] = []
actuals_of channels (q ∷ qs) (x ∷ xs) = actual_of channels q.taking x ∷ actuals_of channels qs xs

abbrev pub instance_from : Scope → Option Process → List Argument → Node
instance_from channels None xs = idle
instance_from channels (Some p) xs = record {
  actuals = actuals_of channels p.parameters.items xs;
  variables = map (λ v. v.kind) p.variables.items;
  body = body_of (names_of p) p.statements.items;
}

abbrev pub network_of : Program → Schema
network_of t =
    let channels = channels_of t.declarations.items in
    record {
      channels = map (λ c. c.1) channels;
      instances = map (λ i. instance_from (map (λ c. c.0) channels) (process_of t.declarations.items (bytes_of i.process)) i.arguments.items) t.instances.items;
    }

-- the network has that instance, and the instance that parameter
abbrev pub IsWithin : Schema → Side → Type 0
IsWithin n s = (s.instance < length n.instances) × (s.parameter < length (instance_at n s.instance).actuals)

-- what is handed to that parameter
abbrev pub handed_at : Schema → Side → Actual
handed_at n s = actual_at (instance_at n s.instance) s.parameter

-- channel c is handed to that parameter, to be written
abbrev pub IsWriter : Schema → ℕ → Side → Type 0
IsWriter n c s = IsWithin n s × (handed_at n s ≡ Writes c)

-- channel c is handed to that parameter, to be read
abbrev pub IsReader : Schema → ℕ → Side → Type 0
IsReader n c s = IsWithin n s × (handed_at n s ≡ Reads c)

-- that one and no other; or nobody
abbrev pub IsOnly : (Side → Type 0) → Option Side → Type 0
IsOnly P None = (s : Side) → P s → ⊥
IsOnly P (Some e) = P e × ((s : Side) → P s → s ≡ e)

-- where the values of a channel come from that has this writer: from outside if it has none
abbrev pub source_of : Option Side → Source
source_of None = Given
source_of (Some s) = Written s.instance

-- the names of the channels, by their numbers
abbrev pub channel_names : Program → Scope
channel_names t = map (λ c. c.0) (channels_of t.declarations.items)

-- what the parameter takes to which this is handed
abbrev pub taking_of : Schema → Actual → Taking
taking_of n (Reads c) = T.Channel In (kind_at n c)
taking_of n (Writes c) = T.Channel Out (kind_at n c)
taking_of n (Hands v) = T.Value (constant_kind v)

-- what each name of an instance stands for, its parameters first and then its variables
abbrev pub takings_of : Schema → Node → List Taking
takings_of n i = map (taking_of n) i.actuals ++ map (λ k. T.Value k) i.variables

-- the channel that is handed over is one of the network's
abbrev pub IsListed : Schema → Actual → Type 0
IsListed n (Reads c) = c < length n.channels
IsListed n (Writes c) = c < length n.channels
IsListed n (Hands v) = Unit {0}

-- one side and no other passes, or none does
abbrev pub HasOne : (Side → Type 0) → Type 0
HasOne P = (s : Side) × IsOnly P (Some s)

abbrev pub HasNone : (Side → Type 0) → Type 0
HasNone P = IsOnly P None

-- a channel of that role has one writer and one reader, but for an input no writer and for an output no reader
abbrev pub IsServed : Schema → ℕ → Role → Type 0
IsServed n c Inner = HasOne (IsWriter n c) × HasOne (IsReader n c)
IsServed n c Input = HasNone (IsWriter n c) × HasOne (IsReader n c)
IsServed n c Output = HasOne (IsWriter n c) × HasNone (IsReader n c)

-- each name of the instance is used as what it stands for, and each channel handed to it is one of the network's
abbrev pub IsFit : Schema → Node → Type 0
IsFit n i = Agrees (takings_of n i) i.body × AllByRecursion (IsListed n) i.actuals
