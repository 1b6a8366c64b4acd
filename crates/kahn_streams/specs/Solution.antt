-- Believed. What the processes of a network send on given histories, and the least solution of the network's equations,
-- as the limit of the iterates that start from empty histories (Kahn's paper, section 3). Events, ends and the
-- size are this project's profile.
use Rattle.std.specs.Prelude.{◌≡◌, ℕ, zero, suc, ◌+◌, ◌≤◌, ◌==◌, Bool, false, List, [], ◌∷◌, ◌++◌, map, Option, Some, None, pos, if◌then◌else◌, slice_get}
use Rattle.kahn_streams.specs.{Types.Value, Types.Failure, Types.Line, Types.Kind, declared.value.Value.TheVariants.Integer, declared.value.Value.TheVariants.Logical, declared.value.Line.TheVariants.Channel, declared.value.Line.TheVariants.Print, Meaning.Store, Meaning.constant, Meaning.exec}
use Rattle.kahn_streams.specs.declared.tree.Kind.TheVariants as KindOf
use Rattle.kahn_streams.specs.Network.{Actual, Node, Schema, Reads, Writes, Hands, instance_at, actual_at, is_written, Source, Given, Written, Nobody, channel_source}
use Rattle.kahn_streams.specs.Script.{Port, Parameter, Printer, Tapes, ScriptOutcome, Got, Dry, Fault, Cut, Reached}

-- a history for each line
abbrev pub Histories : Type 0
Histories = Line → List Value

-- the lists of the input channels, by the channel's number
abbrev pub Inputs : Type 0
Inputs = ℕ → List Value

-- ---- opening values and tapes

abbrev pub opening_of : Actual → Value
opening_of (Reads c) = Integer (pos 0)
opening_of (Writes c) = Integer (pos 0)
opening_of (Hands c) = constant c

abbrev pub default_of : Kind → Value
default_of KindOf.Integer = Integer (pos 0)
default_of KindOf.Logical = Logical false

abbrev pub opening : Node → Store
opening i = map opening_of i.actuals ++ map default_of i.variables

abbrev pub tape_of : Histories → Actual → List Value
tape_of H (Reads c) = H (Channel c)
tape_of H (Writes c) = []
tape_of H (Hands v) = []

-- each `in` parameter has the tape of its channel
abbrev pub tapes_of : Node → Histories → Tapes
tapes_of i H q = tape_of H (actual_at i q)

-- instance p of the network, with n events, on tapes H
abbrev pub exec_at : Schema → ℕ → ℕ → Histories → Reached Store
exec_at N n p H = exec n (instance_at N p).body (opening (instance_at N p)) (tapes_of (instance_at N p) H)

-- ---- what it sends on a line

abbrev pub goes_to : Schema → ℕ → Line → Port → Bool
goes_to N p (Channel c) (Parameter q) = is_written (actual_at (instance_at N p) q) c
goes_to N p (Print r) Printer = p == r
goes_to N p (Channel c) Printer = false
goes_to N p (Print r) (Parameter q) = false

abbrev pub values_at : (Port → Bool) → List (Port × Value) → List Value
values_at here [] = []
values_at here (x ∷ xs) = if here x.0 then x.1 ∷ values_at here xs else values_at here xs

abbrev pub out : Schema → ℕ → ℕ → Histories → Histories
out N n p H c = values_at (goes_to N p c) (exec_at N n p H).sent

-- ---- who writes a line

abbrev pub source : Schema → Line → Source
source N (Channel c) = channel_source N c
source N (Print p) = Written p

-- ---- the iterates

abbrev pub input_list : Inputs → Line → List Value
input_list I (Channel c) = I c
input_list I (Print p) = []

abbrev pub fed : Source → Inputs → (ℕ → List Value) → Line → List Value
fed Given I sent c = input_list I c
fed (Written p) I sent c = sent p
fed Nobody I sent c = []

-- the input lists alone, and then what each writer sends on the iterate before
abbrev pub iterate : Schema → Inputs → ℕ → Histories
iterate N I zero c = fed (source N c) I (λ p. []) c
iterate N I (suc n) c = fed (source N c) I (λ p. out N n p (iterate N I n) c) c

-- ---- the solution

abbrev pub IsPrefix : List Value → List Value → Type 0
IsPrefix xs ys = (zs : List Value) × (ys ≡ xs ++ zs)

-- v stands at place k of line c
abbrev pub Stands : Schema → Inputs → Line → ℕ → Value → Type 0
Stands N I c k v = (n : ℕ) × (slice_get (iterate N I n c) k ≡ Some v)

-- L is the whole of line c
abbrev pub IsWhole : Schema → Inputs → Line → List Value → Type 0
IsWhole N I c L = ((m : ℕ) × IsPrefix L (iterate N I m c)) × ((n : ℕ) → IsPrefix (iterate N I n c) L)

-- how a process ends
pub data Ending : Type 0 where
  Ended : Ending
  Waiting : ℕ → Ending
  Faulted : Failure → Ending

abbrev pub ending : {A : Type 0} → ScriptOutcome A → Option Ending
ending (Got a) = Some Ended
ending (Dry q) = Some (Waiting q)
ending (Fault k) = Some (Faulted k)
ending Cut = None

-- from some n on the process ends so, after e events
abbrev pub HasEnd : Schema → Inputs → ℕ → Ending → ℕ → Type 0
HasEnd N I p o e =
    (m : ℕ) × ((n : ℕ) → m ≤ n → (ending (exec_at N n p (iterate N I n)).outcome ≡ Some o) × ((exec_at N n p (iterate N I n)).events ≡ e))

-- the size of the solution: the events of all instances, if each has an end
pub data HasSizes : Schema → Inputs → ℕ → List Node → ℕ → Type 0 where
  none_left : {N : Schema} {I : Inputs} {p : ℕ} → HasSizes N I p [] 0
  one_more : {N : Schema} {I : Inputs} {p : ℕ} {i : Node} {is : List Node} {o : Ending} {e total : ℕ} →
      HasEnd N I p o e → HasSizes N I (suc p) is total → HasSizes N I p (i ∷ is) (e + total)

abbrev pub HasSize : Schema → Inputs → ℕ → Type 0
HasSize N I total = HasSizes N I 0 N.instances total

-- ---- longer histories and inputs

-- each tape of H is a prefix of that of G
abbrev pub IsExtended : Histories → Histories → Type 0
IsExtended H G = (c : Line) → IsPrefix (H c) (G c)

-- each input list of I is a prefix of that of J
abbrev pub AreInputsExtended : Inputs → Inputs → Type 0
AreInputsExtended I J = (c : ℕ) → IsPrefix (I c) (J c)
