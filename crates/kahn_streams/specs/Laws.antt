-- Believed. The laws of the meaning.
use Rattle.std.specs.Prelude.{◌≡◌, ◌≤◌, ℕ, suc, ◌+◌, max, List, ◌++◌, slice_get, Some}
use Rattle.kahn_streams.specs.{Types.Value, Types.Line, Meaning.Store, Meaning.script_of, Meaning.exec, Syntax.Stmt, Inputs.AreOfKind, Network.kind_at, Network.Schema, Network.Node, Network.Reads, Network.actual_at, Network.instance_at, Network.Given, Network.Written, declared.value.Line.TheVariants.Channel}
use Rattle.kahn_streams.specs.Script.{Give, Tapes, play, Port, ScriptOutcome, Got, Dry, Fault, Cut, Reached}
use Rattle.kahn_streams.specs.Solution.{Histories, Inputs, tapes_of, exec_at, out, source, input_list, iterate, opening, IsPrefix, Stands, IsWhole, HasEnd, HasSize, Ending, ending, IsExtended, AreInputsExtended}

-- each iterate is a prefix of the next
abbrev pub IsChain : Schema → Inputs → Type 0
IsChain N I = (n : ℕ) (c : Line) → IsPrefix (iterate N I n c) (iterate N I (suc n) c)

-- at most one value stands at a place
abbrev pub HasOneValue : Schema → Inputs → Type 0
HasOneValue N I = (c : Line) (k : ℕ) (v w : Value) → Stands N I c k v → Stands N I c k w → v ≡ w

-- the iterates' limit is a solution
abbrev pub IsSolved : Schema → Inputs → Type 0
IsSolved N I =
    (c : Line) (p n m : ℕ) → source N c ≡ Written p → IsPrefix (out N n p (iterate N I m) c) (iterate N I (suc (max n m)) c)

-- tapes, each a prefix of the next, that begin with the input lists and are closed under the equations
pub record IsSolution (N : Schema) (I : Inputs) (T : ℕ → Histories) : Type 0 where
  pub grows : (m : ℕ) (c : Line) → IsPrefix (T m c) (T (suc m) c)
  pub begins : (c : Line) → source N c ≡ Given → IsPrefix (input_list I c) (T 0 c)
  pub closed : (c : Line) (p n m : ℕ) → source N c ≡ Written p → (j : ℕ) × IsPrefix (out N n p (T m) c) (T j c)

-- the iterates' limit is below it
abbrev pub IsBelow : Schema → Inputs → (ℕ → Histories) → Type 0
IsBelow N I T = (n : ℕ) (c : Line) → (j : ℕ) × IsPrefix (iterate N I n c) (T j c)

-- the same outcome, events and sends
abbrev pub AreSame : {A : Type 0} → Reached A → Reached A → Type 0
AreSame a b = (a.outcome ≡ b.outcome) × (a.events ≡ b.events) × (a.sent ≡ b.sent)

-- if the outcome is dry, the tape of that parameter is the same
abbrev pub KeepsTape : {A : Type 0} → Node → Histories → Histories → ScriptOutcome A → Type 0
KeepsTape i H G (Dry q) = tapes_of i G q ≡ tapes_of i H q
KeepsTape i H G (Got a) = Unit {0}
KeepsTape i H G (Fault k) = Unit {0}
KeepsTape i H G Cut = Unit {0}

-- values past what was taken don't matter
pub record IsFramed (N : Schema) (n p : ℕ) (H G : Histories) : Type 0 where
  pub kept : KeepsTape (instance_at N p) H G (exec_at N n p H).outcome → AreSame (exec_at N n p G) (exec_at N n p H)
  pub cut : (q : ℕ) → (exec_at N n p H).outcome ≡ Dry q →
      (tapes_of (instance_at N p) G q ≡ tapes_of (instance_at N p) H q → ⊥) → (exec_at N n p H).events ≡ n →
      ((exec_at N n p G).outcome ≡ Cut) × ((exec_at N n p G).events ≡ n) × ((exec_at N n p G).sent ≡ (exec_at N n p H).sent)
  pub grows : (rest : List (Port × Value)) × ((exec_at N n p G).sent ≡ (exec_at N n p H).sent ++ rest)

abbrev pub Frame : Schema → Type 0
Frame N = (n p : ℕ) (H G : Histories) → IsExtended H G → IsFramed N n p H G

-- a process runs dry only at a parameter that reads a channel
abbrev pub RunsDryAtReads : Schema → Type 0
RunsDryAtReads N = (n p q : ℕ) (T : Tapes) → (exec n (instance_at N p).body (opening (instance_at N p)) T).outcome ≡ Dry q
    → (d : ℕ) × (actual_at (instance_at N p) q ≡ Reads d)

-- longer inputs give longer iterates
abbrev pub InputsGrow : Schema → Type 0
InputsGrow N = (I J : Inputs) → AreInputsExtended I J → (n : ℕ) (c : Line) → IsPrefix (iterate N I n c) (iterate N J n c)

-- what a process sends on tapes that begin the solution's histories stands in the solution
abbrev pub SendsStand : Schema → Inputs → Type 0
SendsStand N I =
    (n m p : ℕ) (H : Histories) → ((q : ℕ) → IsPrefix (tapes_of (instance_at N p) H q) (tapes_of (instance_at N p) (iterate N I m) q)) →
    (c : Line) → source N c ≡ Written p → (k : ℕ) (v : Value) → slice_get (out N n p H c) k ≡ Some v → Stands N I c k v

-- histories at which every process has ended, faulted or waits, that its sends agree with, and that the iterates reach
pub record IsQuiet (N : Schema) (I : Inputs) (A : Histories) (o : ℕ → Ending) (e : ℕ → ℕ) : Type 0 where
  pub inputs : (c : Line) → source N c ≡ Given → A c ≡ input_list I c
  pub reached : (c : Line) → (m : ℕ) × IsPrefix (A c) (iterate N I m c)
  pub ends : (p : ℕ) → ending (exec_at N (e p) p A).outcome ≡ Some (o p)
  pub counts : (p : ℕ) → (exec_at N (e p) p A).events ≡ e p
  pub sends : (c : Line) (p : ℕ) → source N c ≡ Written p → out N (e p) p A c ≡ A c

-- then they are the whole solution, with its ends
abbrev pub IsSettled : Schema → Inputs → Histories → (ℕ → Ending) → (ℕ → ℕ) → Type 0
IsSettled N I A o e = ((c : Line) → IsWhole N I c (A c)) × ((p : ℕ) → HasEnd N I p (o p) (e p))

-- at most n events are done, and exactly n if the outcome is cut
pub record IsCounted (N : Schema) (n p : ℕ) (H : Histories) : Type 0 where
  pub within : (exec_at N n p H).events ≤ n
  pub full : (exec_at N n p H).outcome ≡ Cut → (exec_at N n p H).events ≡ n

-- unrolling loops further than to n turns makes no difference to n events
abbrev pub IsUnrolled : Stmt → Type 0
IsUnrolled b = (n k : ℕ) (s : Store) (T : Tapes) → n ≤ k → play n (script_of k b s Give) T ≡ exec n b s T

-- what ended, faulted or ran dry says so again, however many events more are allowed
abbrev pub SaysSoAgain : Stmt → Type 0
SaysSoAgain b = (n k : ℕ) (s : Store) (T : Tapes) → ((exec n b s T).outcome ≡ Cut → ⊥) → exec (n + k) b s T ≡ exec n b s T

-- the whole of a line is one list, an end is one end, and the size is one number
pub record IsDetermined (N : Schema) (I : Inputs) : Type 0 where
  pub one_whole : (c : Line) (L M : List Value) → IsWhole N I c L → IsWhole N I c M → L ≡ M
  pub one_end : (p e f : ℕ) (o x : Ending) → HasEnd N I p o e → HasEnd N I p x f → (o ≡ x) × (e ≡ f)
  pub one_size : (a b : ℕ) → HasSize N I a → HasSize N I b → a ≡ b

-- each channel's history has the channel's kind
abbrev pub AreKinded : Schema → Histories → Type 0
AreKinded N H = (c : ℕ) → AreOfKind (kind_at N c) (H (Channel c))

-- so is each iterate
abbrev pub AreIteratesKinded : Schema → Inputs → Type 0
AreIteratesKinded N I = (n : ℕ) → AreKinded N (iterate N I n)
