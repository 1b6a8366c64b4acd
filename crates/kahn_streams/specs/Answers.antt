-- Believed. The right answer of a run, and what it is asked for: what an answer says of streams, events and ends, for a network, an
-- input, a bound and a watched channel. It names no schedule. (This project's profile, over the solution of Kahn's paper.)
use Rattle.std.specs.Prelude.{◌≡◌, ℕ, suc, ◌≤◌, ◌||◌, List, [], ◌∷◌, ◌++◌, length, map, sum_by, Option, Some, slice_get, if◌then◌else◌, ◌==◌, Bool, true, false, None, ◌<◌, ◌↔◌, ◌^◌, string_bytes}
use Rattle.kahn_streams.specs.{Types.Value, Types.Line, Types.Role, Types.Kind, Types.Program, Types.Config, declared.value.Line.TheVariants.Channel, declared.value.Line.TheVariants.Print, Syntax.prints_in, Script.Dry, Tokens.token_value, Tokens.IsOwn, declared.answer.Answer.Answer, declared.answer.Stream.Stream, declared.answer.End.End, declared.token.Token.Token, declared.answer.Verdict.Verdict, declared.answer.Verdict.TheVariants.Finished, declared.answer.Verdict.TheVariants.Bound, declared.answer.Verdict.TheVariants.Memory, declared.answer.Outcome.Outcome, declared.answer.Outcome.TheVariants.Ended, declared.answer.Outcome.TheVariants.Waits, declared.answer.Outcome.TheVariants.Faulted, declared.answer.Outcome.TheVariants.More, Inputs.inputs_of, Inputs.Lists, declared.fault.RunFault.RunFault}
use Rattle.kahn_streams.specs.Solution as net
use Rattle.kahn_streams.specs.Network.{Schema, Node, Reads, instance_at, actual_at, Given, Written, network_of, channel_names}
use Rattle.kahn_streams.specs.Solution.{Histories, Inputs, exec_at, out, source, input_list, iterate, IsPrefix, Stands, IsWhole, HasEnd, ending, HasSize, IsExtended}
use Rattle.kahn_streams.specs.declared.tree.Role.TheVariants as role
use Rattle.kahn_streams.specs.declared.fault.RunFault.TheVariants as fault
use Rattle.std.specs.{declared.string.String.String, declared.alloc.Global.Global}

abbrev pub is_output : Role → Bool
is_output role.Inner = false
is_output role.Input = false
is_output role.Output = true

abbrev pub is_watched : Option ℕ → ℕ → Bool
is_watched None c = false
is_watched (Some w) c = w == c

-- ---- which streams an answer has

-- the output and the watched channels from c on, in order of declaration
abbrev pub channel_lines : Option ℕ → List (Kind × Role) → ℕ → List Line
channel_lines watch [] c = []
channel_lines watch (r ∷ rest) c =
    if is_output r.1 || is_watched watch c then Channel c ∷ channel_lines watch rest (suc c) else channel_lines watch rest (suc c)

-- the print streams of the instances from p on
abbrev pub print_lines : List Node → ℕ → List Line
print_lines [] p = []
print_lines (i ∷ rest) p = if prints_in i.body then Print p ∷ print_lines rest (suc p) else print_lines rest (suc p)

abbrev pub stream_lines : Schema → Option ℕ → List Line
stream_lines N watch = channel_lines watch N.channels 0 ++ print_lines N.instances 0

-- ---- parts of an answer

abbrev pub stream_line : Stream → Line
stream_line s = s.line

abbrev pub values_of : Stream → List Value
values_of s = map token_value s.tokens.items

abbrev pub end_events : End → ℕ
end_events x = x.events

abbrev pub HasStream : Answer → Stream → Type 0
HasStream a s = (j : ℕ) × (slice_get a.streams.items j ≡ Some s)

-- x is the end of instance p
abbrev pub HasEndAt : Answer → ℕ → End → Type 0
HasEndAt a p x = slice_get a.ends.items p ≡ Some x

-- ---- where an instance stands

-- on T instance p is dry at its parameter on c after e events
abbrev pub IsDryOn : Schema → Histories → ℕ → ℕ → ℕ → Type 0
IsDryOn N T p e c =
    (q : ℕ) × (actual_at (instance_at N p) q ≡ Reads c) × ((exec_at N e p T).outcome ≡ Dry q) × ((exec_at N e p T).events ≡ e)

-- if memory was refused, values may be left that their reader didn't come to
abbrev pub IsWaiting : Verdict → Schema → Histories → ℕ → ℕ → ℕ → Type 0
IsWaiting Finished N A p e c = IsDryOn N A p e c
IsWaiting Bound N A p e c = IsDryOn N A p e c
IsWaiting Memory N A p e c = (T : Histories) × IsExtended T A × IsDryOn N T p e c

abbrev pub IsOutcome : Verdict → Schema → Histories → ℕ → ℕ → Outcome → Type 0
IsOutcome v N A p e Ended = ending (exec_at N e p A).outcome ≡ Some net.Ended
IsOutcome v N A p e (Faulted k) = ending (exec_at N e p A).outcome ≡ Some (net.Faulted k)
IsOutcome v N A p e (Waits c) = IsWaiting v N A p e c
IsOutcome v N A p e More = (exec_at N (suc e) p A).events ≡ suc e

-- the end of p in the solution
abbrev pub IsEnd : Schema → Inputs → ℕ → Outcome → ℕ → Type 0
IsEnd N I p Ended e = HasEnd N I p net.Ended e
IsEnd N I p (Faulted k) e = HasEnd N I p (net.Faulted k) e
IsEnd N I p (Waits c) e = (q : ℕ) × (actual_at (instance_at N p) q ≡ Reads c) × HasEnd N I p (net.Waiting q) e
IsEnd N I p More e = ⊥

-- ---- the right answer

-- a verdict, the ends and the sum of the events that are right, whatever is said of streams
pub record AreRight (N : Schema) (I : Inputs) (bound : ℕ) (v : Verdict) (ends : List End) (events : ℕ) : Type 0 where
  -- there are tapes, the input lists on the input channels and else prefixes of some iterate, such that each instance
  -- does its events on them and sends them on each line that it writes
  pub tapes : Histories
  pub inputs : (c : Line) → source N c ≡ Given → tapes c ≡ input_list I c
  pub others : (c : Line) → (n : ℕ) × IsPrefix (tapes c) (iterate N I n c)
  pub instances : length ends ≡ length N.instances
  pub does : (p : ℕ) (x : End) → slice_get ends p ≡ Some x → (exec_at N x.events p tapes).events ≡ x.events
  pub sends : (p : ℕ) (x : End) → slice_get ends p ≡ Some x → (c : Line) → source N c ≡ Written p → out N x.events p tapes c ≡ tapes c
  -- each outcome is that of its instance on the tapes
  pub outcomes : (p : ℕ) (x : End) → slice_get ends p ≡ Some x → IsOutcome v N tapes p x.events x.outcome
  -- `events` is the sum, and at most the bound
  pub total : events ≡ sum_by end_events ends
  pub within : events ≤ bound
  -- if it has finished, each end is that of its instance in the solution
  pub ended : v ≡ Finished → (p : ℕ) (x : End) → slice_get ends p ≡ Some x → IsEnd N I p x.outcome x.events
  -- if the bound stopped it, it is used up and some instance has a next event
  pub bounded : v ≡ Bound → (events ≡ bound) × ((p : ℕ) × (x : End) × (slice_get ends p ≡ Some x) × (x.outcome ≡ More))

pub record IsRight (N : Schema) (I : Inputs) (bound : ℕ) (watch : Option ℕ) (a : Answer) : Type 0 where
  pub run : AreRight N I bound a.verdict a.ends.items a.events
  -- its streams are those that are named; the token at index k of the stream of line c has line c, place k, and a value that stands there
  pub named : map stream_line a.streams.items ≡ stream_lines N watch
  pub tokens : (s : Stream) (k : ℕ) (t : Token) → HasStream a s → slice_get s.tokens.items k ≡ Some t →
      (t.line ≡ s.line) × (t.place ≡ k) × Stands N I s.line k t.value
  -- each token is of this network, and of an input whose lists begin those of this one, so that `Input::lift` takes it
  pub own : (s : Stream) (k : ℕ) (t : Token) → HasStream a s → slice_get s.tokens.items k ≡ Some t → IsOwn N I t
  -- the values of each stream are the tape of its line, and the whole of it if the answer has finished
  pub values : (s : Stream) → HasStream a s → values_of s ≡ run.tapes s.line
  pub whole : a.verdict ≡ Finished → (s : Stream) → HasStream a s → IsWhole N I s.line (values_of s)

-- two answers that say the same
pub record AreOne (a b : Answer) : Type 0 where
  pub lines : map stream_line a.streams.items ≡ map stream_line b.streams.items
  pub values : map values_of a.streams.items ≡ map values_of b.streams.items
  pub ends : a.ends.items ≡ b.ends.items
  pub events : a.events ≡ b.events

-- ---- when it has finished

-- the size of the solution is a number, and at most the bound
abbrev pub IsWithinBound : Schema → Inputs → ℕ → Type 0
IsWithinBound N I bound = (size : ℕ) × HasSize N I size × (size ≤ bound)

-- unless memory was refused, the verdict is that it finished exactly if the solution is within the bound
abbrev pub Settles : Schema → Inputs → ℕ → Verdict → Type 0
Settles N I bound v = (v ≡ Memory → ⊥) → ((v ≡ Finished) ↔ IsWithinBound N I bound)

-- if refused memory stopped it, the bound isn't used up and some instance has a next event: only memory was lacking
abbrev pub IsCutShort : ℕ → Answer → Type 0
IsCutShort bound a = a.verdict ≡ Memory → (a.events < bound) × ((p : ℕ) × (x : End) × HasEndAt a p x × (x.outcome ≡ More))

-- each stream begins the history of its line
abbrev pub AreBegun : Schema → Inputs → Answer → Type 0
AreBegun N I a = (s : Stream) → HasStream a s → (n : ℕ) × IsPrefix (values_of s) (iterate N I n s.line)

-- ---- what is asked for

abbrev pub IsInRange : ℕ → ℕ → ℕ → Type 0
IsInRange workers quantum bound = (1 ≤ workers) × (workers ≤ 16) × (1 ≤ quantum) × (quantum ≤ 1000000) × (bound < 2 ^ 48)

-- each number is within its limit
abbrev pub IsAllowed : Config → Type 0
IsAllowed config = IsInRange config.workers config.quantum config.bound

-- channel c has the name
abbrev pub IsNamed : Program → ℕ → String Global → Type 0
IsNamed t c name = slice_get (channel_names t) c ≡ Some (string_bytes name)

-- the channel of the name that is to be watched, or none if none is named
abbrev pub IsWatched : Program → Option (String Global) → Option ℕ → Type 0
IsWatched t None watch = watch ≡ None
IsWatched t (Some name) None = ⊥
IsWatched t (Some name) (Some c) = IsNamed t c name

-- a channel is to be watched, and none has its name
abbrev pub IsUndeclared : Program → Option (String Global) → Type 0
IsUndeclared t None = ⊥
IsUndeclared t (Some name) = (c : ℕ) → IsNamed t c name → ⊥

-- the right answer, with the channel that is to be watched
abbrev pub IsRightRun : Program → Lists → Config → Answer → Type 0
IsRightRun t lists config a =
    IsAllowed config × ((watch : Option ℕ) × IsWatched t config.watch watch × IsRight (network_of t) (inputs_of lists) config.bound watch a)

-- why there is none: first the numbers, then the watched channel, then refused memory, or a refused thread of several
-- workers; no run stalls
abbrev pub IsUnrun : Program → Config → RunFault → Type 0
IsUnrun t config fault.BadConfig = IsAllowed config → ⊥
IsUnrun t config fault.UnknownWatch = IsAllowed config × IsUndeclared t config.watch
IsUnrun t config fault.NoMemory = IsAllowed config × ((watch : Option ℕ) × IsWatched t config.watch watch)
IsUnrun t config fault.NoThread = IsAllowed config × (1 < config.workers) × ((watch : Option ℕ) × IsWatched t config.watch watch)
IsUnrun t config fault.Stalled = ⊥
