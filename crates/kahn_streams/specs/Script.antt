-- Believed. What a process does next, and how far it comes with given tapes and a given number of events.
use Rattle.std.specs.Prelude.{ℕ, zero, suc, ◌==◌, List, [], ◌∷◌, if◌then◌else◌}
use Rattle.kahn_streams.specs.Types.{Value, Failure}

-- where a process sends: an `out` parameter, or its print stream
pub data Port : Type 0 where
  Parameter : ℕ → Port
  Printer : Port

-- the values that wait at each parameter
abbrev pub Tapes : Type 0
Tapes = ℕ → List Value

-- what a process does next: it gives a result, faults, waits and goes on by the value taken, sends and goes on,
-- begins a turn and goes on. `Rest` is what lies beyond the turns that were unrolled.
pub data Script (A : Type 0) : Type 0 where
  Give : A → Script A
  Fail : Failure → Script A
  Waits : ℕ → (Value → Script A) → Script A
  Sends : Port → Value → Script A → Script A
  Turns : Script A → Script A
  Rest : Script A

-- how far it came
pub data ScriptOutcome (A : Type 0) : Type 0 where
  Got : A → ScriptOutcome A
  Dry : ℕ → ScriptOutcome A
  Fault : Failure → ScriptOutcome A
  Cut : ScriptOutcome A

pub record Reached (A : Type 0) : Type 0 where
  pub outcome : ScriptOutcome A
  pub left : Tapes
  pub events : ℕ
  pub sent : List (Port × Value)

abbrev pub at_once : {A : Type 0} → ScriptOutcome A → Tapes → Reached A
at_once o T = record { outcome = o; left = T; events = 0; sent = [] }

abbrev pub after_event : {A : Type 0} → Reached A → Reached A
after_event r = record { outcome = r.outcome; left = r.left; events = suc r.events; sent = r.sent }

abbrev pub after_send : {A : Type 0} → Port → Value → Reached A → Reached A
after_send p v r = record { outcome = r.outcome; left = r.left; events = suc r.events; sent = (p, v) ∷ r.sent }

-- the tapes with another one at q
abbrev pub put : Tapes → ℕ → List Value → Tapes
put T q vs r = if r == q then vs else T r

-- a wait: dry on an empty tape whatever n is; else cut if no event is left, else it takes the first value
abbrev pub wait_at : {A : Type 0} → ℕ → ℕ → Tapes → List Value → (ℕ → Value → Tapes → Reached A) → Reached A
wait_at n q T [] go = at_once (Dry q) T
wait_at zero q T (v ∷ vs) go = at_once Cut T
wait_at (suc n) q T (v ∷ vs) go = after_event (go n v (put T q vs))

-- with at most n events. A wait that takes a value, a send and the start of a turn are one event each.
abbrev pub play : {A : Type 0} → ℕ → Script A → Tapes → Reached A
play n (Give a) T = at_once (Got a) T
play n (Fail k) T = at_once (Fault k) T
play n (Waits q go) T = wait_at n q T (T q) (λ m v U. play m (go v) U)
play zero (Sends p v s) T = at_once Cut T
play (suc n) (Sends p v s) T = after_send p v (play n s T)
play zero (Turns s) T = at_once Cut T
play (suc n) (Turns s) T = after_event (play n s T)
play n Rest T = at_once Cut T
