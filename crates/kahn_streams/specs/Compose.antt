-- Believed. The meaning of a whole by the meanings of its parts, without their continuations.
use Rattle.std.specs.Prelude.{◌≡◌, ℕ, ◌+◌, ◌-◌, ◌++◌, suc}
use Rattle.kahn_streams.specs.{Types.Value, Syntax.Expr, Syntax.Stmt, Syntax.While, Syntax.If, Syntax.Seq, Syntax.Skip, Syntax.Repeat, Meaning.Store, Meaning.value_of, Meaning.script_of, Meaning.eval, Meaning.exec}
use Rattle.kahn_streams.specs.Script.{Tapes, Script, Give, ScriptOutcome, Got, Dry, Fault, Cut, Reached, play, at_once, after_event}

-- what was reached, and from there what is reached by f on the tapes and the events that are left
abbrev pub added : {A B : Type 0} → Reached A → Reached B → Reached B
added r t = record { outcome = t.outcome; left = t.left; events = r.events + t.events; sent = r.sent ++ t.sent }

abbrev pub ended_by : {A B : Type 0} → ScriptOutcome B → Reached A → Reached B
ended_by o r = record { outcome = o; left = r.left; events = r.events; sent = r.sent }

abbrev pub go_on : {A B : Type 0} → ℕ → ScriptOutcome A → Reached A → (A → Script B) → Reached B
go_on n (Got a) r f = added r (play (n - r.events) (f a) r.left)
go_on n (Dry q) r f = ended_by (Dry q) r
go_on n (Fault k) r f = ended_by (Fault k) r
go_on n Cut r f = ended_by Cut r

-- first r, and the rest only if it is Got
abbrev pub and_so : {A B : Type 0} → ℕ → Reached A → (A → Script B) → Reached B
and_so n r f = go_on n r.outcome r f

-- an expression first, and then what goes on with its value
abbrev pub ExpressionsCompose : Type 0 → Type 0
ExpressionsCompose B =
    (n : ℕ) (e : Expr) (s : Store) (next : Value → Script B) (T : Tapes) →
    play n (value_of e s next) T ≡ and_so n (eval n e s T) next

-- a statement first, and then what goes on with its variables
abbrev pub StatementsCompose : Type 0 → Type 0
StatementsCompose B =
    (n k : ℕ) (b : Stmt) (s : Store) (next : Store → Script B) (T : Tapes) →
    play n (script_of k b s next) T ≡ and_so n (play n (script_of k b s Give) T) next

-- a loop is a turn, the test, and if it is true the body and the loop again; it is cut if no event is left
pub record LoopsUnroll (t : Expr) (b : Stmt) : Type 0 where
  pub while_turn : (n : ℕ) (s : Store) (T : Tapes) →
      exec (suc n) (While t b) s T ≡ after_event (exec n (If t (Seq b (While t b)) Skip) s T)
  pub while_cut : (s : Store) (T : Tapes) → exec 0 (While t b) s T ≡ at_once Cut T
  pub repeat_turn : (n : ℕ) (s : Store) (T : Tapes) → exec (suc n) (Repeat b) s T ≡ after_event (exec n (Seq b (Repeat b)) s T)
  pub repeat_cut : (s : Store) (T : Tapes) → exec 0 (Repeat b) s T ≡ at_once Cut T
