-- Believed. Statements that never end, and loops that nobody sees.
use Rattle.std.specs.Prelude.{◌≡◌, ℕ, Bool, true, false, ◌||◌, ◌&&◌, []}
use Rattle.kahn_streams.specs.Syntax.{Constant, Expr, Literal, Variable, Stmt, Skip, Assign, Send, Print, Seq, If, While, Repeat}
use Rattle.kahn_streams.specs.{declared.value.Value.Value, Arithmetic.truth, Meaning.Store, Meaning.constant, Meaning.eval, Meaning.exec, Meaning.read, Script.Got, Script.Tapes, Script.at_once}
use Rattle.kahn_warnings.specs.{Constants.constant_of, Constants.is_true, Uses.is_assigned_in, Uses.is_named, Uses.waits_in}

-- by its form a statement never ends, a loop with a test that is always true too: whatever is behind it isn't reached
abbrev pub never_ends : Stmt → Bool
never_ends (Seq a b) = never_ends a || never_ends b
never_ends (If t a b) = never_ends a && never_ends b
never_ends (While t a) = is_true (constant_of t)
never_ends (Repeat a) = true
never_ends a = false

-- a statement waits, sends or prints, reached or not
abbrev pub is_seen : Stmt → Bool
is_seen Skip = false
is_seen (Assign x e) = waits_in e
is_seen (Send e q) = true
is_seen (Print e) = true
is_seen (Seq a b) = is_seen a || is_seen b
is_seen (If t a b) = waits_in t || is_seen a || is_seen b
is_seen (While t a) = waits_in t || is_seen a
is_seen (Repeat a) = is_seen a

-- a test doesn't wait, and the body gives no value to a name of it
abbrev pub IsUnchanged : Expr → Stmt → Type 0
IsUnchanged t a = (waits_in t ≡ false) × ((x : ℕ) → is_named x t ≡ true → is_assigned_in x a ≡ false)

-- ---- the law

-- Whatever the values of the names and whatever the tapes hold: what stands behind a statement that never ends by its form isn't done, and
-- one that isn't seen takes nothing and sends nothing; a loop whose test is unchanged never ends once that came true; a name that gets no value
-- keeps the one that it has, and so prints it.
pub record LoopsHold : Type 0 where
  pub unreached : (a b : Stmt) → never_ends a ≡ true → (n : ℕ) (s : Store) (T : Tapes) → exec n (Seq a b) s T ≡ exec n a s T
  pub unchanged : (t : Expr) (a b : Stmt) → IsUnchanged t a → (n : ℕ) (s : Store) (T : Tapes) (v : Value) → eval n t s T ≡ at_once (Got v) T → truth v ≡ true →
      exec n (Seq (While t a) b) s T ≡ exec n (While t a) s T
  pub kept : (x : ℕ) (a : Stmt) → is_assigned_in x a ≡ false → (n : ℕ) (s : Store) (T : Tapes) (c : Constant) → read s x ≡ constant c →
      exec n (Seq a (Print (Variable x))) s T ≡ exec n (Seq a (Print (Literal c))) s T
  pub unseen : (a : Stmt) → is_seen a ≡ false → (n : ℕ) (s : Store) (T : Tapes) → ((exec n a s T).left ≡ T) × ((exec n a s T).sent ≡ [])
