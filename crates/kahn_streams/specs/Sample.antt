-- Believed. The network of the sample text as its text gives it, statement for statement and the empty ones too: its history on X is
-- 0 1 0 1 and so on.
use Rattle.std.specs.Prelude.{ℕ, [], ◌∷◌, pos, ◌%◌, ◌↔◌, ◌≡◌, true}
use Rattle.kahn_streams.specs.{Types.Value, declared.value.Value.TheVariants.Integer, declared.value.Line.TheVariants.Channel, declared.tree.Role.TheVariants.Inner, Network.Schema, Network.Node, Network.Reads, Network.Writes, Network.Hands, Solution.Inputs, Solution.Stands}
use Rattle.kahn_streams.specs.declared.tree.Kind.TheVariants as KindOf
use Rattle.kahn_streams.specs.Syntax as S

abbrev pub no_input : Inputs
no_input c = []

-- an empty statement, at the end of its list
abbrev pub nothing_more : S.Stmt
nothing_more = S.Seq S.Skip S.Skip

-- f(integer in U, V; integer out W), with integer I; logical B
abbrev pub f_turn : S.Stmt
f_turn =
    S.Seq
    (S.Assign 3 (S.Conditional (S.Variable 4) (S.Wait 0) (S.Wait 1)))
    (S.Seq (S.Print (S.Variable 3)) (S.Seq (S.Send (S.Variable 3) 2) (S.Seq (S.Assign 4 (S.Not (S.Variable 4))) nothing_more)))

abbrev pub f_body : S.Stmt
f_body = S.Seq (S.Assign 4 (S.Literal (S.Truth true))) (S.Seq (S.Repeat f_turn) nothing_more)

-- g(integer in U; integer out V, W), with integer I; logical B
abbrev pub g_turn : S.Stmt
g_turn =
    S.Seq
    (S.Assign 3 (S.Wait 0))
    (S.Seq (S.If (S.Variable 4) (S.Send (S.Variable 3) 1) (S.Send (S.Variable 3) 2)) (S.Seq (S.Assign 4 (S.Not (S.Variable 4))) nothing_more))

abbrev pub g_body : S.Stmt
g_body = S.Seq (S.Assign 4 (S.Literal (S.Truth true))) (S.Seq (S.Repeat g_turn) nothing_more)

-- h(integer in U; integer out V; integer INIT), with integer I
abbrev pub h_turn : S.Stmt
h_turn = S.Seq (S.Assign 3 (S.Wait 0)) (S.Seq (S.Send (S.Variable 3) 1) nothing_more)

abbrev pub h_body : S.Stmt
h_body = S.Seq (S.Send (S.Variable 2) 1) (S.Seq (S.Repeat h_turn) nothing_more)

abbrev pub h_of : ℕ → ℕ → ℕ → Node
h_of from to first = record { actuals = Reads from ∷ (Writes to ∷ (Hands (S.Number (pos first)) ∷ [])); variables = KindOf.Integer ∷ []; body = h_body }

-- channels X, Y, Z, T1, T2 and f(Y, Z, X) par g(X, T1, T2) par h(T1, Y, 0) par h(T2, Z, 1)
abbrev pub sample_network : Schema
sample_network = record {
  channels = (KindOf.Integer, Inner) ∷ ((KindOf.Integer, Inner) ∷ ((KindOf.Integer, Inner) ∷ ((KindOf.Integer, Inner) ∷ ((KindOf.Integer, Inner) ∷ []))));
  instances =
      record { actuals = Reads 1 ∷ (Reads 2 ∷ (Writes 0 ∷ [])); variables = KindOf.Integer ∷ (KindOf.Logical ∷ []); body = f_body } ∷
      (record { actuals = Reads 0 ∷ (Writes 3 ∷ (Writes 4 ∷ [])); variables = KindOf.Integer ∷ (KindOf.Logical ∷ []); body = g_body } ∷
      (h_of 3 1 0 ∷ (h_of 4 2 1 ∷ [])));
}

-- v stands at place k of X exactly if it is k mod 2
abbrev pub Sample : Type 0
Sample = (k : ℕ) (v : Value) → Stands sample_network no_input (Channel 0) k v ↔ (v ≡ Integer (pos (k % 2)))
