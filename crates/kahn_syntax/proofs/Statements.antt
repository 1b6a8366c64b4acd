-- Statements that are read one after another.
use Rattle.kahn_syntax.proofs.Common.{◌≡◌, ℕ, ◌+◌, ◌≤◌, max, List, [], ◌∷◌, ◌++◌, ap, arith, Statement, statement_nesting, statements_nesting, FormedStatement, FormedStatements, AreSome, statement_tree, statement_trees}

formed_more : (ss : List Statement) (s : Statement) → FormedStatements (statement_trees ss) → FormedStatement (statement_tree s) → FormedStatements (statement_trees (ss ++ s ∷ []))
formed_more [] s h f = (f, tt)
formed_more (u ∷ ss) s h f = (h.0, formed_more ss s h.1 f)

pub formed_next : (ss ss' : List Statement) (s : Statement) → ss' ≡ ss ++ s ∷ [] → FormedStatements (statement_trees ss) → FormedStatement (statement_tree s) →
    FormedStatements (statement_trees ss')
formed_next ss ss' s e h f = rw e (formed_more ss s h f)

some_more : (ss : List Statement) (s : Statement) → AreSome (statement_trees (ss ++ s ∷ []))
some_more [] s = tt
some_more (u ∷ ss) s = tt

pub some_next : (ss ss' : List Statement) (s : Statement) → ss' ≡ ss ++ s ∷ [] → AreSome (statement_trees ss')
some_next ss ss' s e = rw e (some_more ss s)

nesting_more : (ss : List Statement) (s : Statement) (m : ℕ) → statements_nesting (statement_trees ss) ≤ m → statement_nesting (statement_tree s) ≤ m →
    statements_nesting (statement_trees (ss ++ s ∷ [])) ≤ m
nesting_more [] s m a b = omega arith
nesting_more (u ∷ ss) s m a b = omega (arith, nesting_more ss s m (omega arith) b)

pub nesting_next : (d : ℕ) (ss ss' : List Statement) (s : Statement) → ss' ≡ ss ++ s ∷ [] → d + statements_nesting (statement_trees ss) ≤ 64 →
    d + statement_nesting (statement_tree s) ≤ 64 → d + statements_nesting (statement_trees ss') ≤ 64
nesting_next d ss ss' s e a b =
    let m = max (statements_nesting (statement_trees ss)) (statement_nesting (statement_tree s)) in
    let c = nesting_more ss s m (omega arith) (omega arith) in
    omega (arith, c, ap (λ x. statements_nesting (statement_trees x)) e)
