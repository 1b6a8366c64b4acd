-- A list that a tree spells is read whole: statements.
use Rattle.kahn_syntax.proofs.Common.{◌≡◌, ℕ, ◌+◌, ◌≤◌, List, [], ◌∷◌, false, refl, ◌∙◌, arith, Terminal, word, sign, name, ExpressionTree, Formed, expression_nesting, StatementTree, empty, assign, send, print, block, if_then, if_else, while_do, repeat, StatementTrees, no_statement, statement, expression_words, statement_words, statements_words, further_words, statement_nesting, statements_nesting, FormedStatement, FormedStatements, IsSimple, AreSome, whole, leads, StatementsTail, ElseTail, Part, StatementPart, SimplePart, ExpressionPart, TokenPart, LevelPart, levels, fate, a_sign, a_word, a_name, Becomes, Begin, Do, Else, End, If, On, Print, Repeat, Semicolon, Send, Then, While}
use Rattle.kahn_syntax.proofs.Blocks.{EndsSimple, EndsStatement, EndsAfter, EndsBlock, simple_expression, statement_simple, statement_after, no_more, block_statement}
use Rattle.kahn_syntax.proofs.{Steps.go, Steps.skip_level, Steps.take_token, Steps.skip_tail, WholeExpressions.whole_expression}

skip_empty : (m : ℕ) (s : List Part) (r : List Terminal) → EndsSimple r → (fate m (SimplePart ∷ s) r ≡ fate m s r) × (fate m (StatementPart ∷ s) r ≡ fate m s r)
skip_empty m s (sign Semicolon ∷ r) h = (refl, refl)
skip_empty m s (word End ∷ r) h = (refl, refl)
skip_empty m s (word Else ∷ r) h = (refl, refl)
skip_empty m s _ h = absurd h

no_else_leads : (r : List Terminal) → EndsStatement r → leads (a_word Else) r ≡ false
no_else_leads (sign Semicolon ∷ r) h = refl
no_else_leads (word End ∷ r) h = refl
no_else_leads _ h = absurd h

no_semicolon_leads : (r : List Terminal) → EndsBlock r → leads (a_sign Semicolon) r ≡ false
no_semicolon_leads (word End ∷ r) h = refl
no_semicolon_leads _ h = absurd h

whole_assign : (x : List ℕ) (v : ExpressionTree) (m : ℕ) (s : List Part) (r : List Terminal) → Formed v → EndsSimple r → levels s + expression_nesting v ≤ m →
    fate m (SimplePart ∷ s) (statement_words (assign x v) r) ≡ fate m s r
whole_assign x v m s r f e n =
    go m (SimplePart ∷ s) (TokenPart (a_sign Becomes) ∷ ExpressionPart whole ∷ s) (name x) (sign Becomes ∷ expression_words v r) refl (omega (arith, n))
    ∙ (take_token (a_sign Becomes) m (ExpressionPart whole ∷ s) (sign Becomes) (expression_words v r) refl (omega (arith, n))
    ∙ whole_expression v m s r f (simple_expression r e) n)

whole_send : (v : ExpressionTree) (x : List ℕ) (m : ℕ) (s : List Part) (r : List Terminal) → Formed v → levels s + expression_nesting v ≤ m →
    fate m (SimplePart ∷ s) (statement_words (send v x) r) ≡ fate m s r
whole_send v x m s r f n =
    go m (SimplePart ∷ s) (ExpressionPart whole ∷ TokenPart (a_word On) ∷ TokenPart a_name ∷ s) (word Send) (expression_words v (word On ∷ name x ∷ r)) refl (omega (arith, n))
    ∙ (whole_expression v m (TokenPart (a_word On) ∷ TokenPart a_name ∷ s) (word On ∷ name x ∷ r) f (omega arith) n
    ∙ (take_token (a_word On) m (TokenPart a_name ∷ s) (word On) (name x ∷ r) refl (omega (arith, n))
    ∙ take_token a_name m s (name x) r refl (omega (arith, n))))

whole_print : (v : ExpressionTree) (m : ℕ) (s : List Part) (r : List Terminal) → Formed v → EndsSimple r → levels s + expression_nesting v ≤ m →
    fate m (SimplePart ∷ s) (statement_words (print v) r) ≡ fate m s r
whole_print v m s r f e n =
    go m (SimplePart ∷ s) (ExpressionPart whole ∷ s) (word Print) (expression_words v r) refl (omega (arith, n))
    ∙ whole_expression v m s r f (simple_expression r e) n

whole_block : (ss : StatementTrees) (m : ℕ) (s : List Part) (r : List Terminal) → levels s + 1 ≤ m →
    fate m (StatementPart ∷ StatementsTail ∷ TokenPart (a_word End) ∷ LevelPart ∷ s) (statements_words ss (word End ∷ r)) ≡ fate m (TokenPart (a_word End) ∷ LevelPart ∷ s) (word End ∷ r) →
    fate m (SimplePart ∷ s) (statement_words (block ss) r) ≡ fate m s r
whole_block ss m s r n h =
    go m (SimplePart ∷ s) (StatementPart ∷ StatementsTail ∷ TokenPart (a_word End) ∷ LevelPart ∷ s) (word Begin) (statements_words ss (word End ∷ r)) refl (omega (arith, n))
    ∙ (h ∙ (take_token (a_word End) m (LevelPart ∷ s) (word End) r refl (omega (arith, n)) ∙ skip_level m s r))

whole_test : (c : ExpressionTree) (m : ℕ) (s : List Part) (w : List Terminal) → Formed c → levels s + expression_nesting c + 1 ≤ m →
    fate m (StatementPart ∷ s) (word If ∷ expression_words c (word Then ∷ w)) ≡ fate m (SimplePart ∷ ElseTail ∷ LevelPart ∷ s) w
whole_test c m s w f n =
    go m (StatementPart ∷ s) (ExpressionPart whole ∷ TokenPart (a_word Then) ∷ SimplePart ∷ ElseTail ∷ LevelPart ∷ s) (word If) (expression_words c (word Then ∷ w)) refl (omega (arith, n))
    ∙ (whole_expression c m (TokenPart (a_word Then) ∷ SimplePart ∷ ElseTail ∷ LevelPart ∷ s) (word Then ∷ w) f (omega arith) (omega (arith, n))
    ∙ take_token (a_word Then) m (SimplePart ∷ ElseTail ∷ LevelPart ∷ s) (word Then) w refl (omega (arith, n)))

mutual
  whole_simple : (t : StatementTree) (m : ℕ) (s : List Part) (r : List Terminal) → IsSimple t → FormedStatement t → EndsSimple r →
      levels s + statement_nesting t ≤ m → fate m (SimplePart ∷ s) (statement_words t r) ≡ fate m s r
  whole_simple empty m s r i f e n = (skip_empty m s r e).0
  whole_simple (assign x v) m s r i f e n = whole_assign x v m s r f e n
  whole_simple (send v x) m s r i f e n = whole_send v x m s r f n
  whole_simple (print v) m s r i f e n = whole_print v m s r f e n
  whole_simple (block ss) m s r i f e n =
      whole_block ss m s r (omega (arith, n)) (whole_statements ss m (TokenPart (a_word End) ∷ LevelPart ∷ s) (word End ∷ r) f.0 f.1 tt (omega (arith, n)))
  whole_simple _ m s r i f e n = absurd i

  whole_statement : (t : StatementTree) (m : ℕ) (s : List Part) (r : List Terminal) → FormedStatement t → EndsAfter t r →
      levels s + statement_nesting t ≤ m → fate m (StatementPart ∷ s) (statement_words t r) ≡ fate m s r
  whole_statement empty m s r f e n = (skip_empty m s r e).1
  whole_statement (assign x v) m s r f e n = whole_assign x v m s r f e n
  whole_statement (send v x) m s r f e n = whole_send v x m s r f n
  whole_statement (print v) m s r f e n = whole_print v m s r f e n
  whole_statement (block ss) m s r f e n =
      whole_block ss m s r (omega (arith, n)) (whole_statements ss m (TokenPart (a_word End) ∷ LevelPart ∷ s) (word End ∷ r) f.0 f.1 tt (omega (arith, n)))
  whole_statement (if_then c a) m s r f e n =
      whole_test c m s (statement_words a r) f.0 (omega (arith, n))
      ∙ (whole_simple a m (ElseTail ∷ LevelPart ∷ s) r f.1 f.2 (statement_simple r e) (omega (arith, n))
      ∙ (skip_tail ElseTail (a_word Else) _ m (LevelPart ∷ s) r refl (no_else_leads r e) ∙ skip_level m s r))
  whole_statement (if_else c a b) m s r f e n =
      whole_test c m s (statement_words a (word Else ∷ statement_words b r)) f.0 (omega (arith, n))
      ∙ (whole_simple a m (ElseTail ∷ LevelPart ∷ s) (word Else ∷ statement_words b r) f.1 f.2 tt (omega (arith, n))
      ∙ (go m (ElseTail ∷ LevelPart ∷ s) (StatementPart ∷ LevelPart ∷ s) (word Else) (statement_words b r) refl (omega (arith, n))
      ∙ (whole_statement b m (LevelPart ∷ s) r f.3 (statement_after b r e) (omega (arith, n)) ∙ skip_level m s r)))
  whole_statement (while_do c a) m s r f e n =
      go m (StatementPart ∷ s) (ExpressionPart whole ∷ TokenPart (a_word Do) ∷ StatementPart ∷ LevelPart ∷ s) (word While)
      (expression_words c (word Do ∷ statement_words a r)) refl (omega (arith, n))
      ∙ (whole_expression c m (TokenPart (a_word Do) ∷ StatementPart ∷ LevelPart ∷ s) (word Do ∷ statement_words a r) f.0 (omega arith) (omega (arith, n))
      ∙ (take_token (a_word Do) m (StatementPart ∷ LevelPart ∷ s) (word Do) (statement_words a r) refl (omega (arith, n))
      ∙ (whole_statement a m (LevelPart ∷ s) r f.1 (statement_after a r e) (omega (arith, n)) ∙ skip_level m s r)))
  whole_statement (repeat a) m s r f e n =
      go m (StatementPart ∷ s) (StatementPart ∷ LevelPart ∷ s) (word Repeat) (statement_words a r) refl (omega (arith, n))
      ∙ (whole_statement a m (LevelPart ∷ s) r f (statement_after a r e) (omega (arith, n)) ∙ skip_level m s r)

  whole_further : (ss : StatementTrees) (m : ℕ) (s : List Part) (r : List Terminal) → FormedStatements ss → EndsBlock r → levels s + statements_nesting ss ≤ m →
      fate m (StatementsTail ∷ s) (further_words ss r) ≡ fate m s r
  whole_further no_statement m s r f e n = skip_tail StatementsTail (a_sign Semicolon) _ m s r refl (no_semicolon_leads r e)
  whole_further (statement t ss) m s r f e n =
      go m (StatementsTail ∷ s) (StatementPart ∷ StatementsTail ∷ s) (sign Semicolon) (statement_words t (further_words ss r)) refl (omega (arith, n))
      ∙ (whole_statement t m (StatementsTail ∷ s) (further_words ss r) f.0 (statement_after t (further_words ss r) (no_more ss r (block_statement r e))) (omega (arith, n))
      ∙ whole_further ss m s r f.1 e (omega (arith, n)))

  -- The statements of a block or body are read.
  pub whole_statements : (ss : StatementTrees) (m : ℕ) (s : List Part) (r : List Terminal) → AreSome ss → FormedStatements ss → EndsBlock r → levels s + statements_nesting ss ≤ m →
      fate m (StatementPart ∷ StatementsTail ∷ s) (statements_words ss r) ≡ fate m s r
  whole_statements no_statement m s r a f e n = absurd a
  whole_statements (statement t ss) m s r a f e n =
      whole_statement t m (StatementsTail ∷ s) (further_words ss r) f.0 (statement_after t (further_words ss r) (no_more ss r (block_statement r e))) (omega (arith, n))
      ∙ whole_further ss m s r f.1 e (omega (arith, n))
