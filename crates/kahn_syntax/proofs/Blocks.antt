-- No two trees spell one list: statements.
use Rattle.kahn_syntax.proofs.Common.{◌≡◌, List, [], ◌∷◌, refl, sym, ap, subst, arith, Terminal, word, sign, name, StatementTree, empty, assign, send, print, block, if_then, if_else, while_do, repeat, StatementTrees, no_statement, statement, statement_words, statements_words, further_words, FormedStatement, FormedStatements, IsSimple, AreSome, Do, Else, End, On, Semicolon, Then}
use Rattle.kahn_syntax.proofs.Unique.{Ends, same_expression, tail_is}

-- what may follow a statement that `else` may follow
abbrev pub EndsSimple : List Terminal → Type 0
EndsSimple (sign Semicolon ∷ r) = Unit {0}
EndsSimple (word End ∷ r) = Unit {0}
EndsSimple (word Else ∷ r) = Unit {0}
EndsSimple _ = ⊥

-- what may follow a statement
abbrev pub EndsStatement : List Terminal → Type 0
EndsStatement (sign Semicolon ∷ r) = Unit {0}
EndsStatement (word End ∷ r) = Unit {0}
EndsStatement _ = ⊥

-- the same of what may follow this one
abbrev pub EndsAfter : StatementTree → List Terminal → Type 0
EndsAfter (if_then t a) r = EndsStatement r
EndsAfter (if_else t a b) r = EndsStatement r
EndsAfter (while_do t a) r = EndsStatement r
EndsAfter (repeat a) r = EndsStatement r
EndsAfter _ r = EndsSimple r

pub simple_expression : (r : List Terminal) → EndsSimple r → Ends 1 r
simple_expression (sign Semicolon ∷ r) h = omega arith
simple_expression (word End ∷ r) h = omega arith
simple_expression (word Else ∷ r) h = omega arith
simple_expression _ h = absurd h

pub statement_simple : (r : List Terminal) → EndsStatement r → EndsSimple r
statement_simple (sign Semicolon ∷ r) h = tt
statement_simple (word End ∷ r) h = tt
statement_simple _ h = absurd h

pub statement_after : (t : StatementTree) (r : List Terminal) → EndsStatement r → EndsAfter t r
statement_after (if_then t a) r h = h
statement_after (if_else t a b) r h = h
statement_after (while_do t a) r h = h
statement_after (repeat a) r h = h
statement_after _ r h = statement_simple r h

pub simple_after : (t : StatementTree) (r : List Terminal) → IsSimple t → EndsSimple r → EndsAfter t r
simple_after (if_then t a) r s h = absurd s
simple_after (if_else t a b) r s h = absurd s
simple_after (while_do t a) r s h = absurd s
simple_after (repeat a) r s h = absurd s
simple_after _ r s h = h

pub no_more : (ss : StatementTrees) (r : List Terminal) → EndsStatement r → EndsStatement (further_words ss r)
no_more no_statement r h = h
no_more (statement s ss) r h = tt

-- a list doesn't begin as a statement does where one may end
starts : (k : Terminal) (x r : List Terminal) → EndsSimple r → r ≡ k ∷ x → EndsSimple (k ∷ x)
starts k x r h e = subst EndsSimple e h

-- what follows the last statement of a block
abbrev pub EndsBlock : List Terminal → Type 0
EndsBlock (word End ∷ r) = Unit {0}
EndsBlock _ = ⊥

pub block_statement : (r : List Terminal) → EndsBlock r → EndsStatement r
block_statement (word End ∷ r) h = tt
block_statement _ h = absurd h

no_semicolon : (r x : List Terminal) → EndsBlock r → r ≡ sign Semicolon ∷ x → ⊥
no_semicolon r x h e = let f : EndsBlock (sign Semicolon ∷ x) = subst EndsBlock e h in f

abbrev SameStatement : StatementTree → StatementTree → List Terminal → List Terminal → Type 0
SameStatement t u r q = (t ≡ u) × (r ≡ q)

no_else : (r x : List Terminal) → EndsStatement r → r ≡ word Else ∷ x → ⊥
no_else r x h e = let f : EndsStatement (word Else ∷ x) = subst EndsStatement e h in f

mutual
  same_statement : (t u : StatementTree) (r q : List Terminal) → FormedStatement t → FormedStatement u → EndsAfter t r → EndsAfter u q →
      statement_words t r ≡ statement_words u q → SameStatement t u r q
  same_statement empty empty r q f g x y e = (refl, e)
  same_statement empty _ r q f g x y e = absurd (starts _ _ r x e)
  same_statement _ empty r q f g x y e = absurd (starts _ _ q y (sym e))
  same_statement (assign n v) (assign m w) r q f g x y e =
      let z = same_expression v w r q f g (simple_expression r x) (simple_expression q y) (tail_is _ _ _ _ (tail_is _ _ _ _ e)) in (cc, z.1)
  same_statement (send v n) (send w m) r q f g x y e =
      let z = same_expression v w (word On ∷ name n ∷ r) (word On ∷ name m ∷ q) f g (omega arith) (omega arith) (tail_is _ _ _ _ e) in (cc, cc)
  same_statement (print v) (print w) r q f g x y e =
      let z = same_expression v w r q f g (simple_expression r x) (simple_expression q y) (tail_is _ _ _ _ e) in (ap print z.0, z.1)
  same_statement (block ss) (block ts) r q f g x y e =
      let z = same_statements ss ts (word End ∷ r) (word End ∷ q) f.0 g.0 f.1 g.1 tt tt (tail_is _ _ _ _ e) in
      (ap block z.0, tail_is _ _ _ _ z.1)
  same_statement (repeat a) (repeat b) r q f g x y e =
      let z = same_statement a b r q f g (statement_after a r x) (statement_after b q y) (tail_is _ _ _ _ e) in (ap repeat z.0, z.1)
  same_statement (while_do c a) (while_do d b) r q f g x y e =
      let z = same_expression c d (word Do ∷ statement_words a r) (word Do ∷ statement_words b q) f.0 g.0 (omega arith) (omega arith) (tail_is _ _ _ _ e) in
      let w = same_statement a b r q f.1 g.1 (statement_after a r x) (statement_after b q y) (tail_is _ _ _ _ z.1) in (cc, w.1)
  same_statement (if_then c a) (if_then d b) r q f g x y e =
      let z = same_expression c d (word Then ∷ statement_words a r) (word Then ∷ statement_words b q) f.0 g.0 (omega arith) (omega arith) (tail_is _ _ _ _ e) in
      let w = same_statement a b r q f.2 g.2 (statement_after a r x) (statement_after b q y) (tail_is _ _ _ _ z.1) in (cc, w.1)
  same_statement (if_then c a) (if_else d b b') r q f g x y e =
      let z = same_expression c d (word Then ∷ statement_words a r) (word Then ∷ statement_words b (word Else ∷ statement_words b' q)) f.0 g.0 (omega arith) (omega arith)
      (tail_is _ _ _ _ e) in
      let w = same_statement a b r (word Else ∷ statement_words b' q) f.2 g.2 (statement_after a r x)
      (simple_after b (word Else ∷ statement_words b' q) g.1 tt) (tail_is _ _ _ _ z.1) in
      absurd (no_else r _ x w.1)
  same_statement (if_else c a a') (if_then d b) r q f g x y e =
      let z = same_expression c d (word Then ∷ statement_words a (word Else ∷ statement_words a' r)) (word Then ∷ statement_words b q) f.0 g.0 (omega arith) (omega arith)
      (tail_is _ _ _ _ e) in
      let w = same_statement a b (word Else ∷ statement_words a' r) q f.2 g.2 (simple_after a (word Else ∷ statement_words a' r) f.1 tt)
      (statement_after b q y) (tail_is _ _ _ _ z.1) in
      absurd (no_else q _ y (sym w.1))
  same_statement (if_else c a a') (if_else d b b') r q f g x y e =
      let z = same_expression c d (word Then ∷ statement_words a (word Else ∷ statement_words a' r))
      (word Then ∷ statement_words b (word Else ∷ statement_words b' q)) f.0 g.0 (omega arith) (omega arith) (tail_is _ _ _ _ e) in
      let w = same_statement a b (word Else ∷ statement_words a' r) (word Else ∷ statement_words b' q) f.2 g.2
      (simple_after a (word Else ∷ statement_words a' r) f.1 tt) (simple_after b (word Else ∷ statement_words b' q) g.1 tt) (tail_is _ _ _ _ z.1) in
      let v = same_statement a' b' r q f.3 g.3 (statement_after a' r x) (statement_after b' q y) (tail_is _ _ _ _ w.1) in (cc, v.1)
  same_statement _ _ r q f g x y e = absurd cc

  pub same_statements : (ss ts : StatementTrees) (r q : List Terminal) → AreSome ss → AreSome ts → FormedStatements ss → FormedStatements ts → EndsBlock r → EndsBlock q →
      statements_words ss r ≡ statements_words ts q → (ss ≡ ts) × (r ≡ q)
  same_statements no_statement ts r q a b f g x y e = absurd a
  same_statements ss no_statement r q a b f g x y e = absurd b
  same_statements (statement s ss) (statement t ts) r q a b f g x y e =
      let z = same_statement s t (further_words ss r) (further_words ts q) f.0 g.0 (statement_after s _ (no_more ss r (block_statement r x))) (statement_after t _ (no_more ts q (block_statement q y))) e in
      let w = same_further ss ts r q f.1 g.1 x y z.1 in (cc, w.1)

  same_further : (ss ts : StatementTrees) (r q : List Terminal) → FormedStatements ss → FormedStatements ts → EndsBlock r → EndsBlock q →
      further_words ss r ≡ further_words ts q → (ss ≡ ts) × (r ≡ q)
  same_further no_statement no_statement r q f g x y e = (refl, e)
  same_further no_statement (statement t ts) r q f g x y e = absurd (no_semicolon r _ x e)
  same_further (statement s ss) no_statement r q f g x y e = absurd (no_semicolon q _ y (sym e))
  same_further (statement s ss) (statement t ts) r q f g x y e =
      let z = same_statement s t (further_words ss r) (further_words ts q) f.0 g.0 (statement_after s _ (no_more ss r (block_statement r x))) (statement_after t _ (no_more ts q (block_statement q y))) (tail_is _ _ _ _ e) in
      let w = same_further ss ts r q f.1 g.1 x y z.1 in (cc, w.1)
