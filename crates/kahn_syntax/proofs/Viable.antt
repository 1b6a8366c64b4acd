-- What is open can be completed, and what is read is the beginning of trees for it.
use Rattle.kahn_syntax.proofs.Common.{SomeBetween, Between, Ended, ParameterGroup, VariableGroup, TakesAll, spelling, ◌<◌, ◌≡◌, ℕ, ◌+◌, ◌≤◌, ◌==◌, ℤ, pos, List, [], ◌∷◌, Bool, true, false, cond, Option, Some, None, refl, sym, ap, ◌∙◌, subst, arith, ⊎_elim, ◌⊎◌, inl, inr, true≢false, Further, Grouped, group, all_members, nat_tests, Kind, Role, Taking, Operator, Terminal, word, sign, name, ExpressionTree, number, truth, variable, wait, negation, denial, bracket, conditional, OperandTrees, no_operand, operand, StatementTree, empty, assign, send, print, block, if_then, if_else, while_do, repeat, StatementTrees, no_statement, statement, operator_terminal, rank, expression_words, operands_words, statement_words, further_words, expression_nesting, operands_nesting, statement_nesting, statements_nesting, FormedOperands, FormedStatement, FormedStatements, IsSimple, DeclarationTree, channels, process, ArgumentTree, channel, InstanceTree, instance, kind_terminal, role_words, taking_words, SpellsDeclaration, Argues, Instantiates, May, declaration_nesting, declarations_nesting, StandsFirst, level_or_first, Rung, whole, ors, ands, denials, relations, sums, terms, factors, at, tighter, operator_of, RuleToken, accepts, NamesTail, StatementsTail, GroupsTail, ArgumentsTail, InstancesTail, ElseTail, LastTail, Part, ProgramPart, DeclarationsPart, DeclarationPart, ProcessPart, RolePart, GroupsPart, GroupPart, TakingPart, VariablesPart, StatementPart, SimplePart, ExpressionPart, OperatorsPart, InstancePart, ArgumentsPart, ArgumentPart, TokenPart, LevelPart, levels, may_end, step, opened_by, enters, followed, rules_of, Rule, process_rules, declaration_rules, group_rules, simple_rules, other_rules, argument_rules, factor_rules, operand_rules, relation_rules, denial_rules, or_rules, expression_rules, operator_rules, either, an_operator, rank_or, letters_of, bytes_of_sign, bytes_eq, truth_terminal, append_assoc, Keyword, Sign, ◌++◌, a_sign, a_word, a_name, a_number, And, AtLeast, AtMost, Becomes, Begin, Close, Comma, Div, Do, Else, End, Equal, False, Greater, If, Integer, Less, Logical, Minus, Mod, NotWord, On, Open, OrWord, Par, Plus, Print, Repeat, Semicolon, Send, Then, Times, True, Unequal, Wait, While, ◌||◌}
use Rattle.std.specs.Prelude.{neg_ℤ}
use Rattle.kahn_streams.specs.declared.tree.Kind.TheVariants as kind
use Rattle.kahn_streams.specs.declared.tree.Role.TheVariants as role
use Rattle.kahn_streams.specs.declared.tree.Direction.TheVariants as direction
use Rattle.kahn_streams.specs.declared.tree.Taking.TheVariants as taking
use Rattle.kahn_streams.specs.declared.tree.Operator.TheVariants as operator
use Rattle.kahn_syntax.specs.Grammar as grammar
use Rattle.kahn_syntax.specs.inner.Reads as reads
use Rattle.kahn_syntax.proofs.{Levels.joined_words, Levels.joined_nesting, Unique.IsNoneOrOne, Unique.rank_within, Steps.IsChain, Keywords.same_keyword, Signs.sign_by_bytes}
use Rattle.std.proofs.lemmas.Slice.Eq.{bytes_eq-Decides}

abbrev pub Lists : Type 1
Lists = List Terminal → Type 0

-- the token, then what comes after
abbrev pub One : RuleToken → Lists → Lists
One a_name Next ks = (n : List ℕ) × (r : List Terminal) × (ks ≡ name n ∷ r) × Next r
One a_number Next ks = (z : ℤ) × (r : List Terminal) × (ks ≡ grammar.numeral z ∷ r) × Next r
One (a_word w) Next ks = (r : List Terminal) × (ks ≡ word w ∷ r) × Next r
One (either v w) Next ks = (r : List Terminal) × ((ks ≡ word v ∷ r) ⊎ (ks ≡ word w ∷ r)) × Next r
One (a_sign g) Next ks = (r : List Terminal) × (ks ≡ sign g ∷ r) × Next r
One (an_operator o) Next ks = (p : Operator) × (r : List Terminal) × (rank p ≡ rank o) × (ks ≡ operator_terminal p ∷ r) × Next r

-- a tree that is spelled from here to there, then what comes after
abbrev pub Via : (T : Type 0) → (T → List Terminal → List Terminal → Type 0) → Lists → Lists
Via T R Next ks = (t : T) × (r : List Terminal) × R t ks r × Next r

-- statements within the limit
abbrev Statement : ℕ → ℕ → StatementTree → List Terminal → List Terminal → Type 0
Statement l m t ks r = (ks ≡ statement_words t r) × FormedStatement t × (l + statement_nesting t ≤ m)

abbrev Simple : ℕ → ℕ → StatementTree → List Terminal → List Terminal → Type 0
Simple l m t ks r = (ks ≡ statement_words t r) × IsSimple t × FormedStatement t × (l + statement_nesting t ≤ m)

abbrev FurtherStatements : ℕ → ℕ → StatementTrees → List Terminal → List Terminal → Type 0
FurtherStatements l m ss ks r = (ks ≡ further_words ss r) × FormedStatements ss × (l + statements_nesting ss ≤ m)

abbrev Expression : Rung → ℕ → ℕ → ExpressionTree → List Terminal → List Terminal → Type 0
Expression g l m t ks r = (ks ≡ expression_words t r) × reads.FitsLevel (at g) t × (l + expression_nesting t ≤ m)

abbrev Operands : Rung → ℕ → ℕ → OperandTrees → List Terminal → List Terminal → Type 0
Operands g l m os ks r = (ks ≡ operands_words os r) × FormedOperands (at g) os × (at g ≡ 4 → IsNoneOrOne os) × (l + operands_nesting os ≤ m)

-- trees for all that is open spell the list, within m levels
abbrev pub Fits : ℕ → List Part → Lists
Fits m [] ks = ks ≡ []
Fits m (ProgramPart ∷ s) ks = (ds : List DeclarationTree) × (is : List InstanceTree) × (a : List Terminal) × (b : List Terminal) × (c : List Terminal) × (d : List Terminal) × (e : List Terminal)
    × (r : List Terminal) × (ks ≡ word Begin ∷ a) × Ended (StandsFirst (sign Semicolon)) SpellsDeclaration ds a b × SomeBetween (StandsFirst (word Par)) Instantiates is b c × May (StandsFirst (sign Semicolon)) c d × (d ≡ word End ∷ e) × May (StandsFirst (sign Semicolon)) e r
    × (levels s + declarations_nesting ds ≤ m) × Fits m s r
Fits m (DeclarationsPart ∷ s) ks = Via (List DeclarationTree) (λ ds x r. Ended (StandsFirst (sign Semicolon)) SpellsDeclaration ds x r × (levels s + declarations_nesting ds ≤ m)) (Fits m s) ks
Fits m (DeclarationPart ∷ s) ks = Via DeclarationTree (λ d x r. SpellsDeclaration d x r × (levels s + declaration_nesting d ≤ m)) (Fits m s) ks
Fits m (ProcessPart ∷ s) ks = Via DeclarationTree (λ d x r. SpellsDeclaration d x r × (levels s + declaration_nesting d ≤ m)) (Fits m s) ks
Fits m (RolePart ∷ s) ks = Via Role (λ o x r. TakesAll spelling (role_words o []) x r) (Fits m s) ks
Fits m (GroupsPart ∷ s) ks = Via (List (Grouped Taking (List ℕ))) (Between (StandsFirst (sign Semicolon)) (ParameterGroup spelling)) (Fits m s) ks
Fits m (GroupPart ∷ s) ks = Via (Grouped Taking (List ℕ)) (ParameterGroup spelling) (Fits m s) ks
Fits m (TakingPart ∷ s) ks = Via (Kind → Taking) (λ f x r. (k : Kind) (xs : List Terminal) → xs ≡ kind_terminal k ∷ x → TakesAll spelling (taking_words (f k) []) xs r) (Fits m s) ks
Fits m (VariablesPart ∷ s) ks = Via (List (Grouped Kind (List ℕ))) (Ended (StandsFirst (sign Semicolon)) (VariableGroup spelling)) (Fits m s) ks
Fits m (StatementPart ∷ s) ks = Via StatementTree (Statement (levels s) m) (Fits m s) ks
Fits m (SimplePart ∷ s) ks = Via StatementTree (Simple (levels s) m) (Fits m s) ks
Fits m (ExpressionPart l ∷ s) ks = Via ExpressionTree (Expression l (levels s) m) (Fits m s) ks
Fits m (OperatorsPart l ∷ s) ks = Via OperandTrees (Operands l (levels s) m) (Fits m s) ks
Fits m (InstancePart ∷ s) ks = Via InstanceTree Instantiates (Fits m s) ks
Fits m (ArgumentsPart ∷ s) ks = Via (List ArgumentTree) (λ xs x r. Between (StandsFirst (sign Comma)) Argues xs x (sign Close ∷ r)) (Fits m s) ks
Fits m (ArgumentPart ∷ s) ks = Via ArgumentTree Argues (Fits m s) ks
Fits m (NamesTail ∷ s) ks = Via (List (List ℕ)) (Further (StandsFirst (sign Comma)) spelling.named) (Fits m s) ks
Fits m (StatementsTail ∷ s) ks = Via StatementTrees (FurtherStatements (levels s) m) (Fits m s) ks
Fits m (GroupsTail ∷ s) ks = Via (List (Grouped Taking (List ℕ))) (Further (StandsFirst (sign Semicolon)) (ParameterGroup spelling)) (Fits m s) ks
Fits m (ArgumentsTail ∷ s) ks = Via (List ArgumentTree) (Further (StandsFirst (sign Comma)) Argues) (Fits m s) ks
Fits m (InstancesTail ∷ s) ks = Via (List InstanceTree) (Further (StandsFirst (word Par)) Instantiates) (Fits m s) ks
Fits m (ElseTail ∷ s) ks = Fits m s ks ⊎ Via StatementTree (λ t x r. (x ≡ word Else ∷ statement_words t r) × FormedStatement t × (levels s + statement_nesting t ≤ m)) (Fits m s) ks
Fits m (LastTail ∷ s) ks = (r : List Terminal) × May (StandsFirst (sign Semicolon)) ks r × Fits m s r
Fits m (TokenPart t ∷ s) ks = One t (Fits m s) ks
Fits m (LevelPart ∷ s) ks = Fits m s ks

-- a part of which nothing is there
skip : (p : Part) (m : ℕ) (s : List Part) (ks : List Terminal) → (rules_of p).0 ≡ true → levels s ≤ m → Fits m s ks → Fits m (p ∷ s) ks
skip DeclarationsPart m s ks n b h = ([], ks, (refl, omega (arith, b)), h)
skip RolePart m s ks n b h = (role.Inner, ks, refl, h)
skip GroupsPart m s ks n b h = ([], ks, refl, h)
skip TakingPart m s ks n b h = (taking.Value, ks, (λ k xs e. (ks, e, refl)), h)
skip VariablesPart m s ks n b h = ([], ks, refl, h)
skip StatementPart m s ks n b h = (empty, ks, (refl, tt, omega (arith, b)), h)
skip SimplePart m s ks n b h = (empty, ks, (refl, tt, tt, omega (arith, b)), h)
skip (OperatorsPart l) m s ks n b h = (no_operand, ks, (refl, tt, (λ e. tt), omega (arith, b)), h)
skip NamesTail m s ks n b h = ([], ks, refl, h)
skip StatementsTail m s ks n b h = (no_statement, ks, (refl, tt, omega (arith, b)), h)
skip GroupsTail m s ks n b h = ([], ks, refl, h)
skip ArgumentsTail m s ks n b h = ([], ks, refl, h)
skip InstancesTail m s ks n b h = ([], ks, refl, h)
skip ElseTail m s ks n b h = inl h
skip LastTail m s ks n b h = (ks, inr refl, h)
skip LevelPart m s ks n b h = h
skip _ m s ks n b h = absurd (true≢false (sym n))

some_same : (o p : Operator) → Some o ≡ Some p → o ≡ p
some_same o p e = cc

is_terminal : (k : Terminal) (o : Operator) → operator_of k ≡ Some o → k ≡ operator_terminal o
is_terminal (word OrWord) o e = ap operator_terminal (some_same operator.Or o e)
is_terminal (word And) o e = ap operator_terminal (some_same operator.And o e)
is_terminal (sign Equal) o e = ap operator_terminal (some_same operator.Equal o e)
is_terminal (sign Unequal) o e = ap operator_terminal (some_same operator.Unequal o e)
is_terminal (sign Less) o e = ap operator_terminal (some_same operator.Less o e)
is_terminal (sign AtMost) o e = ap operator_terminal (some_same operator.AtMost o e)
is_terminal (sign Greater) o e = ap operator_terminal (some_same operator.Greater o e)
is_terminal (sign AtLeast) o e = ap operator_terminal (some_same operator.AtLeast o e)
is_terminal (sign Plus) o e = ap operator_terminal (some_same operator.Add o e)
is_terminal (sign Minus) o e = ap operator_terminal (some_same operator.Subtract o e)
is_terminal (sign Times) o e = ap operator_terminal (some_same operator.Multiply o e)
is_terminal (word Div) o e = ap operator_terminal (some_same operator.Divide o e)
is_terminal (word Mod) o e = ap operator_terminal (some_same operator.Remainder o e)
is_terminal _ o e = absurd cc

word_same : (v w : Keyword) → bytes_eq (letters_of v) (letters_of w) ≡ true → v ≡ w
word_same v w e = same_keyword v w ((bytes_eq-Decides (letters_of v) (letters_of w)).0 e)

sign_same : (g u : Sign) → bytes_eq (bytes_of_sign g) (bytes_of_sign u) ≡ true → g ≡ u
sign_same g u e = sign_by_bytes g u ((bytes_eq-Decides (bytes_of_sign g) (bytes_of_sign u)).0 e)

test_same : (a b : ℕ) → (a == b) ≡ true → a ≡ b
test_same a b e = grind (arith, nat_tests)

takes_one : (t : RuleToken) (k : Terminal) (Next : Lists) (ks : List Terminal) → accepts t k ≡ true → Next ks → One t Next (k ∷ ks)
takes_one a_name (name n) Next ks e h = (n, ks, refl, h)
takes_one a_number (grammar.numeral z) Next ks e h = (z, ks, refl, h)
takes_one (a_word v) (word w) Next ks e h = (ks, ap (λ x. word x ∷ ks) (sym (word_same v w e)), h)
takes_one (either u v) (word w) Next ks e h = by (bytes_eq (letters_of u) (letters_of w)) refl e
  where
    by : (b : Bool) → bytes_eq (letters_of u) (letters_of w) ≡ b → (b || bytes_eq (letters_of v) (letters_of w)) ≡ true → One (either u v) Next (word w ∷ ks)
    by true p q = (ks, inl (ap (λ x. word x ∷ ks) (sym (word_same u w p))), h)
    by false p q = (ks, inr (ap (λ x. word x ∷ ks) (sym (word_same v w q))), h)
takes_one (a_sign g) (sign u) Next ks e h = (ks, ap (λ x. sign x ∷ ks) (sym (sign_same g u e)), h)
takes_one (an_operator o) k Next ks e h = by (operator_of k) refl (test_same (rank_or (operator_of k)) (rank o) e)
  where
    by : (q : Option Operator) → operator_of k ≡ q → rank_or q ≡ rank o → One (an_operator o) Next (k ∷ ks)
    by None i f = absurd (omega (arith, f, (rank_within o).1))
    by (Some p) i f = (p, ks, f, ap (λ x. x ∷ ks) (is_terminal k p i), h)
takes_one _ _ Next ks e h = absurd (true≢false (sym e))

one_map : (t : RuleToken) (P Q : Lists) → ((r : List Terminal) → P r → Q r) → (ks : List Terminal) → One t P ks → One t Q ks
one_map a_name P Q f ks (n, r, p, h) = (n, r, p, f r h)
one_map a_number P Q f ks (z, r, p, h) = (z, r, p, f r h)
one_map (a_word w) P Q f ks (r, p, h) = (r, p, f r h)
one_map (either v w) P Q f ks (r, p, h) = (r, p, f r h)
one_map (a_sign g) P Q f ks (r, p, h) = (r, p, f r h)
one_map (an_operator o) P Q f ks (q, r, e, p, h) = (q, r, e, p, f r h)

-- where the token of a rule stands before what fits its parts, this fits the part
abbrev Makes : ℕ → Part → List Part → List Rule → Type 0
Makes m p s [] = Unit {0}
Makes m p s ((t, ps) ∷ rest) = ((ks : List Terminal) → One t (Fits m (ps ++ s)) ks → Fits m (p ∷ s) ks) × Makes m p s rest

made : {A B : Type 0} → A → B → A × B
made a b = (a, b)

made_as : (m : ℕ) (p q : Part) (s : List Part) (rs : List Rule) → ((ks : List Terminal) → Fits m (q ∷ s) ks → Fits m (p ∷ s) ks) → Makes m q s rs → Makes m p s rs
made_as m p q s [] f h = tt
made_as m p q s ((t, ps) ∷ rest) f h = ((λ ks x. f ks (h.0 ks x)), made_as m p q s rest f h.1)

made_followed : (m : ℕ) (p q : Part) (after s : List Part) (rs : List Rule) → ((ks : List Terminal) → Fits m (q ∷ after ++ s) ks → Fits m (p ∷ s) ks)
    → Makes m q (after ++ s) rs → Makes m p s (followed after rs)
made_followed m p q after s [] f h = tt
made_followed m p q after s ((t, ps) ∷ rest) f h = (
  λ ks x. f ks (h.0 ks (one_map t (Fits m ((ps ++ after) ++ s)) (Fits m (ps ++ (after ++ s))) (λ r y. subst (λ u. Fits m u r) (append_assoc ps after s) y) ks x)),
  made_followed m p q after s rest f h.1,
)

truth_one : (ks r : List Terminal) → (ks ≡ word True ∷ r) ⊎ (ks ≡ word False ∷ r) → (b : Bool) × (ks ≡ truth_terminal b ∷ r)
truth_one ks r (inl p) = (true, p)
truth_one ks r (inr p) = (false, p)

kind_one : (ks r : List Terminal) → (ks ≡ word Integer ∷ r) ⊎ (ks ≡ word Logical ∷ r) → (k : Kind) × (ks ≡ kind_terminal k ∷ r)
kind_one ks r (inl p) = (kind.Integer, p)
kind_one ks r (inr p) = (kind.Logical, p)

factor_makes : (m : ℕ) (s : List Part) → levels s ≤ m → Makes m (ExpressionPart factors) s factor_rules
factor_makes m s b =
    made (λ ks (z, r, p, h). (number z, r, (p, (omega arith, tt), omega (arith, b)), h))
    (made (λ ks (r, e, h). let v = truth_one ks r e in (truth v.0, r, (v.1, (omega arith, tt), omega (arith, b)), h))
    (made (λ ks (n, r, p, h). (variable n, r, (p, (omega arith, tt), omega (arith, b)), h))
    (made (λ ks (r, p, (r1, p1, (n, r2, p2, (r3, p3, h)))).
    (wait n, r3, (p ∙ ap (λ x. word Wait ∷ x) (p1 ∙ ap (λ x. sign Open ∷ x) (p2 ∙ ap (λ x. name n ∷ x) p3)), (omega arith, tt), omega (arith, b)), h))
    (made (λ ks (r, p, (t, r1, (p1, f, c), h)). (negation t, r1, (p ∙ ap (λ x. sign Minus ∷ x) p1, (omega arith, f), omega (arith, c)), h))
    (made (λ ks (r, p, (t, r1, (p1, f, c), (r2, p2, h))).
    (bracket t, r2, (p ∙ ap (λ x. sign Open ∷ x) (p1 ∙ ap (expression_words t) p2), (omega arith, f.1), omega (arith, c)), h)) tt)))))

joined_fits : (n : ℕ) (e : ExpressionTree) (os : OperandTrees) → (n ≡ 4 → IsNoneOrOne os) → 0 < n → reads.FitsLevel (n + 1) e → FormedOperands n os → reads.FitsLevel n (level_or_first e os)
joined_fits n e no_operand one b f h = (omega (arith, f.0), f.1)
joined_fits n e (operand o g os) one b f h =
    (omega (arith, h.0), (omega (arith, h.0, f.0), f.1, omega (arith, h.0), subst (λ k. FormedOperands k (operand o g os)) (sym h.0) h, λ four. one (sym h.0 ∙ four)))

chain_at : (l : Rung) → IsChain l → (at (tighter l) ≡ at l + 1) × (0 < at l)
chain_at whole h = absurd h
chain_at denials h = absurd h
chain_at factors h = absurd h
chain_at _ h = (refl, omega arith)

-- an operand and what follows it at its level
made_level : (l : Rung) (m : ℕ) (s : List Part) (ks : List Terminal) → IsChain l → Fits m (ExpressionPart (tighter l) ∷ OperatorsPart l ∷ s) ks → Fits m (ExpressionPart l ∷ s) ks
made_level l m s ks c (t, r, (p, f, a), (os, r1, (p1, g, one, d), h)) =
    let e = chain_at l c in
    (level_or_first t os, r1, (p ∙ ap (expression_words t) p1 ∙ sym (joined_words t os r1), joined_fits (at l) t os one e.1 (omega (arith, e.0, f.0), f.1) g, omega (arith, a, d, joined_nesting t os)), h)

operand_makes : (l : Rung) (m : ℕ) (s : List Part) (rs : List Rule) → IsChain l → Makes m (ExpressionPart (tighter l)) (OperatorsPart l ∷ s) rs → Makes m (ExpressionPart l) s (operand_rules l rs)
operand_makes l m s rs c h = made_followed m (ExpressionPart l) (ExpressionPart (tighter l)) (OperatorsPart l ∷ []) s rs (λ ks x. made_level l m s ks c x) h

sum_makes : (m : ℕ) (s : List Part) → levels s ≤ m → Makes m (ExpressionPart sums) s (expression_rules sums)
sum_makes m s b = operand_makes sums m s (operand_rules terms factor_rules) tt (operand_makes terms m (OperatorsPart sums ∷ s) factor_rules tt (factor_makes m (OperatorsPart terms ∷ OperatorsPart sums ∷ s) b))

denial_makes : (m : ℕ) (s : List Part) → levels s ≤ m → Makes m (ExpressionPart denials) s denial_rules
denial_makes m s b =
    made (λ ks (r, p, (t, r1, (p1, f, c), h)). (denial t, r1, (p ∙ ap (λ x. word NotWord ∷ x) p1, (omega arith, f), omega (arith, c)), h))
    (made_as m (ExpressionPart denials) (ExpressionPart relations) s relation_rules (λ ks (t, r, (p, f, c), h). (t, r, (p, (omega (arith, f.0), f.1), c), h))
    (operand_makes relations m s (expression_rules sums) tt (sum_makes m (OperatorsPart relations ∷ s) b)))

and_makes : (m : ℕ) (s : List Part) → levels s ≤ m → Makes m (ExpressionPart ands) s (expression_rules ands)
and_makes m s b = operand_makes ands m s denial_rules tt (denial_makes m (OperatorsPart ands ∷ s) b)

or_makes : (m : ℕ) (s : List Part) → levels s ≤ m → Makes m (ExpressionPart ors) s or_rules
or_makes m s b = operand_makes ors m s (expression_rules ands) tt (and_makes m (OperatorsPart ors ∷ s) b)

expression_makes : (l : Rung) (m : ℕ) (s : List Part) → levels s ≤ m → Makes m (ExpressionPart l) s (expression_rules l)
expression_makes whole m s b = (
  λ ks (r, p, (x, r1, (p1, f1, c1), (r2, p2, (y, r3, (p3, f3, c3), (r4, p4, (z, r5, (p5, f5, c5), h)))))). (
    conditional x y z,
    r5,
    (
      p ∙ ap (λ w. word If ∷ w) (p1 ∙ ap (expression_words x) (p2 ∙ ap (λ w. word Then ∷ w) (p3 ∙ ap (expression_words y) (p4 ∙ ap (λ w. word Else ∷ w) p5)))),
      (omega arith, (f1.1, f3.1, f5.1)),
      omega (arith, c1, c3, c5),
    ),
    h,
  ),
  made_as m (ExpressionPart whole) (ExpressionPart ors) s or_rules (λ ks (t, r, (p, f, c), h). (t, r, (p, (omega arith, f.1), c), h)) (or_makes m s b),
)
expression_makes ors m s b = or_makes m s b
expression_makes ands m s b = and_makes m s b
expression_makes denials m s b = denial_makes m s b
expression_makes relations m s b = operand_makes relations m s (expression_rules sums) tt (sum_makes m (OperatorsPart relations ∷ s) b)
expression_makes sums m s b = sum_makes m s b
expression_makes terms m s b = operand_makes terms m s factor_rules tt (factor_makes m (OperatorsPart terms ∷ s) b)
expression_makes factors m s b = factor_makes m s b

-- operands of a level where more may follow
made_more : (l : Rung) (m : ℕ) (s : List Part) (o : Operator) (ks : List Terminal) → IsChain l → (at l ≡ 4 → ⊥) → rank o ≡ at l →
    Fits m (ExpressionPart (tighter l) ∷ OperatorsPart l ∷ s) ks → Fits m (OperatorsPart l ∷ s) (operator_terminal o ∷ ks)
made_more l m s o ks c n e (t, r, (p, f, a), (os, r1, (p1, g, one, d), h)) =
    let i = chain_at l c in
    (operand o t os, r1, (ap (λ x. operator_terminal o ∷ x) (p ∙ ap (expression_words t) p1), (e, omega (arith, i.0, f.0), f.1, g), (λ four. absurd (n four)), omega (arith, a, d)), h)

operators_make : (l : Rung) (m : ℕ) (s : List Part) → Makes m (OperatorsPart l) s (operator_rules l)
operators_make ors m s = (λ ks (o, r, e, p, h). subst (Fits m (OperatorsPart ors ∷ s)) (sym p) (made_more ors m s o r tt (λ n. omega (arith, n)) e h), tt)
operators_make ands m s = (λ ks (o, r, e, p, h). subst (Fits m (OperatorsPart ands ∷ s)) (sym p) (made_more ands m s o r tt (λ n. omega (arith, n)) e h), tt)
operators_make relations m s =
    (λ ks (o, r, e, p, (t, r1, (p1, f, a), h)). (operand o t no_operand, r1, (p ∙ ap (λ x. operator_terminal o ∷ x) p1, (e, omega (arith, f.0), f.1, tt), (λ four. tt), omega (arith, a)), h), tt)
operators_make sums m s = (λ ks (o, r, e, p, h). subst (Fits m (OperatorsPart sums ∷ s)) (sym p) (made_more sums m s o r tt (λ n. omega (arith, n)) e h), tt)
operators_make terms m s = (λ ks (o, r, e, p, h). subst (Fits m (OperatorsPart terms ∷ s)) (sym p) (made_more terms m s o r tt (λ n. omega (arith, n)) e h), tt)
operators_make _ m s = tt

simple_makes : (m : ℕ) (s : List Part) → Makes m SimplePart s simple_rules
simple_makes m s =
    made (λ ks (n, r, p, (r1, p1, (v, r2, (p2, f, c), h))). (assign n v, r2, (p ∙ ap (λ x. name n ∷ x) (p1 ∙ ap (λ x. sign Becomes ∷ x) p2), tt, f.1, c), h))
    (made (λ ks (r, p, (v, r1, (p1, f, c), (r2, p2, (n, r3, p3, h)))).
    (send v n, r3, (p ∙ ap (λ x. word Send ∷ x) (p1 ∙ ap (expression_words v) (p2 ∙ ap (λ x. word On ∷ x) p3)), tt, f.1, c), h))
    (made (λ ks (r, p, (v, r1, (p1, f, c), h)). (print v, r1, (p ∙ ap (λ x. word Print ∷ x) p1, tt, f.1, c), h))
    (made (λ ks (r, p, (t, r1, (p1, f, c), (ss, r2, (p2, g, d), (r3, p3, h)))).
    (block (statement t ss), r3, (p ∙ ap (λ x. word Begin ∷ x) (p1 ∙ ap (statement_words t) (p2 ∙ ap (further_words ss) p3)), tt, (tt, (f, g)), omega (arith, c, d)), h)) tt)))

made_if : (m : ℕ) (s : List Part) (ks : List Terminal) → Fits m (ExpressionPart whole ∷ TokenPart (a_word Then) ∷ SimplePart ∷ ElseTail ∷ LevelPart ∷ s) ks →
    Fits m (StatementPart ∷ s) (word If ∷ ks)
made_if m s ks (e, r, (p, f, c), (r1, p1, (t, r2, (p2, i, g, d), alt))) =
    let start : word If ∷ ks ≡ word If ∷ expression_words e (word Then ∷ statement_words t r2) =
    ap (λ x. word If ∷ x) (p ∙ ap (expression_words e) (p1 ∙ ap (λ x. word Then ∷ x) p2)) in
    ⊎_elim
    (λ h. (if_then e t, r2, (start, (f.1, i, g), omega (arith, c, d)), h))
    (λ (u, r3, (p3, f3, c3), h).
    (if_else e t u, r3, (start ∙ ap (λ x. word If ∷ expression_words e (word Then ∷ statement_words t x)) p3, (f.1, i, g, f3), omega (arith, c, d, c3)), h))
    alt

statement_makes : (m : ℕ) (s : List Part) → Makes m StatementPart s (other_rules ++ simple_rules)
statement_makes m s =
    made (λ ks (r, p, h). subst (Fits m (StatementPart ∷ s)) (sym p) (made_if m s r h))
    (made (λ ks (r, p, (e, r1, (p1, f, c), (r2, p2, (t, r3, (p3, g, d), h)))).
    (while_do e t, r3, (p ∙ ap (λ x. word While ∷ x) (p1 ∙ ap (expression_words e) (p2 ∙ ap (λ x. word Do ∷ x) p3)), (f.1, g), omega (arith, c, d)), h))
    (made (λ ks (r, p, (t, r1, (p1, f, c), h)). (repeat t, r1, (p ∙ ap (λ x. word Repeat ∷ x) p1, f, omega (arith, c)), h))
    (made_as m StatementPart SimplePart s simple_rules (λ ks (t, r, (p, i, f, c), h). (t, r, (p, f, c), h)) (simple_makes m s))))

process_makes : (m : ℕ) (s : List Part) → Makes m ProcessPart s process_rules
process_makes m s = (
  λ ks (r0, p0, (n, r, p, (r1, p1, (gs, r2, p2, (r3, p3, (r4, p4, (r5, p5, (ts, r6, p6, (t, r7, (p7, f, c), (ss, r8, (p8, g, d), (r9, p9, h))))))))))). (
    process n (all_members (λ t x. (t, x)) gs) (all_members (λ k x. (k, x)) ts) (statement t ss),
    r9,
    ((r0, r, r5, r6, r8, p0, p, (r1, r2, p1, (gs, refl, p2), (r3, p3, (r4, p4, (r5, p5, refl)))), (ts, refl, p6), (p7 ∙ ap (statement_words t) p8, tt, (f, g)), p9), omega (arith, c, d)),
    h,
  ),
  tt,
)

declaration_makes : (m : ℕ) (s : List Part) → levels s ≤ m → Makes m DeclarationPart s declaration_rules
declaration_makes m s b = (
  λ ks (r0, e, (o, r, p, (r1, p1, (n, r2, p2, (ns, r3, p3, h))))). let k = kind_one ks r0 e in (
    channels k.0 o (n ∷ ns),
    r3,
    ((r0, r, r1, k.1, p, p1, (r2, p2, p3)), omega (arith, b)),
    h,
  ),
  process_makes m s,
)

group_makes : (m : ℕ) (s : List Part) → Makes m GroupPart s group_rules
group_makes m s =
    made (λ ks (r0, e, (f, r, g, (n, r1, p1, (ns, r2, p2, h)))). let k = kind_one ks r0 e in
    (group (f k.0) (n ∷ ns), r2, (r, g k.0 ks k.1, (r1, p1, p2)), h)) tt

variables_make : (m : ℕ) (s : List Part) → Makes m VariablesPart s (rules_of VariablesPart).1
variables_make m s = (
  λ ks (r0, e, (n, r, p, (ns, r1, p1, (r2, p2, (ts, r3, p3, h))))). let k = kind_one ks r0 e in (
    group k.0 (n ∷ ns) ∷ ts,
    r3,
    (r1, r2, (r0, k.1, (r, p, p1)), p2, p3),
    h,
  ),
  tt,
)

argument_makes : (m : ℕ) (s : List Part) → Makes m ArgumentPart s argument_rules
argument_makes m s =
    made (λ ks (n, r, p, h). (channel n, r, p, h))
    (made (λ ks (z, r, p, h). (grammar.number_argument z, r, inl p, h))
    (made (λ ks (r, e, h). let v = truth_one ks r e in (grammar.truth_argument v.0, r, v.1, h))
    ((λ ks (r, p, (z, r1, p1, h)). (grammar.number_argument (neg_ℤ z), r1, inr (z, r, refl, p, p1), h), tt))))

makes : (p : Part) (m : ℕ) (s : List Part) → levels s ≤ m → Makes m p s (rules_of p).1
makes ProgramPart m s b =
    made (λ ks (r0, p0, (ds, r, (q, c), (i, r1, q1, (is, r2, q2, (r3, q3, (r4, p4, (r5, q5, h))))))). (ds, i ∷ is, r0, r, r2, r3, r4, r5, p0, q, (r1, q1, q2), q3, p4, q5, c, h)) tt
makes DeclarationsPart m s b =
    made_followed m DeclarationsPart DeclarationPart (TokenPart (a_sign Semicolon) ∷ DeclarationsPart ∷ []) s declaration_rules
    (λ ks (d, r, (p, c), (r1, p1, (ds, r2, (q, e), h))). (d ∷ ds, r2, ((r, r1, p, p1, q), omega (arith, c, e)), h))
    (declaration_makes m (TokenPart (a_sign Semicolon) ∷ DeclarationsPart ∷ s) b)
makes DeclarationPart m s b = declaration_makes m s b
makes ProcessPart m s b = process_makes m s
makes RolePart m s b = (λ ks (r, e, h). ⊎_elim (λ p. (role.Input, r, (r, p, refl), h)) (λ p. (role.Output, r, (r, p, refl), h)) e, tt)
makes GroupsPart m s b =
    made_followed m GroupsPart GroupPart (GroupsTail ∷ []) s group_rules (λ ks (g, r, p, (gs, r1, p1, h)). (g ∷ gs, r1, (r, p, p1), h))
    (group_makes m (GroupsTail ∷ s))
makes GroupPart m s b = group_makes m s
makes TakingPart m s b =
    made (λ ks (r, e, h).
    ⊎_elim (λ p. (taking.Channel direction.In, r, (λ k xs e. (ks, e, (r, p, refl))), h)) (λ p. (taking.Channel direction.Out, r, (λ k xs e. (ks, e, (r, p, refl))), h)) e) tt
makes VariablesPart m s b = variables_make m s
makes StatementPart m s b = statement_makes m s
makes SimplePart m s b = simple_makes m s
makes (ExpressionPart l) m s b = expression_makes l m s b
makes (OperatorsPart l) m s b = operators_make l m s
makes InstancePart m s b = (λ ks (n, r, p, (r1, p1, (xs, r2, q, h))). (instance n xs, r2, (r, r1, sign Close ∷ r2, p, p1, q, refl), h), tt)
makes ArgumentsPart m s b =
    made (λ ks (r, p, h). ([], r, p, h))
    (made_followed m ArgumentsPart ArgumentPart (ArgumentsTail ∷ TokenPart (a_sign Close) ∷ []) s argument_rules
    (λ ks (a, r, p, (xs, r1, q, (r2, p2, h))). (a ∷ xs, r2, (r, p, subst (Further (StandsFirst (sign Comma)) Argues xs r) p2 q), h))
    (argument_makes m (ArgumentsTail ∷ TokenPart (a_sign Close) ∷ s)))
makes ArgumentPart m s b = argument_makes m s
makes NamesTail m s b = (λ ks (r, p, (n, r1, p1, (ns, r2, p2, h))). (n ∷ ns, r2, (r, r1, p, p1, p2), h), tt)
makes StatementsTail m s b =
    made (λ ks (r, p, (t, r1, (p1, f, c), (ss, r2, (p2, g, d), h))).
    (statement t ss, r2, (p ∙ ap (λ x. sign Semicolon ∷ x) (p1 ∙ ap (statement_words t) p2), (f, g), omega (arith, c, d)), h)) tt
makes GroupsTail m s b =
    made (λ ks (r, p, (g, r1, p1, (gs, r2, p2, h))). (g ∷ gs, r2, (r, r1, p, p1, p2), h)) tt
makes ArgumentsTail m s b = (λ ks (r, p, (a, r1, p1, (xs, r2, q, h))). (a ∷ xs, r2, (r, r1, p, p1, q), h), tt)
makes InstancesTail m s b = (λ ks (r, p, (i, r1, p1, (is, r2, q, h))). (i ∷ is, r2, (r, r1, p, p1, q), h), tt)
makes ElseTail m s b = (λ ks (r, p, (t, r1, (p1, f, c), h)). inr (t, r1, (p ∙ ap (λ x. word Else ∷ x) p1, f, c), h), tt)
makes LastTail m s b = (λ ks (r, p, h). (r, inl p, h), tt)
makes (TokenPart t) m s b = (λ ks h. h, tt)
makes LevelPart m s b = tt

found : (m : ℕ) (p : Part) (s : List Part) (k : Terminal) (ks : List Terminal) (rs : List Rule) (ps : List Part) → Makes m p s rs → enters rs k ≡ Some ps → Fits m (ps ++ s) ks → Fits m (p ∷ s) (k ∷ ks)
found m p s k ks [] ps h e f = absurd cc
found m p s k ks ((t, qs) ∷ rest) ps h e f = by (accepts t k) refl e (λ g. found m p s k ks rest ps h.1 g f)
  where
    by : (b : Bool) → accepts t k ≡ b → cond b (Some qs) (enters rest k) ≡ Some ps → (enters rest k ≡ Some ps → Fits m (p ∷ s) (k ∷ ks)) → Fits m (p ∷ s) (k ∷ ks)
    by true i g again =
        let same : qs ≡ ps = cc in
        h.0 (k ∷ ks) (takes_one t k (Fits m (qs ++ s)) ks i (subst (λ x. Fits m (x ++ s) ks) (sym same) f))
    by false i g again = again g

below : (p : Part) (s : List Part) → levels s ≤ levels (p ∷ s)
below LevelPart s = omega arith
below _ s = omega arith

-- where a terminal leads on, it stands in front of what fits there
pub further : (m : ℕ) (s t : List Part) (k : Terminal) (ks : List Terminal) → levels s ≤ m → step s k ≡ Some t → Fits m t ks → Fits m s (k ∷ ks)
further m [] t k ks b e h = absurd cc
further m (p ∷ s) t k ks b e h = by (enters (rules_of p).1 k) refl e (λ f. further m s t k ks (omega (arith, b, below p s)) f h)
  where
    skipped : (n : Bool) → (rules_of p).0 ≡ n → cond n (step s k) None ≡ Some t → (step s k ≡ Some t → Fits m s (k ∷ ks)) → Fits m (p ∷ s) (k ∷ ks)
    skipped true i f rest = skip p m s (k ∷ ks) i (omega (arith, b, below p s)) (rest f)
    skipped false i f rest = absurd cc

    by : (o : Option (List Part)) → enters (rules_of p).1 k ≡ o → opened_by s (cond (rules_of p).0 (step s k) None) o ≡ Some t → (step s k ≡ Some t → Fits m s (k ∷ ks)) → Fits m (p ∷ s) (k ∷ ks)
    by None i f rest = skipped (rules_of p).0 refl f rest
    by (Some ps) i f rest =
        let same : ps ++ s ≡ t = cc in
        found m p s k ks (rules_of p).1 ps (makes p m s (omega (arith, b, below p s))) i (subst (λ x. Fits m x ks) (sym same) h)

some_token : (t : RuleToken) (Next : Lists) → ((ks : List Terminal) × Next ks) → (ks : List Terminal) × One t Next ks
some_token a_name Next (r, h) = (_, ([], r, refl, h))
some_token a_number Next (r, h) = (_, (pos 0, r, refl, h))
some_token (a_word w) Next (r, h) = (_, (r, refl, h))
some_token (either v w) Next (r, h) = (word v ∷ r, (r, inl refl, h))
some_token (a_sign g) Next (r, h) = (_, (r, refl, h))
some_token (an_operator o) Next (r, h) = (_, (o, r, refl, refl, h))

at_most : (l : Rung) → at l ≤ 7
at_most whole = omega arith
at_most _ = omega arith

abbrev least_process : DeclarationTree
least_process = process [] [] [] (statement empty no_statement)

least_declares : (r : List Terminal) → (ks : List Terminal) × SpellsDeclaration least_process ks r
least_declares r = (_, (_, _, _, _, _, refl, refl, (_, _, refl, ([], refl, refl), (_, refl, (_, refl, (_, refl, refl)))), ([], refl, refl), (refl, tt, (tt, tt)), refl))

-- what is open can always be completed
pub fits_some : (m : ℕ) (s : List Part) → levels s ≤ m → (ks : List Terminal) × Fits m s ks
fits_some m [] b = ([], refl)
fits_some m (ProgramPart ∷ s) b =
    let h = fits_some m s b in (_, ([], instance [] [] ∷ [], _, _, _, _, _, h.0, refl, refl, (_, (_, _, _, refl, refl, refl, refl), refl), inr refl, refl, inr refl, omega (arith, b), h.1))
fits_some m (DeclarationPart ∷ s) b = let h = fits_some m s b in (_, (channels kind.Integer role.Inner ([] ∷ []), h.0, ((_, _, _, refl, refl, refl, (_, refl, refl)), omega (arith, b)), h.1))
fits_some m (ProcessPart ∷ s) b = let h = fits_some m s b in let d = least_declares h.0 in (d.0, (least_process, h.0, (d.1, omega (arith, b)), h.1))
fits_some m (GroupPart ∷ s) b = let h = fits_some m s b in (_, (group (taking.Value kind.Integer) ([] ∷ []), h.0, (_, (_, refl, refl), (_, refl, refl)), h.1))
fits_some m (ExpressionPart l ∷ s) b = let h = fits_some m s b in (_, (number (pos 0), h.0, (refl, (at_most l, tt), omega (arith, b)), h.1))
fits_some m (InstancePart ∷ s) b = let h = fits_some m s b in (_, (instance [] [], h.0, (_, _, _, refl, refl, refl, refl), h.1))
fits_some m (ArgumentsPart ∷ s) b = let h = fits_some m s b in (_, ([], h.0, refl, h.1))
fits_some m (ArgumentPart ∷ s) b = let h = fits_some m s b in (_, (channel [], h.0, refl, h.1))
fits_some m (TokenPart t ∷ s) b = some_token t (Fits m s) (fits_some m s b)
fits_some m (LevelPart ∷ s) b = fits_some m s (omega (arith, b))
fits_some m (p ∷ s) b = let h = fits_some m s b in (h.0, skip p m s h.0 refl b h.1)

-- where it may end, nothing more is needed
pub fits_nothing : (m : ℕ) (s : List Part) → levels s ≤ m → may_end s ≡ true → Fits m s []
fits_nothing m [] b e = refl
fits_nothing m (p ∷ s) b e = by (rules_of p).0 refl e (λ f. fits_nothing m s (omega (arith, b, below p s)) f)
  where
    by : (n : Bool) → (rules_of p).0 ≡ n → cond n (may_end s) false ≡ true → (may_end s ≡ true → Fits m s []) → Fits m (p ∷ s) []
    by true i f rest = skip p m s [] i (omega (arith, b, below p s)) (rest f)
    by false i f rest = absurd (true≢false (sym f))
