-- Believed. The grammar (this project's profile of Kahn's language): terminals; trees of expressions, statements, declarations, instances
-- and programs, what each spells, which are of the grammar, and how deep they nest. What is said of a program holds for terminals as for
-- the lexemes of a text.
use Rattle.std.specs.Prelude.{◌≡◌, ℕ, ℤ, Bool, true, false, List, ◌∷◌, ◌+◌, ◌≤◌, ◌<◌, max, [], ◌++◌, map, ◌⊎◌, neg_ℤ}
use Rattle.kahn_syntax.specs.declared.lexeme.Keyword.TheVariants as keyword
use Rattle.kahn_syntax.specs.declared.lexeme.Sign.TheVariants as mark
use Rattle.kahn_syntax.specs.{declared.lexeme.Keyword.Keyword, declared.lexeme.Sign.Sign, Names.Kind, Names.Role, Names.Taking}
use Rattle.kahn_streams.specs.declared.tree.Operator.{Operator}
use Rattle.kahn_streams.specs.declared.tree.Operator.TheVariants as operator
use Rattle.kahn_streams.specs.declared.tree.{Kind.TheVariants.Integer, Kind.TheVariants.Logical, Role.TheVariants.Inner, Role.TheVariants.Input, Role.TheVariants.Output, Direction.TheVariants.In, Direction.TheVariants.Out, Taking.TheVariants.Channel, Taking.TheVariants.Value}

-- a keyword, a sign, a number with its value, or a name with its bytes
pub data Terminal : Type 0 where
  word : Keyword → Terminal
  sign : Sign → Terminal
  numeral : ℤ → Terminal
  name : List ℕ → Terminal

mutual
  pub data ExpressionTree : Type 0 where
    number : ℤ → ExpressionTree
    truth : Bool → ExpressionTree
    variable wait : List ℕ → ExpressionTree
    negation denial bracket : ExpressionTree → ExpressionTree
    -- the operators of one level: the first operand, and the further ones
    level : ExpressionTree → OperandTrees → ExpressionTree
    conditional : ExpressionTree → ExpressionTree → ExpressionTree → ExpressionTree

  -- operators with their right operands, in order
  pub data OperandTrees : Type 0 where
    no_operand : OperandTrees
    operand : Operator → ExpressionTree → OperandTrees → OperandTrees

mutual
  pub data StatementTree : Type 0 where
    empty : StatementTree
    assign : List ℕ → ExpressionTree → StatementTree
    send : ExpressionTree → List ℕ → StatementTree
    print : ExpressionTree → StatementTree
    block : StatementTrees → StatementTree
    if_then while_do : ExpressionTree → StatementTree → StatementTree
    if_else : ExpressionTree → StatementTree → StatementTree → StatementTree
    repeat : StatementTree → StatementTree

  pub data StatementTrees : Type 0 where
    no_statement : StatementTrees
    statement : StatementTree → StatementTrees → StatementTrees

-- the terminal of an operator
abbrev pub operator_terminal : Operator → Terminal
operator_terminal operator.Or = word keyword.Or
operator_terminal operator.And = word keyword.And
operator_terminal operator.Equal = sign mark.Equal
operator_terminal operator.Unequal = sign mark.Unequal
operator_terminal operator.Less = sign mark.Less
operator_terminal operator.AtMost = sign mark.AtMost
operator_terminal operator.Greater = sign mark.Greater
operator_terminal operator.AtLeast = sign mark.AtLeast
operator_terminal operator.Add = sign mark.Plus
operator_terminal operator.Subtract = sign mark.Minus
operator_terminal operator.Multiply = sign mark.Times
operator_terminal operator.Divide = word keyword.Div
operator_terminal operator.Remainder = word keyword.Mod

abbrev pub truth_terminal : Bool → Terminal
truth_terminal true = word keyword.True
truth_terminal false = word keyword.False

-- What a tree spells, with these terminals after it.
abbrev mutual
  pub expression_words : ExpressionTree → List Terminal → List Terminal
  expression_words (number n) r = numeral n ∷ r
  expression_words (truth b) r = truth_terminal b ∷ r
  expression_words (variable n) r = name n ∷ r
  expression_words (wait n) r = word keyword.Wait ∷ sign mark.Open ∷ name n ∷ sign mark.Close ∷ r
  expression_words (negation e) r = sign mark.Minus ∷ expression_words e r
  expression_words (denial e) r = word keyword.Not ∷ expression_words e r
  expression_words (bracket e) r = sign mark.Open ∷ expression_words e (sign mark.Close ∷ r)
  expression_words (level e os) r = expression_words e (operands_words os r)
  expression_words (conditional t a b) r =
      word keyword.If ∷ expression_words t (word keyword.Then ∷ expression_words a (word keyword.Else ∷ expression_words b r))

  pub operands_words : OperandTrees → List Terminal → List Terminal
  operands_words no_operand r = r
  operands_words (operand o e os) r = operator_terminal o ∷ expression_words e (operands_words os r)

abbrev mutual
  pub statement_words : StatementTree → List Terminal → List Terminal
  statement_words empty r = r
  statement_words (assign n e) r = name n ∷ sign mark.Becomes ∷ expression_words e r
  statement_words (send e n) r = word keyword.Send ∷ expression_words e (word keyword.On ∷ name n ∷ r)
  statement_words (print e) r = word keyword.Print ∷ expression_words e r
  statement_words (block ss) r = word keyword.Begin ∷ statements_words ss (word keyword.End ∷ r)
  statement_words (if_then t a) r = word keyword.If ∷ expression_words t (word keyword.Then ∷ statement_words a r)
  statement_words (if_else t a b) r =
      word keyword.If ∷ expression_words t (word keyword.Then ∷ statement_words a (word keyword.Else ∷ statement_words b r))
  statement_words (while_do t a) r = word keyword.While ∷ expression_words t (word keyword.Do ∷ statement_words a r)
  statement_words (repeat a) r = word keyword.Repeat ∷ statement_words a r

  -- with semicolons between
  pub statements_words : StatementTrees → List Terminal → List Terminal
  statements_words no_statement r = r
  statements_words (statement s ss) r = statement_words s (further_words ss r)

  pub further_words : StatementTrees → List Terminal → List Terminal
  further_words no_statement r = r
  further_words (statement s ss) r = sign mark.Semicolon ∷ statement_words s (further_words ss r)

-- How tightly an operator binds. Level 3 is that of `not`.
abbrev pub rank : Operator → ℕ
rank operator.Or = 1
rank operator.And = 2
rank operator.Add = 5
rank operator.Subtract = 5
rank operator.Multiply = 6
rank operator.Divide = 6
rank operator.Remainder = 6
rank _ = 4

abbrev pub first_rank : OperandTrees → ℕ
first_rank no_operand = 0
first_rank (operand o e os) = rank o

-- the level of an expression, from 0 for a conditional one to 7 for a factor
abbrev pub binds : ExpressionTree → ℕ
binds (denial e) = 3
binds (level e os) = first_rank os
binds (conditional t a b) = 0
binds _ = 7

abbrev pub IsOneOperand : OperandTrees → Type 0
IsOneOperand (operand o e no_operand) = Unit {0}
IsOneOperand _ = ⊥

-- The tree is one of the grammar: operands bind tighter than their operators, a level has an operator and all its
-- operators are of it, and comparisons don't follow one another.
abbrev mutual
  pub Formed : ExpressionTree → Type 0
  Formed (negation e) = (7 ≤ binds e) × Formed e
  Formed (denial e) = (3 ≤ binds e) × Formed e
  Formed (bracket e) = Formed e
  Formed (level e os) = (first_rank os < binds e) × Formed e × (0 < first_rank os) × FormedOperands (first_rank os) os × (first_rank os ≡ 4 → IsOneOperand os)
  Formed (conditional t a b) = Formed t × Formed a × Formed b
  Formed _ = Unit {0}

  pub FormedOperands : ℕ → OperandTrees → Type 0
  FormedOperands n no_operand = Unit {0}
  FormedOperands n (operand o e os) = (rank o ≡ n) × (n < binds e) × Formed e × FormedOperands n os

-- a statement that may stand between `then` and `else`
abbrev pub IsSimple : StatementTree → Type 0
IsSimple (if_then t a) = ⊥
IsSimple (if_else t a b) = ⊥
IsSimple (while_do t a) = ⊥
IsSimple (repeat a) = ⊥
IsSimple _ = Unit {0}

abbrev pub AreSome : StatementTrees → Type 0
AreSome no_statement = ⊥
AreSome (statement s ss) = Unit {0}

-- The same for statements: a block has a statement, be it an empty one, and a simple one stands after `then`.
abbrev mutual
  pub FormedStatement : StatementTree → Type 0
  FormedStatement empty = Unit {0}
  FormedStatement (assign n e) = Formed e
  FormedStatement (send e n) = Formed e
  FormedStatement (print e) = Formed e
  FormedStatement (block ss) = AreSome ss × FormedStatements ss
  FormedStatement (if_then t a) = Formed t × IsSimple a × FormedStatement a
  FormedStatement (if_else t a b) = Formed t × IsSimple a × FormedStatement a × FormedStatement b
  FormedStatement (while_do t a) = Formed t × FormedStatement a
  FormedStatement (repeat a) = FormedStatement a

  pub FormedStatements : StatementTrees → Type 0
  FormedStatements no_statement = Unit {0}
  FormedStatements (statement s ss) = FormedStatement s × FormedStatements ss

-- The most levels that are open at one time: `begin` of a block, `if`, `while`, `repeat`, `not`, `-` before a factor
-- and a bracket round an expression each open one.
abbrev mutual
  pub expression_nesting : ExpressionTree → ℕ
  expression_nesting (negation e) = expression_nesting e + 1
  expression_nesting (denial e) = expression_nesting e + 1
  expression_nesting (bracket e) = expression_nesting e + 1
  expression_nesting (level e os) = max (expression_nesting e) (operands_nesting os)
  expression_nesting (conditional t a b) = max (expression_nesting t) (max (expression_nesting a) (expression_nesting b)) + 1
  expression_nesting _ = 0

  pub operands_nesting : OperandTrees → ℕ
  operands_nesting no_operand = 0
  operands_nesting (operand o e os) = max (expression_nesting e) (operands_nesting os)

abbrev mutual
  pub statement_nesting : StatementTree → ℕ
  statement_nesting empty = 0
  statement_nesting (assign n e) = expression_nesting e
  statement_nesting (send e n) = expression_nesting e
  statement_nesting (print e) = expression_nesting e
  statement_nesting (block ss) = statements_nesting ss + 1
  statement_nesting (if_then t a) = max (expression_nesting t) (statement_nesting a) + 1
  statement_nesting (if_else t a b) = max (expression_nesting t) (max (statement_nesting a) (statement_nesting b)) + 1
  statement_nesting (while_do t a) = max (expression_nesting t) (statement_nesting a) + 1
  statement_nesting (repeat a) = statement_nesting a + 1

  pub statements_nesting : StatementTrees → ℕ
  statements_nesting no_statement = 0
  statements_nesting (statement s ss) = max (statement_nesting s) (statements_nesting ss)

-- ---- declarations, instances and programs

-- what T takes, or nothing
abbrev pub May : {K : Type 0} → (List K → List K → Type 0) → List K → List K → Type 0
May T ks r = T ks r ⊎ (ks ≡ r)

-- Parts P of a list, with separators T.
module _ {K X : Type 0} (T : List K → List K → Type 0) (P : X → List K → List K → Type 0) where
  -- none or more, each after a separator
  abbrev pub Further : List X → List K → List K → Type 0
  Further [] ks r = ks ≡ r
  Further (x ∷ xs) ks r = (a b : List K) × T ks a × P x a b × Further xs b r

  -- none or more, with separators between
  abbrev pub Between : List X → List K → List K → Type 0
  Between [] ks r = ks ≡ r
  Between (x ∷ xs) ks r = (a : List K) × P x ks a × Further xs a r

  -- one or more
  abbrev pub SomeBetween : List X → List K → List K → Type 0
  SomeBetween [] ks r = ⊥
  SomeBetween (x ∷ xs) ks r = Between (x ∷ xs) ks r

  -- none or more, with a separator after each
  abbrev pub Ended : List X → List K → List K → Type 0
  Ended [] ks r = ks ≡ r
  Ended (x ∷ xs) ks r = (a b : List K) × P x ks a × T a b × Ended xs b r

-- names with what they share: what parameters take, the kind of variables
pub data Grouped (A N : Type 0) : Type 0 where
  group : A → List N → Grouped A N

abbrev pub members_of : {A N M : Type 0} → (A → N → M) → Grouped A N → List M
members_of make (group a ns) = map (make a) ns

abbrev pub all_members : {A N M : Type 0} → (A → N → M) → List (Grouped A N) → List M
all_members make [] = []
all_members make (g ∷ gs) = members_of make g ++ all_members make gs

-- a parameter takes a channel or a value, a variable has a kind
pub data DeclarationTree : Type 0 where
  channels : Kind → Role → List (List ℕ) → DeclarationTree
  process : List ℕ → List (Taking × List ℕ) → List (Kind × List ℕ) → StatementTrees → DeclarationTree

pub data ArgumentTree : Type 0 where
  channel : List ℕ → ArgumentTree
  number_argument : ℤ → ArgumentTree
  truth_argument : Bool → ArgumentTree

pub data InstanceTree : Type 0 where
  instance : List ℕ → List ArgumentTree → InstanceTree

pub data ProgramTree : Type 0 where
  program : List DeclarationTree → List InstanceTree → ProgramTree

abbrev pub kind_terminal : Kind → Terminal
kind_terminal Integer = word keyword.Integer
kind_terminal Logical = word keyword.Logical

abbrev pub role_words : Role → List Terminal → List Terminal
role_words Inner r = r
role_words Input r = word keyword.Input ∷ r
role_words Output r = word keyword.Output ∷ r

abbrev pub taking_words : Taking → List Terminal → List Terminal
taking_words (Channel In k) r = kind_terminal k ∷ word keyword.In ∷ r
taking_words (Channel Out k) r = kind_terminal k ∷ word keyword.Out ∷ r
taking_words (Value k) r = kind_terminal k ∷ r

-- the terminal stands before the rest
abbrev pub StandsFirst : Terminal → List Terminal → List Terminal → Type 0
StandsFirst k ks r = ks ≡ k ∷ r

-- A kind of input, terminals or the lexemes of a text: how a terminal and how a name are taken from it.
pub record Reading (K N : Type 0) : Type 1 where
  pub takes : Terminal → List K → List K → Type 0
  pub named : N → List K → List K → Type 0

-- terminals alone, and names by their bytes
abbrev pub spelling : Reading Terminal (List ℕ)
spelling = record { takes = StandsFirst; named = λ n. StandsFirst (name n) }

module _ {K N : Type 0} (R : Reading K N) where
  -- these terminals, one after another
  abbrev pub TakesAll : List Terminal → List K → List K → Type 0
  TakesAll [] ks r = ks ≡ r
  TakesAll (t ∷ ts) ks r = (a : List K) × R.takes t ks a × TakesAll ts a r

  -- one name or more, with commas between
  abbrev pub SomeNames : List N → List K → List K → Type 0
  SomeNames ns ks r = SomeBetween (R.takes (sign mark.Comma)) R.named ns ks r

  -- parameters that take the same
  abbrev pub ParameterGroup : Grouped Taking N → List K → List K → Type 0
  ParameterGroup (group t ns) ks r = (a : List K) × TakesAll (taking_words t []) ks a × SomeNames ns a r

  -- in groups with semicolons between
  abbrev pub Parameters : {P : Type 0} → (Taking → N → P) → List P → List K → List K → Type 0
  Parameters make ps ks r = (gs : List (Grouped Taking N)) × (ps ≡ all_members make gs) × Between (R.takes (sign mark.Semicolon)) ParameterGroup gs ks r

  -- variables of one kind
  abbrev pub VariableGroup : Grouped Kind N → List K → List K → Type 0
  VariableGroup (group k ns) ks r = (a : List K) × R.takes (kind_terminal k) ks a × SomeNames ns a r

  -- in groups with a semicolon after each
  abbrev pub Variables : {V : Type 0} → (Kind → N → V) → List V → List K → List K → Type 0
  Variables make vs ks r = (gs : List (Grouped Kind N)) × (vs ≡ all_members make gs) × Ended (R.takes (sign mark.Semicolon)) VariableGroup gs ks r

  -- channels of one kind and role
  abbrev pub ChannelGroup : Kind → Role → List N → List K → List K → Type 0
  ChannelGroup k role ns ks r = (a b c : List K) × R.takes (kind_terminal k) ks a × TakesAll (role_words role []) a b × R.takes (word keyword.Channel) b c × SomeNames ns c r

  -- the parameters of a process in their brackets, and what is between them and its body
  abbrev pub Head : {P : Type 0} → (Taking → N → P) → List P → List K → List K → Type 0
  Head make ps ks r = (a b : List K) × R.takes (sign mark.Open) ks a × Parameters make ps a b × TakesAll (sign mark.Close ∷ sign mark.Semicolon ∷ word keyword.Begin ∷ []) b r

  -- a process; B is its body
  abbrev pub OneProcess : {P V : Type 0} → (Taking → N → P) → (Kind → N → V) → N → List P → List V → (List K → List K → Type 0) → List K → List K → Type 0
  OneProcess make_parameter make_variable n ps vs B ks r = (a b c d e : List K) × R.takes (word keyword.Process) ks a × R.named n a b × Head make_parameter ps b c
      × Variables make_variable vs c d × B d e × R.takes (word keyword.End) e r

  -- a number, which may have a sign
  abbrev pub SignedNumber : ℤ → List K → List K → Type 0
  SignedNumber z ks r = R.takes (numeral z) ks r ⊎ ((n : ℤ) × (a : List K) × (z ≡ neg_ℤ n) × R.takes (sign mark.Minus) ks a × R.takes (numeral n) a r)

  -- a process, and its arguments in brackets with commas between; A is an argument
  abbrev pub OneInstance : {X : Type 0} → (X → List K → List K → Type 0) → N → List X → List K → List K → Type 0
  OneInstance A n xs ks r = (a b c : List K) × R.named n ks a × R.takes (sign mark.Open) a b × Between (R.takes (sign mark.Comma)) A xs b c × R.takes (sign mark.Close) c r

  -- declarations with a semicolon after each, one instance or more with `par` between; D is a declaration, I an instance
  abbrev pub OneProgram : {X Y : Type 0} → (X → List K → List K → Type 0) → (Y → List K → List K → Type 0) → List X → List Y → List K → Type 0
  OneProgram D I ds is ks = (a b c d e : List K) × R.takes (word keyword.Begin) ks a × Ended (R.takes (sign mark.Semicolon)) D ds a b
      × SomeBetween (R.takes (word keyword.Par)) I is b c × May (R.takes (sign mark.Semicolon)) c d × R.takes (word keyword.End) d e × May (R.takes (sign mark.Semicolon)) e []

-- This declaration is spelled from here to there.
abbrev pub SpellsDeclaration : DeclarationTree → List Terminal → List Terminal → Type 0
SpellsDeclaration (channels k role ns) ks r = ChannelGroup spelling k role ns ks r
SpellsDeclaration (process n ps vs body) ks r =
    OneProcess spelling (λ t x. (t, x)) (λ k x. (k, x)) n ps vs (λ xs q. (xs ≡ statements_words body q) × AreSome body × FormedStatements body) ks r

abbrev pub Argues : ArgumentTree → List Terminal → List Terminal → Type 0
Argues (channel n) ks r = ks ≡ name n ∷ r
Argues (number_argument z) ks r = SignedNumber spelling z ks r
Argues (truth_argument b) ks r = ks ≡ truth_terminal b ∷ r

abbrev pub Instantiates : InstanceTree → List Terminal → List Terminal → Type 0
Instantiates (instance n bs) ks r = OneInstance spelling Argues n bs ks r

-- The program is spelled by this list.
abbrev pub Spells : ProgramTree → List Terminal → Type 0
Spells (program ds is) ks = OneProgram spelling SpellsDeclaration Instantiates ds is ks

abbrev pub declaration_nesting : DeclarationTree → ℕ
declaration_nesting (channels k role ns) = 0
declaration_nesting (process n ps vs body) = statements_nesting body

abbrev pub declarations_nesting : List DeclarationTree → ℕ
declarations_nesting [] = 0
declarations_nesting (d ∷ ds) = max (declaration_nesting d) (declarations_nesting ds)

abbrev pub nesting : ProgramTree → ℕ
nesting (program ds is) = declarations_nesting ds
