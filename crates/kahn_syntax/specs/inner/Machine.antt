-- Inner. What may still come, as a stack of the parts that are open, and what one terminal does to it; the levels of expressions.
use Rattle.std.specs.Prelude.{ℕ, List, [], ◌∷◌, ◌++◌, ◌+◌, ◌==◌, ◌||◌, length, Bool, true, false, cond, nat_le, Option, Some, None, is_some}
use Rattle.std.specs.Str.{bytes_eq}
use Rattle.kahn_syntax.specs.Names.{Keyword, Sign, Class, Operator, Level, Or, And, Relation, Sum, Term}
use Rattle.kahn_syntax.specs.declared.lexeme.Keyword.TheVariants as keyword
use Rattle.kahn_syntax.specs.declared.lexeme.Sign.TheVariants as mark
use Rattle.kahn_syntax.specs.declared.lexeme.Class.TheVariants as class
use Rattle.kahn_streams.specs.declared.tree.Operator.TheVariants as operator
use Rattle.kahn_syntax.specs.{Grammar.Terminal, Grammar.word, Grammar.sign, Grammar.name, Grammar.numeral, Grammar.rank, Texts.letters_of, Texts.bytes_of_sign}

-- the operator that a terminal is, if it is one
abbrev pub operator_of : Terminal → Option Operator
operator_of (word keyword.Or) = Some operator.Or
operator_of (word keyword.And) = Some operator.And
operator_of (sign mark.Equal) = Some operator.Equal
operator_of (sign mark.Unequal) = Some operator.Unequal
operator_of (sign mark.Less) = Some operator.Less
operator_of (sign mark.AtMost) = Some operator.AtMost
operator_of (sign mark.Greater) = Some operator.Greater
operator_of (sign mark.AtLeast) = Some operator.AtLeast
operator_of (sign mark.Plus) = Some operator.Add
operator_of (sign mark.Minus) = Some operator.Subtract
operator_of (sign mark.Times) = Some operator.Multiply
operator_of (word keyword.Div) = Some operator.Divide
operator_of (word keyword.Mod) = Some operator.Remainder
operator_of _ = None

abbrev pub rank_or : Option Operator → ℕ
rank_or None = 0
rank_or (Some o) = rank o

-- the levels of the grammar
pub data Rung : Type 0 where
  whole ors ands denials relations sums terms factors : Rung

abbrev pub at : Rung → ℕ
at whole = 0
at ors = 1
at ands = 2
at denials = 3
at relations = 4
at sums = 5
at terms = 6
at factors = 7

-- the level of the operands
abbrev pub tighter : Rung → Rung
tighter whole = ors
tighter ors = ands
tighter ands = denials
tighter denials = relations
tighter relations = sums
tighter sums = terms
tighter terms = factors
tighter factors = factors

-- the level of the grammar that the parser reads
abbrev pub rung_of : Level → Rung
rung_of Or = ors
rung_of And = ands
rung_of Relation = relations
rung_of Sum = sums
rung_of Term = terms

-- whether no two operators of a level follow one another, as comparisons don't
abbrev pub is_alone : Level → Bool
is_alone Relation = true
is_alone _ = false

-- terminals of one use: this keyword, one of these two, this sign, any number, any name, an operator of the level of this one
pub data RuleToken : Type 0 where
  a_word : Keyword → RuleToken
  either : Keyword → Keyword → RuleToken
  a_sign : Sign → RuleToken
  a_number a_name : RuleToken
  an_operator : Operator → RuleToken

abbrev pub accepts : RuleToken → Terminal → Bool
accepts (a_word v) (word w) = bytes_eq (letters_of v) (letters_of w)
accepts (either u v) (word w) = bytes_eq (letters_of u) (letters_of w) || bytes_eq (letters_of v) (letters_of w)
accepts (a_sign s) (sign t) = bytes_eq (bytes_of_sign s) (bytes_of_sign t)
accepts a_number (numeral z) = true
accepts a_name (name n) = true
accepts (an_operator o) k = rank_or (operator_of k) == rank o
accepts _ _ = false

-- the token stands first
abbrev pub leads : RuleToken → List Terminal → Bool
leads t [] = false
leads t (k ∷ r) = accepts t k

-- the class of its lexemes, if one class alone has its terminals
abbrev pub class_of : RuleToken → Option Class
class_of (a_word keyword.Not) = None
class_of (a_word w) = Some (class.Word w)
class_of (a_sign mark.Not) = None
class_of (a_sign s) = Some (class.Sign s)
class_of a_name = Some class.Name
class_of _ = None

-- what is open: a part that must be read, or one that may be empty
pub data Part : Type 0 where
  ProgramPart DeclarationsPart DeclarationPart ProcessPart RolePart GroupsPart GroupPart TakingPart VariablesPart : Part
  StatementPart SimplePart InstancePart ArgumentsPart ArgumentPart : Part
  -- an expression of a level, and operators of one level with their operands
  ExpressionPart OperatorsPart : Rung → Part
  -- what may go on, or not
  NamesTail StatementsTail GroupsTail ArgumentsTail InstancesTail ElseTail LastTail : Part
  TokenPart : RuleToken → Part
  -- the end of a level of nesting: nothing
  LevelPart : Part

-- the parts that are open after one token of a part
abbrev pub Rule : Type 0
Rule = RuleToken × List Part

-- the rules of a part that is read before these
abbrev pub followed : List Part → List Rule → List Rule
followed after [] = []
followed after ((t, ps) ∷ rest) = (t, ps ++ after) ∷ followed after rest

abbrev pub a_kind : RuleToken
a_kind = either keyword.Integer keyword.Logical

-- the head of a process after its name
abbrev pub head_parts : List Part
head_parts = TokenPart (a_sign mark.Open) ∷ GroupsPart ∷ TokenPart (a_sign mark.Close) ∷ TokenPart (a_sign mark.Semicolon) ∷ TokenPart (a_word keyword.Begin) ∷ []

abbrev pub process_rules : List Rule
process_rules =
    (a_word keyword.Process, TokenPart a_name ∷ head_parts ++ (VariablesPart ∷ StatementPart ∷ StatementsTail ∷ TokenPart (a_word keyword.End) ∷ [])) ∷ []

abbrev pub declaration_rules : List Rule
declaration_rules = (a_kind, RolePart ∷ TokenPart (a_word keyword.Channel) ∷ TokenPart a_name ∷ NamesTail ∷ []) ∷ process_rules

abbrev pub group_rules : List Rule
group_rules = (a_kind, TakingPart ∷ TokenPart a_name ∷ NamesTail ∷ []) ∷ []

abbrev pub simple_rules : List Rule
simple_rules =
    (a_name, TokenPart (a_sign mark.Becomes) ∷ ExpressionPart whole ∷ [])
    ∷ (a_word keyword.Send, ExpressionPart whole ∷ TokenPart (a_word keyword.On) ∷ TokenPart a_name ∷ [])
    ∷ (a_word keyword.Print, ExpressionPart whole ∷ [])
    ∷ (a_word keyword.Begin, StatementPart ∷ StatementsTail ∷ TokenPart (a_word keyword.End) ∷ LevelPart ∷ [])
    ∷ []

-- of a statement that isn't simple
abbrev pub other_rules : List Rule
other_rules =
    (a_word keyword.If, ExpressionPart whole ∷ TokenPart (a_word keyword.Then) ∷ SimplePart ∷ ElseTail ∷ LevelPart ∷ [])
    ∷ (a_word keyword.While, ExpressionPart whole ∷ TokenPart (a_word keyword.Do) ∷ StatementPart ∷ LevelPart ∷ [])
    ∷ (a_word keyword.Repeat, StatementPart ∷ LevelPart ∷ [])
    ∷ []

abbrev pub argument_rules : List Rule
argument_rules =
    (a_name, []) ∷ (a_number, []) ∷ (either keyword.True keyword.False, []) ∷ (a_sign mark.Minus, TokenPart a_number ∷ []) ∷ []

abbrev pub factor_rules : List Rule
factor_rules =
    (a_number, [])
    ∷ (either keyword.True keyword.False, [])
    ∷ (a_name, [])
    ∷ (a_word keyword.Wait, TokenPart (a_sign mark.Open) ∷ TokenPart a_name ∷ TokenPart (a_sign mark.Close) ∷ [])
    ∷ (a_sign mark.Minus, ExpressionPart factors ∷ LevelPart ∷ [])
    ∷ (a_sign mark.Open, ExpressionPart whole ∷ TokenPart (a_sign mark.Close) ∷ LevelPart ∷ [])
    ∷ []

-- an operand of the level, and operators with further ones
abbrev pub operand_rules : Rung → List Rule → List Rule
operand_rules l rules = followed (OperatorsPart l ∷ []) rules

abbrev pub relation_rules : List Rule
relation_rules = operand_rules relations (operand_rules sums (operand_rules terms factor_rules))

abbrev pub denial_rules : List Rule
denial_rules = (a_word keyword.Not, ExpressionPart denials ∷ LevelPart ∷ []) ∷ relation_rules

abbrev pub or_rules : List Rule
or_rules = operand_rules ors (operand_rules ands denial_rules)

abbrev pub expression_rules : Rung → List Rule
expression_rules whole =
    (a_word keyword.If, ExpressionPart whole ∷ TokenPart (a_word keyword.Then) ∷ ExpressionPart whole ∷ TokenPart (a_word keyword.Else) ∷ ExpressionPart whole ∷ LevelPart ∷ [])
    ∷ or_rules
expression_rules ors = or_rules
expression_rules ands = operand_rules ands denial_rules
expression_rules denials = denial_rules
expression_rules relations = relation_rules
expression_rules sums = operand_rules sums (operand_rules terms factor_rules)
expression_rules terms = operand_rules terms factor_rules
expression_rules factors = factor_rules

abbrev pub operator_rules : Rung → List Rule
operator_rules ors = (an_operator operator.Or, ExpressionPart ands ∷ OperatorsPart ors ∷ []) ∷ []
operator_rules ands = (an_operator operator.And, ExpressionPart denials ∷ OperatorsPart ands ∷ []) ∷ []
operator_rules relations = (an_operator operator.Equal, ExpressionPart sums ∷ []) ∷ []
operator_rules sums = (an_operator operator.Add, ExpressionPart terms ∷ OperatorsPart sums ∷ []) ∷ []
operator_rules terms = (an_operator operator.Multiply, ExpressionPart factors ∷ OperatorsPart terms ∷ []) ∷ []
operator_rules _ = []

-- whether a part may be empty, and its rules
abbrev pub rules_of : Part → Bool × List Rule
rules_of ProgramPart = (false, (a_word keyword.Begin, DeclarationsPart ∷ InstancePart ∷ InstancesTail ∷ LastTail ∷ TokenPart (a_word keyword.End) ∷ LastTail ∷ []) ∷ [])
rules_of DeclarationsPart = (true, followed (TokenPart (a_sign mark.Semicolon) ∷ DeclarationsPart ∷ []) declaration_rules)
rules_of DeclarationPart = (false, declaration_rules)
rules_of ProcessPart = (false, process_rules)
rules_of RolePart = (true, (either keyword.Input keyword.Output, []) ∷ [])
rules_of GroupsPart = (true, followed (GroupsTail ∷ []) group_rules)
rules_of GroupPart = (false, group_rules)
rules_of TakingPart = (true, (either keyword.In keyword.Out, []) ∷ [])
rules_of VariablesPart = (true, (a_kind, TokenPart a_name ∷ NamesTail ∷ TokenPart (a_sign mark.Semicolon) ∷ VariablesPart ∷ []) ∷ [])
rules_of StatementPart = (true, other_rules ++ simple_rules)
rules_of SimplePart = (true, simple_rules)
rules_of (ExpressionPart l) = (false, expression_rules l)
rules_of (OperatorsPart l) = (true, operator_rules l)
rules_of InstancePart = (false, (a_name, TokenPart (a_sign mark.Open) ∷ ArgumentsPart ∷ []) ∷ [])
rules_of ArgumentsPart = (false, (a_sign mark.Close, []) ∷ followed (ArgumentsTail ∷ TokenPart (a_sign mark.Close) ∷ []) argument_rules)
rules_of ArgumentPart = (false, argument_rules)
rules_of NamesTail = (true, (a_sign mark.Comma, TokenPart a_name ∷ NamesTail ∷ []) ∷ [])
rules_of StatementsTail = (true, (a_sign mark.Semicolon, StatementPart ∷ StatementsTail ∷ []) ∷ [])
rules_of GroupsTail = (true, (a_sign mark.Semicolon, GroupPart ∷ GroupsTail ∷ []) ∷ [])
rules_of ArgumentsTail = (true, (a_sign mark.Comma, ArgumentPart ∷ ArgumentsTail ∷ []) ∷ [])
rules_of InstancesTail = (true, (a_word keyword.Par, InstancePart ∷ InstancesTail ∷ []) ∷ [])
rules_of ElseTail = (true, (a_word keyword.Else, StatementPart ∷ []) ∷ [])
rules_of LastTail = (true, (a_sign mark.Semicolon, []) ∷ [])
rules_of (TokenPart t) = (false, (t, []) ∷ [])
rules_of LevelPart = (true, [])

-- what the terminal opens, by the first rule that has it
abbrev pub enters : List Rule → Terminal → Option (List Part)
enters [] k = None
enters ((t, ps) ∷ rest) k = cond (accepts t k) (Some ps) (enters rest k)

-- one of the rules has the terminal that stands first
abbrev pub starts : List Rule → List Terminal → Bool
starts rs [] = false
starts rs (k ∷ r) = is_some (enters rs k)

-- what is open if these parts were opened, or `other` if none were
abbrev pub opened_by : List Part → Option (List Part) → Option (List Part) → Option (List Part)
opened_by s other None = other
opened_by s other (Some ps) = Some (ps ++ s)

-- what is open after the terminal, or None if it can't stand here
abbrev pub step : List Part → Terminal → Option (List Part)
step [] k = None
step (p ∷ s) k = opened_by s (cond (rules_of p).0 (step s k) None) (enters (rules_of p).1 k)

-- how many levels are open
abbrev pub levels : List Part → ℕ
levels [] = 0
levels (LevelPart ∷ s) = levels s + 1
levels (_ ∷ s) = levels s

-- what is open may end here
abbrev pub may_end : List Part → Bool
may_end [] = true
may_end (p ∷ s) = cond (rules_of p).0 (may_end s) false

-- How a list goes from here. A number says how many terminals are left at the fault, with the one at which it stands.
pub data Fate : Type 0 where
  Whole : Fate
  -- whether what comes before the fault is whole, and what is left
  Refuses : Bool → ℕ → Fate
  TooFar : ℕ → Fate

abbrev pub onward : ℕ → Bool → ℕ → (List Part → Fate) → Option (List Part) → Fate
onward most ends left go None = Refuses ends left
onward most ends left go (Some s) = cond (nat_le (levels s) most) (go s) (TooFar left)

-- with at most this many levels open
abbrev pub fate : ℕ → List Part → List Terminal → Fate
fate most s [] = cond (may_end s) Whole (Refuses false 0)
fate most s (k ∷ ks) = onward most (may_end s) (length ks + 1) (λ t. fate most t ks) (step s k)
