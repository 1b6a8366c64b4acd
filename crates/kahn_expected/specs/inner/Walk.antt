-- Inner. What is open behind lexemes: what the code calls the parts of the grammar, and what terminals do to them, one after another.
use Rattle.std.specs.Prelude.{◌≡◌, ℕ, ℤ, Bool, false, List, [], ◌∷◌, ◌++◌, Option, Some, None, Result, Ok, Err, drop, is_some, map}
use Rattle.std.specs.Borrow.{Bor}
use Rattle.kahn_syntax.specs.{declared.lexeme.Class.Class, Grammar.Terminal, Grammar.word, Grammar.numeral, Grammar.name, Texts.sign_terminal}
use Rattle.kahn_syntax.specs.declared.lexeme.Class.TheVariants as class
use Rattle.kahn_syntax.specs.inner.Machine.{RuleToken, a_word, either, a_sign, a_number, a_name, an_operator, Rule, step, whole, ors, ands, denials, relations, sums, terms, factors, Part, ProgramPart, DeclarationsPart, RolePart, GroupsPart, GroupPart, TakingPart, VariablesPart, StatementPart, SimplePart, InstancePart, ArgumentsPart, ArgumentPart, ExpressionPart, OperatorsPart, NamesTail, StatementsTail, GroupsTail, ArgumentsTail, InstancesTail, ElseTail, LastTail, TokenPart, LevelPart}
use Rattle.kahn_expected.specs.declared.grammar.{Awaited.Awaited, Lead.Lead}
use Rattle.kahn_expected.specs.declared.grammar.Awaited.TheVariants as awaited
use Rattle.kahn_expected.specs.declared.grammar.Lead.TheVariants as lead

abbrev pub lead_of : Lead → RuleToken
lead_of (lead.Word w) = a_word w
lead_of (lead.Either v w) = either v w
lead_of (lead.Mark s) = a_sign s
lead_of lead.Number = a_number
lead_of lead.Name = a_name
lead_of (lead.Like o) = an_operator o

abbrev pub awaited_part : Awaited → Part
awaited_part awaited.Program = ProgramPart
awaited_part awaited.Declarations = DeclarationsPart
awaited_part awaited.Role = RolePart
awaited_part awaited.Groups = GroupsPart
awaited_part awaited.Group = GroupPart
awaited_part awaited.Direction = TakingPart
awaited_part awaited.Variables = VariablesPart
awaited_part awaited.Statement = StatementPart
awaited_part awaited.Simple = SimplePart
awaited_part awaited.Expression = ExpressionPart whole
awaited_part awaited.Conjunction = ExpressionPart ands
awaited_part awaited.Denial = ExpressionPart denials
awaited_part awaited.Sum = ExpressionPart sums
awaited_part awaited.Term = ExpressionPart terms
awaited_part awaited.Factor = ExpressionPart factors
awaited_part awaited.Ors = OperatorsPart ors
awaited_part awaited.Ands = OperatorsPart ands
awaited_part awaited.Comparison = OperatorsPart relations
awaited_part awaited.Signs = OperatorsPart sums
awaited_part awaited.Products = OperatorsPart terms
awaited_part awaited.Instance = InstancePart
awaited_part awaited.Arguments = ArgumentsPart
awaited_part awaited.Argument = ArgumentPart
awaited_part awaited.MoreNames = NamesTail
awaited_part awaited.MoreStatements = StatementsTail
awaited_part awaited.MoreGroups = GroupsTail
awaited_part awaited.MoreArguments = ArgumentsTail
awaited_part awaited.MoreInstances = InstancesTail
awaited_part awaited.Otherwise = ElseTail
awaited_part awaited.Last = LastTail
awaited_part awaited.Level = LevelPart
awaited_part (awaited.Just s) = TokenPart (lead_of s)

-- the first part stands last
abbrev pub awaited_parts : List Awaited → List Part
awaited_parts [] = []
awaited_parts (p ∷ ps) = awaited_parts ps ++ awaited_part p ∷ []

-- a rule without so many of its parts
abbrev pub rule_of : ℕ → Lead × Bor (List Awaited) → Rule
rule_of from r = (lead_of r.0, awaited_parts (drop from r.1.now))

abbrev pub rules_as : ℕ → List (Lead × Bor (List Awaited)) → List Rule
rules_as from rs = map (rule_of from) rs

abbrev pub rules_by : Result (Bool × ℕ × Bor (List (Lead × Bor (List Awaited)))) Lead → Bool × List Rule
rules_by (Ok r) = (r.0, rules_as r.1 r.2.now)
rules_by (Err l) = (false, (lead_of l, []) ∷ [])

-- what is open behind a lexeme
abbrev pub opened_parts : Bor (List Awaited) → List Part
opened_parts o = awaited_parts o.now

-- what is open behind a terminal: nothing where it can't stand
abbrev pub left_open : Option (List Part) → List Part
left_open None = []
left_open (Some s) = s

-- and behind terminals
abbrev pub walked : List Part → List Terminal → List Part
walked s [] = s
walked s (k ∷ ks) = walked (left_open (step s k)) ks

-- a terminal of this class, with these bytes or that value
abbrev pub terminal_with : List ℕ → ℤ → Class → Terminal
terminal_with n z (class.Word w) = word w
terminal_with n z (class.Sign s) = sign_terminal s
terminal_with n z class.Name = name n
terminal_with n z (class.Number y) = numeral z

-- whether a lexeme of this class may stand where this is open, and what is open behind it then
abbrev pub MayPass : List Awaited → Class → Bool → Type 0
MayPass s c may = (n : List ℕ) (z : ℤ) → is_some (step (awaited_parts s) (terminal_with n z c)) ≡ may

abbrev pub Passes : List Awaited → Class → List Awaited → Bool → Type 0
Passes old c new may = MayPass old c may × ((n : List ℕ) (z : ℤ) → left_open (step (awaited_parts old) (terminal_with n z c)) ≡ awaited_parts new)
