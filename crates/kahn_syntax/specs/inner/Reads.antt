-- Inner. What each function of the parser reads, and where it stops.
use Rattle.std.specs.Prelude.{◌≡◌, ℕ, List, [], ◌∷◌, ◌++◌, ◌+◌, ◌≤◌, false, length, map, Some, Result, MatchResult}
use Rattle.kahn_syntax.specs.Names.{Action, Expression, Span, Statement, Stop, Refused, TooDeep, Class, Lexeme, Keyword, Argument, Declaration}
use Rattle.kahn_syntax.specs.declared.parser.cursor.Stop.TheVariants.{NoMemory}
use Rattle.kahn_syntax.specs.declared.lexeme.Sign.TheVariants as mark
use Rattle.kahn_syntax.specs.Grammar.{Between, Ended, DeclarationTree, declaration_nesting, declarations_nesting, Terminal, word, sign, ExpressionTree, binds, Formed, expression_nesting, FormedStatement, FormedStatements, IsSimple, AreSome, statement_nesting, statements_nesting}
use Rattle.kahn_syntax.specs.Texts.{Covers, terminals, AreProper, declaration_tree, expression_tree, statement_tree, statement_trees, Takes, ArgumentSpans, DeclarationSpans, ExpressionSpans, StatementSpans, StatementsSpan}
use Rattle.kahn_syntax.specs.inner.Machine.{Rung, whole, at, RuleToken, class_of, leads, Part, ProgramPart, ExpressionPart, StatementPart, SimplePart, StatementsTail, TokenPart, levels, Fate, Refuses, TooFar, fate, a_word}

-- an expression that may stand at this level
abbrev pub FitsLevel : ℕ → ExpressionTree → Type 0
FitsLevel n e = (n ≤ binds e) × Formed e

-- no token of this class stands first
abbrev pub IsAbsent : Class → List Lexeme → Type 0
IsAbsent wanted input = (t : RuleToken) → class_of t ≡ Some wanted → (text : List ℕ) → leads t (terminals text input) ≡ false

-- Whatever is open below, with `depth` levels: what was read of the input, up to the rest, turns these parts into those.
pub record Moves (text : List ℕ) (depth : ℕ) (parts those : List Part) (input rest : List Lexeme) : Type 0 where
  pub fates : (s : List Part) → levels s ≡ depth → fate 64 (parts ++ s) (terminals text input) ≡ fate 64 (those ++ s) (terminals text rest)

-- the parts are read
abbrev pub Reads : List ℕ → ℕ → List Part → List Lexeme → List Lexeme → Type 0
Reads text depth parts input rest = Moves text depth parts [] input rest

-- the fate is what stopped the reading
abbrev pub StopsAs : Stop → Fate → Type 0
StopsAs (Refused ended left) f = f ≡ Refuses ended left
StopsAs (TooDeep left) f = f ≡ TooFar left
StopsAs NoMemory f = Unit {0}

-- The parts aren't read, and here is why.
abbrev pub Stops : List ℕ → ℕ → List Part → List Lexeme → Stop → Type 0
Stops text depth parts input e = (s : List Part) → levels s ≡ depth → StopsAs e (fate 64 (parts ++ s) (terminals text input))

-- The list isn't a program, and here is why.
abbrev pub Halts : List Terminal → Stop → Type 0
Halts ks e = StopsAs e (fate 64 (ProgramPart ∷ []) ks)

-- With `depth` levels open, parts are read from the input to the rest, at least `least` lexemes: S holds of them, and F of their tree.
pub record TreeRead (text : List ℕ) (depth least : ℕ) (parts : List Part) (S : List Lexeme → List Lexeme → Type 0) (F : Type 0) (nests : ℕ) (input rest : List Lexeme) : Type 0 where
  pub spans : S input rest
  pub formed : F
  pub nesting : depth + nests ≤ 64
  pub shorter : length rest + least ≤ length input
  pub proper : AreProper text rest
  pub reads : Reads text depth parts input rest

-- an expression of this level of the grammar
abbrev pub ExpressionRead : List ℕ → ℕ → Rung → Expression → List Lexeme → List Lexeme → Type 0
ExpressionRead text depth g e input rest =
    TreeRead text depth 1 (ExpressionPart g ∷ []) (ExpressionSpans text e) (FitsLevel (at g) (expression_tree e)) (expression_nesting (expression_tree e)) input rest

-- any expression and the keyword after it
abbrev pub ExpressionBefore : List ℕ → ℕ → Keyword → Expression → List Lexeme → List Lexeme → Type 0
ExpressionBefore text depth last e input rest =
    TreeRead text depth 1 (ExpressionPart whole ∷ TokenPart (a_word last) ∷ []) (λ xs r. (a : List Lexeme) × ExpressionSpans text e xs a × Takes text (word last) a r)
    (FitsLevel 0 (expression_tree e)) (expression_nesting (expression_tree e)) input rest

-- a statement that may stand for this part: `else` may follow a simple one
abbrev pub StatementRead : List ℕ → ℕ → Part → Statement → List Lexeme → List Lexeme → Type 0
StatementRead text depth p s input rest =
    TreeRead text depth 0 (p ∷ []) (StatementSpans text s) (FormedStatement (statement_tree s) × (p ≡ SimplePart → IsSimple (statement_tree s))) (statement_nesting (statement_tree s)) input rest

-- the statements of a body or of a block: one or more, with semicolons between
abbrev pub BodyRead : List ℕ → ℕ → List Statement → List Lexeme → List Lexeme → Type 0
BodyRead text depth ss input rest =
    TreeRead text depth 0 (StatementPart ∷ StatementsTail ∷ []) (StatementsSpan text ss) (AreSome (statement_trees ss) × FormedStatements (statement_trees ss))
    (statements_nesting (statement_trees ss)) input rest

-- With no level open, a part is read from the input to the rest, and its spans are over the lexemes between.
pub record PartRead (text : List ℕ) (parts : List Part) (S : List Lexeme → List Lexeme → Type 0) (input rest : List Lexeme) : Type 0 where
  pub spans : S input rest
  pub shorter : length rest ≤ length input
  pub proper : AreProper text rest
  pub reads : Reads text 0 parts input rest

-- a body within the limit of nesting
abbrev pub IsShallow : DeclarationTree → Type 0
IsShallow d = declaration_nesting d ≤ 64

-- declarations within it
abbrev pub DeclarationsSpan : List ℕ → List Declaration → List Lexeme → List Lexeme → Type 0
DeclarationsSpan text ds xs r = (declarations_nesting (map declaration_tree ds) ≤ 64) × Ended (Takes text (sign mark.Semicolon)) (DeclarationSpans text) ds xs r

-- arguments and the bracket after them
abbrev pub ClosedArgumentsSpan : List ℕ → List Argument → List Lexeme → List Lexeme → Type 0
ClosedArgumentsSpan text arguments xs r = (a : List Lexeme) × Between (Takes text (sign mark.Comma)) (ArgumentSpans text) arguments xs a × Takes text (sign mark.Close) a r

-- a statement that does this, with the span of what was read
abbrev pub IsStated : Statement → Action → List Lexeme → List Lexeme → Type 0
IsStated s action input rest = (at : Span) × (s ≡ record { span = Some at; action = action }) × Covers at input rest

-- ---- what a call returns: what was read, with the rest, or why it isn't

-- parts, with no level open, to what has such spans
abbrev pub ParsesPart : {R : Type 0} → Result R Stop → List ℕ → List Part → (R → List Lexeme → List Lexeme → Type 0) → List Lexeme → (R → List Lexeme) → Type 0
ParsesPart result text parts spans input rest =
    MatchResult result (λ r. PartRead text parts (spans r) input (rest r)) (λ e. Stops text 0 parts input e)

-- an expression of this level of the grammar
abbrev pub ParsesExpression : {R : Type 0} → Result R Stop → List ℕ → ℕ → Rung → (R → Expression) → List Lexeme → (R → List Lexeme) → Type 0
ParsesExpression result text depth g value input rest =
    MatchResult result (λ r. ExpressionRead text depth g (value r) input (rest r)) (λ e. Stops text depth (ExpressionPart g ∷ []) input e)

-- any expression and the keyword after it
abbrev pub ParsesBefore : {R : Type 0} → Result R Stop → List ℕ → ℕ → Keyword → (R → Expression) → List Lexeme → (R → List Lexeme) → Type 0
ParsesBefore result text depth last value input rest =
    MatchResult result (λ r. ExpressionBefore text depth last (value r) input (rest r))
    (λ e. Stops text depth (ExpressionPart whole ∷ TokenPart (a_word last) ∷ []) input e)

-- a statement that may stand for this part
abbrev pub ParsesStatement : {R : Type 0} → Result R Stop → List ℕ → ℕ → Part → (R → Statement) → List Lexeme → (R → List Lexeme) → Type 0
ParsesStatement result text depth p value input rest =
    MatchResult result (λ r. StatementRead text depth p (value r) input (rest r)) (λ e. Stops text depth (p ∷ []) input e)
