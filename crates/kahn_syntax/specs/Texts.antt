-- Believed. What a text is: its lexemes, by forms and classes; the program that they spell, each part with its span over the lexemes that
-- it takes; or the fault for which it is refused.
use Rattle.std.specs.Prelude.{◌≡◌, ℕ, ◌+◌, ◌≤◌, ◌<◌, ◌⊎◌, List, [], ◌∷◌, pos, length, slice_index, slice_range, codes, IsCharBoundary, map, string_bytes, ◌++◌, Option, Some, None}
use Rattle.std.specs.{Str.str_to_ascii_lowercase, Str.Parse.digits_value}
use Rattle.kahn_syntax.specs.Names.{Span, Lexeme, Class, Keyword, Sign, SyntaxFault, TooLong, BadCharacter, NumberTooLarge, CommentOpen, NameTooLong, NoMemory, Name, Form, Number, Logical, Variable, Wait, Negate', Not', Bracket', Level', Conditional', Row_of-Operand, end_of-Operand, more_of-Operand, Expression, Action, Empty, Assign, Send, Print, Block', If', While', Repeat', Row_of-Statement, end_of-Statement, more_of-Statement, Held-Action-If-2, None', Some', Statement, Parameter, OneVariable, Process, Declaration, Argument, Instance, Program, Kind, Taking, Expected, More, Nothing, Other}
use Rattle.kahn_syntax.specs.declared.lexeme.Class.TheVariants as class
use Rattle.kahn_syntax.specs.declared.lexeme.Keyword.TheVariants as keyword
use Rattle.kahn_syntax.specs.declared.lexeme.Sign.TheVariants as mark
use Rattle.kahn_streams.specs.declared.tree.Declaration.TheVariants as declared
use Rattle.kahn_streams.specs.declared.tree.Argument.TheVariants as argued
use Rattle.kahn_syntax.specs.Grammar as whole
use Rattle.kahn_syntax.specs.Grammar.{DeclarationTree, ArgumentTree, InstanceTree, ProgramTree, Between, SomeBetween, Reading, ChannelGroup, OneProcess, SignedNumber, OneInstance, OneProgram, AreSome, FormedStatements, ExpressionTree, number, truth, variable, wait, negation, denial, bracket, level, conditional, OperandTrees, no_operand, operand, StatementTree, empty, assign, send, print, block, if_then, if_else, while_do, repeat, StatementTrees, no_statement, statement, operator_terminal, truth_terminal, Terminal, word, sign, numeral, name, Spells, nesting}
use Rattle.kahn_syntax.specs.declared.fault.SyntaxFault.TheVariants as fault

-- space, tab, CR and LF
abbrev pub IsBlank : ℕ → Type 0
IsBlank b = (b ≡ 32) ⊎ (b ≡ 9) ⊎ (b ≡ 13) ⊎ (b ≡ 10)

-- an ASCII digit
abbrev pub IsDigit : ℕ → Type 0
IsDigit b = (48 ≤ b) × (b ≤ 57)

-- an ASCII letter
abbrev pub IsLetter : ℕ → Type 0
IsLetter b = ((65 ≤ b) × (b ≤ 90)) ⊎ ((97 ≤ b) × (b ≤ 122))

-- letters, digits and `_`
abbrev pub IsWordByte : ℕ → Type 0
IsWordByte b = IsLetter b ⊎ IsDigit b ⊎ (b ≡ 95)

-- the bytes of a sign; U+00AC takes two
abbrev pub bytes_of_sign : Sign → List ℕ
bytes_of_sign mark.Becomes = codes ":="
bytes_of_sign mark.Open = codes "("
bytes_of_sign mark.Close = codes ")"
bytes_of_sign mark.Comma = codes ","
bytes_of_sign mark.Semicolon = codes ";"
bytes_of_sign mark.Plus = codes "+"
bytes_of_sign mark.Minus = codes "-"
bytes_of_sign mark.Times = codes "*"
bytes_of_sign mark.Equal = codes "="
bytes_of_sign mark.Unequal = codes "<>"
bytes_of_sign mark.Less = codes "<"
bytes_of_sign mark.AtMost = codes "<="
bytes_of_sign mark.Greater = codes ">"
bytes_of_sign mark.AtLeast = codes ">="
bytes_of_sign mark.Not = 0xC2 ∷ 0xAC ∷ []

-- the letters of a keyword, in lower case
abbrev pub letters_of : Keyword → List ℕ
letters_of keyword.And = codes "and"
letters_of keyword.Begin = codes "begin"
letters_of keyword.Channel = codes "channel"
letters_of keyword.Div = codes "div"
letters_of keyword.Do = codes "do"
letters_of keyword.Else = codes "else"
letters_of keyword.End = codes "end"
letters_of keyword.False = codes "false"
letters_of keyword.If = codes "if"
letters_of keyword.In = codes "in"
letters_of keyword.Input = codes "input"
letters_of keyword.Integer = codes "integer"
letters_of keyword.Logical = codes "logical"
letters_of keyword.Mod = codes "mod"
letters_of keyword.Not = codes "not"
letters_of keyword.On = codes "on"
letters_of keyword.Or = codes "or"
letters_of keyword.Out = codes "out"
letters_of keyword.Output = codes "output"
letters_of keyword.Par = codes "par"
letters_of keyword.Print = codes "print"
letters_of keyword.Process = codes "process"
letters_of keyword.Repeat = codes "repeat"
letters_of keyword.Send = codes "send"
letters_of keyword.Then = codes "then"
letters_of keyword.True = codes "true"
letters_of keyword.Wait = codes "wait"
letters_of keyword.While = codes "while"

-- these bytes are that word, in any letter case
abbrev pub IsSpelled : List ℕ → List ℕ → Type 0
IsSpelled letters bytes = str_to_ascii_lowercase bytes ≡ letters

-- the greatest value that a number may have
abbrev pub largest_number : ℕ
largest_number = 9223372036854775807

-- the most bytes that a text may have
abbrev pub most_bytes : ℕ
most_bytes = 1048576

module _ (text : List ℕ) where
  -- the bytes from a to b are a word: it begins with a letter
  abbrev pub IsWord : ℕ → ℕ → Type 0
  IsWord a b = (a < b) × IsLetter (slice_index text a) × ((i : ℕ) → a < i → i < b → IsWordByte (slice_index text i))

  -- the bytes from a to b are a run of digits
  abbrev pub IsRun : ℕ → ℕ → Type 0
  IsRun a b = (a < b) × ((i : ℕ) → a ≤ i → i < b → IsDigit (slice_index text i))

  -- the bytes from a to b are these
  abbrev pub HasBytes : ℕ → ℕ → List ℕ → Type 0
  HasBytes a b [] = a ≡ b
  HasBytes a b (c ∷ cs) = (slice_index text a ≡ c) × HasBytes (a + 1) b cs

  -- the bytes from a to b are the sign
  abbrev pub IsSign : Sign → ℕ → ℕ → Type 0
  IsSign s a b = HasBytes a b (bytes_of_sign s)

  -- the bytes from a to b have a form
  abbrev pub HasForm : ℕ → ℕ → Type 0
  HasForm a b = IsWord a b ⊎ IsRun a b ⊎ ((s : Sign) × IsSign s a b)

  -- they have a form, and nothing longer from a has one
  pub record IsLongest (a b : ℕ) : Type 0 where
    pub inside : b ≤ length text
    pub form : HasForm a b
    pub longest : (n : ℕ) → b < n → n ≤ length text → HasForm a n → ⊥

  -- the word `comment`, in any letter case
  abbrev pub IsCommentWord : ℕ → ℕ → Type 0
  IsCommentWord a b = IsWord a b × IsSpelled (codes "comment") (slice_range text a b)

  -- the bytes from a to b are a lexeme of this class: a keyword; any other word of at most 64 bytes but `comment`; a run of
  -- digits with its value, up to the largest number; a sign
  abbrev pub IsOfClass : Class → ℕ → ℕ → Type 0
  IsOfClass (class.Word k) a b = IsWord a b × IsSpelled (letters_of k) (slice_range text a b)
  IsOfClass class.Name a b = IsWord a b × (b ≤ a + 64) × ¬ (IsSpelled (codes "comment") (slice_range text a b))
      × ((k : Keyword) → ¬ (IsSpelled (letters_of k) (slice_range text a b)))
  IsOfClass (class.Number n) a b = IsRun a b × (n ≡ pos (digits_value 10 (slice_range text a b))) × (digits_value 10 (slice_range text a b) ≤ largest_number)
  IsOfClass (class.Sign s) a b = IsSign s a b

  -- x is a lexeme of the text
  pub record IsLexemeAt (x : Lexeme) : Type 0 where
    pub longest : IsLongest x.span.from x.span.to
    pub class : IsOfClass x.what x.span.from x.span.to

  -- a lexeme's bytes are a part of the text, and may be cut out of it
  abbrev pub IsSlice : Lexeme → Type 0
  IsSlice x = (x.span.from < x.span.to) × (x.span.to ≤ length text) × IsCharBoundary text x.span.from × IsCharBoundary text x.span.to

  -- the first semicolon from a on is the byte before b
  abbrev pub Closes : ℕ → ℕ → Type 0
  Closes a b = (e : ℕ) × (b ≡ e + 1) × (a ≤ e) × (e < length text) × (slice_index text e ≡ 59) × ((i : ℕ) → a ≤ i → i < e → ¬ (slice_index text i ≡ 59))

  -- a comment: the word, which is the longest there, then all through the next semicolon
  abbrev pub IsComment : ℕ → ℕ → Type 0
  IsComment a b = (m : ℕ) × IsLongest a m × IsCommentWord a m × Closes m b

  -- only blanks and comments are from a to b
  pub data Gap (a : ℕ) : ℕ → Type 0 where
    no_gap : Gap a a
    then_blank : {b : ℕ} → Gap a b → IsBlank (slice_index text b) → Gap a (b + 1)
    then_comment : {b c : ℕ} → Gap a b → IsComment b c → Gap a c

  -- these are the lexemes of the text from a to b: each stands there, with only blanks and comments between
  abbrev pub Lexed : ℕ → ℕ → List Lexeme → Type 0
  Lexed a b [] = Gap a b
  Lexed a b (x ∷ xs) = Gap a x.span.from × IsLexemeAt x × Lexed x.span.to b xs

  -- the text isn't too long, and up to a it is lexemes, blanks and comments: a fault at a is the first
  abbrev pub IsReached : ℕ → Type 0
  IsReached a = (length text ≤ most_bytes) × ((xs : List Lexeme) × Lexed 0 a xs)

  -- one character of the text: it may be cut before and after, and not within
  abbrev pub IsCharacter : Span → Type 0
  IsCharacter at = (at.from < at.to) × IsCharBoundary text at.from × IsCharBoundary text at.to × ((i : ℕ) → at.from < i → i < at.to → ¬ (IsCharBoundary text i))

  -- at this place is a lexical fault, whatever comes before: a character that isn't blank and begins no form, such as a `:` without `=` after
  -- it; a run of digits above the largest number; the word `comment` with no semicolon after it; a word of more than 64 bytes
  abbrev pub IsFaultAt : ℕ → SyntaxFault → Type 0
  IsFaultAt a (BadCharacter at) = (at.from ≡ a) × (IsCharacter at × ¬ (IsBlank (slice_index text at.from))
      × ((n : ℕ) → n ≤ length text → ¬ (HasForm at.from n)))
  IsFaultAt a (NumberTooLarge at) = (at.from ≡ a) × (IsLongest at.from at.to × IsRun at.from at.to
      × (largest_number < digits_value 10 (slice_range text at.from at.to)))
  IsFaultAt a (CommentOpen at) = (at.from ≡ a) × (IsLongest at.from at.to × IsCommentWord at.from at.to
      × ((i : ℕ) → at.to ≤ i → i < length text → ¬ (slice_index text i ≡ 59)))
  IsFaultAt a (NameTooLong at) = (at.from ≡ a) × (IsLongest at.from at.to × IsWord at.from at.to × (at.from + 64 < at.to))
  IsFaultAt a _ = ⊥

  -- the first lexical fault of a text: a text that is too long has no other, and memory may be refused at any place
  abbrev pub IsLexFault : SyntaxFault → Type 0
  IsLexFault TooLong = most_bytes < length text
  IsLexFault NoMemory = length text ≤ most_bytes
  IsLexFault e = (a : ℕ) × IsReached a × IsFaultAt a e

  -- these are the lexemes of the text, which is within its limit
  abbrev pub AreLexemes : List Lexeme → Type 0
  AreLexemes xs = (length text ≤ most_bytes) × Lexed 0 (length text) xs

-- both forms of `not` are one terminal
abbrev pub sign_terminal : Sign → Terminal
sign_terminal mark.Not = word keyword.Not
sign_terminal s = sign s

-- the terminal of a lexeme of this class with this span
abbrev pub terminal : List ℕ → Class → Span → Terminal
terminal text (class.Word w) at = word w
terminal text class.Name at = name (slice_range text at.from at.to)
terminal text (class.Number n) at = numeral n
terminal text (class.Sign s) at = sign_terminal s

abbrev pub terminals : List ℕ → List Lexeme → List Terminal
terminals text [] = []
terminals text (x ∷ xs) = terminal text x.what x.span ∷ terminals text xs

-- a number has no sign, and is one of 64 bits
abbrev pub IsUnsigned : Class → Type 0
IsUnsigned (class.Number n) = (m : ℕ) × (n ≡ pos m) × (m ≤ largest_number)
IsUnsigned _ = Unit {0}

-- as the lexer makes it: a name's bytes may be cut out of the text
abbrev pub IsProper : List ℕ → Class → Span → Type 0
IsProper text class.Name at = (at.from ≤ at.to) × (at.to ≤ length text) × IsCharBoundary text at.from × IsCharBoundary text at.to
IsProper text c at = IsUnsigned c

abbrev pub AreProper : List ℕ → List Lexeme → Type 0
AreProper text [] = Unit {0}
AreProper text (x ∷ xs) = IsProper text x.what x.span × AreProper text xs

-- the input begins with a lexeme of this class, and the rest follows it
abbrev pub First : Class → List Lexeme → List Lexeme → Type 0
First c input rest = (at : Span) × ((text : List ℕ) → terminals text input ≡ terminal text c at ∷ terminals text rest)

-- ---- a program and its spans

abbrev pub name_of : Name → List ℕ
name_of n = string_bytes n.text

abbrev mutual
  pub form_tree : Form → ExpressionTree
  form_tree (Number z) = number z
  form_tree (Logical b) = truth b
  form_tree (Variable x) = variable (name_of x)
  form_tree (Wait q) = wait (name_of q)
  form_tree (Negate' p at e) = negation (form_tree e)
  form_tree (Not' p at e) = denial (form_tree e)
  form_tree (Bracket' p at e) = bracket (form_tree e)
  form_tree (Level' p at e shape row) = level (form_tree e) (operands_row row)
  form_tree (Conditional' p at t q at' a r at'' b) = conditional (form_tree t) (form_tree a) (form_tree b)

  pub operands_row : {m : _} → Row_of-Operand m → OperandTrees
  operands_row end_of-Operand = no_operand
  operands_row (more_of-Operand o at e rest) = operand o (form_tree e) (operands_row rest)

abbrev pub expression_tree : Expression → ExpressionTree
expression_tree e = form_tree e.form

abbrev mutual
  pub action_tree : Action → StatementTree
  action_tree Empty = empty
  action_tree (Assign x e) = assign (name_of x) (expression_tree e)
  action_tree (Send e q) = send (expression_tree e) (name_of q)
  action_tree (Print e) = print (expression_tree e)
  action_tree (Block' shape row) = block (statements_row row)
  action_tree (If' t p at a b) = chosen_of (expression_tree t) (action_tree a) b
  action_tree (While' t p at a) = while_do (expression_tree t) (action_tree a)
  action_tree (Repeat' p at a) = repeat (action_tree a)

  pub statements_row : {m : _} → Row_of-Statement m → StatementTrees
  statements_row end_of-Statement = no_statement
  statements_row (more_of-Statement at a rest) = statement (action_tree a) (statements_row rest)

  -- with `else` or without
  pub chosen_of : ExpressionTree → StatementTree → Held-Action-If-2 → StatementTree
  chosen_of t a None' = if_then t a
  chosen_of t a (Some' p at b) = if_else t a (action_tree b)

abbrev pub statement_tree : Statement → StatementTree
statement_tree s = action_tree s.action

abbrev pub statement_trees : List Statement → StatementTrees
statement_trees [] = no_statement
statement_trees (s ∷ ss) = statement (statement_tree s) (statement_trees ss)

abbrev pub parameter_of : Parameter → Taking × List ℕ
parameter_of p = (p.taking, name_of p.name)

abbrev pub variable_of : OneVariable → Kind × List ℕ
variable_of v = (v.kind, name_of v.name)

abbrev pub process_tree : Process → DeclarationTree
process_tree p = whole.process (name_of p.name) (map parameter_of p.parameters.items) (map variable_of p.variables.items) (statement_trees p.statements.items)

abbrev pub declaration_tree : Declaration → DeclarationTree
declaration_tree (declared.Channels k role ns) = whole.channels k role (map name_of ns.items)
declaration_tree (declared.Process p) = process_tree p

abbrev pub argument_tree : Argument → ArgumentTree
argument_tree (argued.Channel n) = whole.channel (name_of n)
argument_tree (argued.Number z at) = whole.number_argument z
argument_tree (argued.Logical b at) = whole.truth_argument b

abbrev pub instance_tree : Instance → InstanceTree
instance_tree i = whole.instance (name_of i.process) (map argument_tree i.arguments.items)

abbrev pub program_tree : Program → ProgramTree
program_tree p = whole.program (map declaration_tree p.declarations.items) (map instance_tree p.instances.items)

-- one lexeme stands before the rest
abbrev pub IsPast : List Lexeme → List Lexeme → Type 0
IsPast xs r = (x : Lexeme) × (xs ≡ x ∷ r)

-- the list has the lexeme with this span, and this many from it on
abbrev pub Placed : List Lexeme → Span → ℕ → Type 0
Placed lexemes span left =
    (before : List Lexeme) × (x : Lexeme) × (after : List Lexeme) × (lexemes ≡ before ++ x ∷ after) × (span ≡ x.span) × (length after + 1 ≡ left)

-- from the start of the list's first lexeme to the end of the last one before the rest
abbrev pub Covers : Span → List Lexeme → List Lexeme → Type 0
Covers at xs r = (first : Span) × (last : Span) × Placed xs first (length xs) × Placed xs last (length r + 1) × (at.from ≡ first.from) × (at.to ≡ last.to)

-- An empty statement has no span, and takes no lexeme; each other one has a span.
abbrev pub MayCover : Option Span → List Lexeme → List Lexeme → Type 0
MayCover None xs r = xs ≡ r
MayCover (Some at) xs r = Covers at xs r

abbrev pub parameter_with : Taking → Name → Parameter
parameter_with t n = record { taking = t; name = n }

abbrev pub variable_with : Kind → Name → OneVariable
variable_with k n = record { kind = k; name = n }

module _ (text : List ℕ) where
  -- one lexeme, this terminal of the text, stands before the rest
  abbrev pub Takes : Terminal → List Lexeme → List Lexeme → Type 0
  Takes k xs r = (x : Lexeme) × (xs ≡ x ∷ r) × (terminal text x.what x.span ≡ k)

  abbrev pub NameSpans : Name → List Lexeme → List Lexeme → Type 0
  NameSpans n xs r = Takes (name (name_of n)) xs r × Covers n.span xs r

  -- the lexemes of the text, and names with their spans
  abbrev pub lexemes : Reading Lexeme Name
  lexemes = record { takes = Takes; named = NameSpans }

  abbrev mutual
    pub FormSpans : Form → List Lexeme → List Lexeme → Type 0
    FormSpans (Number z) xs r = Takes (numeral z) xs r
    FormSpans (Logical b) xs r = Takes (truth_terminal b) xs r
    FormSpans (Variable n) xs r = NameSpans n xs r
    FormSpans (Wait n) xs r = (a b c : List Lexeme) × Takes (word keyword.Wait) xs a × Takes (sign mark.Open) a b × NameSpans n b c
        × Takes (sign mark.Close) c r
    FormSpans (Negate' p at e) xs r = (a : List Lexeme) × Takes (sign mark.Minus) xs a × (Covers at a r × FormSpans e a r)
    FormSpans (Not' p at e) xs r = (a : List Lexeme) × Takes (word keyword.Not) xs a × (Covers at a r × FormSpans e a r)
    FormSpans (Bracket' p at e) xs r = (a b : List Lexeme) × Takes (sign mark.Open) xs a × (Covers at a b × FormSpans e a b) × Takes (sign mark.Close) b r
    FormSpans (Level' p at e shape row) xs r = (a : List Lexeme) × (Covers at xs a × FormSpans e xs a) × OperandRowSpans row a r
    FormSpans (Conditional' p at t q at' e s at'' f) xs r = (a b c d g : List Lexeme) × Takes (word keyword.If) xs a
        × (Covers at a b × FormSpans t a b) × Takes (word keyword.Then) b c
        × (Covers at' c d × FormSpans e c d) × Takes (word keyword.Else) d g × (Covers at'' g r × FormSpans f g r)

    pub OperandRowSpans : {m : _} → Row_of-Operand m → List Lexeme → List Lexeme → Type 0
    OperandRowSpans end_of-Operand xs r = xs ≡ r
    OperandRowSpans (more_of-Operand o at e rest) xs r = (a b : List Lexeme) × Takes (operator_terminal o) xs a
        × (Covers at a b × FormSpans e a b) × OperandRowSpans rest b r

  abbrev pub ExpressionSpans : Expression → List Lexeme → List Lexeme → Type 0
  ExpressionSpans e xs r = Covers e.span xs r × FormSpans e.form xs r

  abbrev mutual
    pub ActionSpans : Action → List Lexeme → List Lexeme → Type 0
    ActionSpans Empty xs r = xs ≡ r
    ActionSpans (Assign n e) xs r = (a b : List Lexeme) × NameSpans n xs a × Takes (sign mark.Becomes) a b × ExpressionSpans e b r
    ActionSpans (Send e n) xs r = (a b c : List Lexeme) × Takes (word keyword.Send) xs a × ExpressionSpans e a b × Takes (word keyword.On) b c × NameSpans n c r
    ActionSpans (Print e) xs r = (a : List Lexeme) × Takes (word keyword.Print) xs a × ExpressionSpans e a r
    ActionSpans (Block' shape row) xs r = (a b : List Lexeme) × Takes (word keyword.Begin) xs a × StatementRowSpans row a b × Takes (word keyword.End) b r
    ActionSpans (If' t p at s other) xs r = (a b c d : List Lexeme) × Takes (word keyword.If) xs a × ExpressionSpans t a b × Takes (word keyword.Then) b c
        × (MayCover at c d × ActionSpans s c d) × OtherSpans other d r
    ActionSpans (While' t p at s) xs r = (a b c : List Lexeme) × Takes (word keyword.While) xs a × ExpressionSpans t a b
        × Takes (word keyword.Do) b c × (MayCover at c r × ActionSpans s c r)
    ActionSpans (Repeat' p at s) xs r = (a : List Lexeme) × Takes (word keyword.Repeat) xs a × (MayCover at a r × ActionSpans s a r)

    -- with `else` or without
    pub OtherSpans : Held-Action-If-2 → List Lexeme → List Lexeme → Type 0
    OtherSpans None' xs r = xs ≡ r
    OtherSpans (Some' p at s) xs r = (a : List Lexeme) × Takes (word keyword.Else) xs a × (MayCover at a r × ActionSpans s a r)

    -- with semicolons between
    pub StatementRowSpans : {m : _} → Row_of-Statement m → List Lexeme → List Lexeme → Type 0
    StatementRowSpans end_of-Statement xs r = xs ≡ r
    StatementRowSpans (more_of-Statement at s rest) xs r = (a : List Lexeme) × (MayCover at xs a × ActionSpans s xs a) × FurtherRowSpans rest a r

    pub FurtherRowSpans : {m : _} → Row_of-Statement m → List Lexeme → List Lexeme → Type 0
    FurtherRowSpans end_of-Statement xs r = xs ≡ r
    FurtherRowSpans (more_of-Statement at s rest) xs r = (a b : List Lexeme) × Takes (sign mark.Semicolon) xs a
        × (MayCover at a b × ActionSpans s a b) × FurtherRowSpans rest b r

  abbrev pub StatementSpans : Statement → List Lexeme → List Lexeme → Type 0
  StatementSpans s xs r = MayCover s.span xs r × ActionSpans s.action xs r

  abbrev pub StatementsSpan : List Statement → List Lexeme → List Lexeme → Type 0
  StatementsSpan ss xs r = Between (Takes (sign mark.Semicolon)) StatementSpans ss xs r

  abbrev pub ProcessSpans : Process → List Lexeme → List Lexeme → Type 0
  ProcessSpans p xs r = OneProcess lexemes parameter_with variable_with p.name p.parameters.items p.variables.items
      (λ ys q. StatementsSpan p.statements.items ys q × AreSome (statement_trees p.statements.items) × FormedStatements (statement_trees p.statements.items)) xs r

  abbrev pub DeclarationSpans : Declaration → List Lexeme → List Lexeme → Type 0
  DeclarationSpans (declared.Channels k role ns) xs r = ChannelGroup lexemes k role ns.items xs r
  DeclarationSpans (declared.Process p) xs r = ProcessSpans p xs r

  -- the sign of a number is in its span
  abbrev pub ArgumentSpans : Argument → List Lexeme → List Lexeme → Type 0
  ArgumentSpans (argued.Channel n) xs r = NameSpans n xs r
  ArgumentSpans (argued.Number z at) xs r = Covers at xs r × SignedNumber lexemes z xs r
  ArgumentSpans (argued.Logical b at) xs r = Covers at xs r × Takes (truth_terminal b) xs r

  abbrev pub InstanceSpans : Instance → List Lexeme → List Lexeme → Type 0
  InstanceSpans i xs r = OneInstance lexemes ArgumentSpans i.process i.arguments.items xs r

  -- one or more, with `par` between
  abbrev pub InstancesSpan : List Instance → List Lexeme → List Lexeme → Type 0
  InstancesSpan is xs r = SomeBetween (Takes (word keyword.Par)) InstanceSpans is xs r

  -- each part of the program has its span over these lexemes, which are all taken
  abbrev pub ProgramSpans : Program → List Lexeme → Type 0
  ProgramSpans p xs = OneProgram lexemes DeclarationSpans InstanceSpans p.declarations.items p.instances.items xs

-- ---- a text's program, or its fault

-- some tree spells it
abbrev pub IsSentence : List Terminal → Type 0
IsSentence ks = (t : ProgramTree) × Spells t ks

-- It begins a program: some tree spells it with more terminals after it.
abbrev pub Begins : List Terminal → Type 0
Begins ks = (t : ProgramTree) × (after : List Terminal) × Spells t (ks ++ after)

-- the same for a tree within the limit of nesting
abbrev pub IsWholeWithin : List Terminal → Type 0
IsWholeWithin ks = (t : ProgramTree) × Spells t ks × (nesting t ≤ 64)

abbrev pub BeginsWithin : List Terminal → Type 0
BeginsWithin ks = (t : ProgramTree) × (after : List Terminal) × Spells t (ks ++ after) × (nesting t ≤ 64)

-- the terminals before are a whole program, and this one can't follow
abbrev pub IsNothing : List Terminal → Terminal → Type 0
IsNothing before k = IsWholeWithin before × ¬ (Begins (before ++ k ∷ []))

-- the terminals before begin a program but aren't one, and with this one they begin none
abbrev pub IsOther : List Terminal → Terminal → Type 0
IsOther before k = BeginsWithin before × ¬ (IsSentence before) × ¬ (Begins (before ++ k ∷ []))

-- This one may stand here, and each program that begins so has more than 64 levels; one that begins without it has not.
abbrev pub IsTooDeep : List Terminal → Terminal → Type 0
IsTooDeep before k = BeginsWithin before × Begins (before ++ k ∷ [])
    × ((t : ProgramTree) (after : List Terminal) → Spells t (before ++ k ∷ after) → 64 < nesting t)

-- the lexeme with this span stands in the list, and P holds of the terminals before it and of its own
abbrev pub StandsAt : List ℕ → List Lexeme → Span → (List Terminal → Terminal → Type 0) → Type 0
StandsAt text xs span P = (before : List Lexeme) × (x : Lexeme) × (after : List Lexeme) × (xs ≡ before ++ x ∷ after) × (span ≡ x.span)
    × P (terminals text before) (terminal text x.what x.span)

-- The fault of these lexemes of the text. What comes before it begins a program within the limit, so no fault comes before it.
-- Memory may be refused at any place.
abbrev pub IsFault : List ℕ → List Lexeme → SyntaxFault → Type 0
IsFault text xs (Expected span More) = (span.from ≡ length text) × (span.to ≡ length text)
    × BeginsWithin (terminals text xs) × ¬ (IsSentence (terminals text xs))
IsFault text xs (Expected span Nothing) = StandsAt text xs span IsNothing
IsFault text xs (Expected span Other) = StandsAt text xs span IsOther
IsFault text xs (fault.TooDeep span) = StandsAt text xs span IsTooDeep
IsFault text xs fault.NoMemory = Unit {0}
IsFault text xs _ = ⊥

-- The program is read from the lexemes of the text, over which its parts have their spans; that these spell its tree follows.
abbrev pub IsProgram : List ℕ → Program → Type 0
IsProgram text p = (xs : List Lexeme) × AreLexemes text xs × ProgramSpans text p xs

-- a fault of a lexeme, or one of the grammar
abbrev pub IsTextFault : List ℕ → SyntaxFault → Type 0
IsTextFault text e = IsLexFault text e ⊎ ((xs : List Lexeme) × AreLexemes text xs × IsFault text xs e)
