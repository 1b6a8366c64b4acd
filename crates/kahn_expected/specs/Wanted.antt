-- Believed. Which lexemes may stand at a place of a text.
use Rattle.std.specs.Prelude.{◌≡◌, ◌↔◌, ℕ, List, [], ◌∷◌, ◌++◌, pos, Some, None, Contains, flat_map, length, slice_get}
use Rattle.kahn_streams.specs.declared.span.Span.{Span}
use Rattle.kahn_syntax.specs.{declared.lexeme.Class.Class, declared.lexeme.Keyword.Keyword, declared.lexeme.Sign.Sign, declared.lexeme.Lexeme.Lexeme, declared.fault.What.What, declared.fault.What.TheVariants.More, Grammar.Terminal, Texts.terminal, Texts.terminals, Texts.AreLexemes, Texts.Begins}
use Rattle.kahn_syntax.specs.declared.lexeme.Class.TheVariants as class
use Rattle.kahn_syntax.specs.declared.lexeme.Keyword.TheVariants as word
use Rattle.kahn_syntax.specs.declared.lexeme.Sign.TheVariants as sign
use Rattle.kahn_syntax.specs.Grammar as grammar
use Rattle.kahn_expected.specs.declared.{groups.LexemeGroup.LexemeGroup, groups.Wanted.Wanted, found.Unexpected.Unexpected}
use Rattle.kahn_expected.specs.declared.groups.LexemeGroup.TheVariants as group

-- with this one behind them the terminals begin a program
abbrev pub MayFollow : List Terminal → Terminal → Type 0
MayFollow before k = Begins (before ++ k ∷ [])

-- the class of such terminals: all names are of one, and all numbers are of that of 0
abbrev pub class_of_terminal : Terminal → Class
class_of_terminal (grammar.word w) = class.Word w
class_of_terminal (grammar.sign s) = class.Sign s
class_of_terminal (grammar.numeral z) = class.Number (pos 0)
class_of_terminal (grammar.name n) = class.Name

abbrev pub words : List Keyword → List Class
words [] = []
words (w ∷ ws) = class.Word w ∷ words ws

abbrev pub signs : List Sign → List Class
signs [] = []
signs (s ∷ ss) = class.Sign s ∷ signs ss

-- what an operand begins with, a simple statement, and so on
abbrev pub operand_classes : List Class
operand_classes = class.Name ∷ class.Number (pos 0) ∷ words (word.False ∷ word.True ∷ word.Wait ∷ []) ++ signs (sign.Open ∷ sign.Minus ∷ [])

abbrev pub arithmetic_classes : List Class
arithmetic_classes = signs (sign.Minus ∷ sign.Plus ∷ sign.Times ∷ []) ++ words (word.Div ∷ word.Mod ∷ [])

abbrev pub members : LexemeGroup → List Class
members group.Expression = words (word.If ∷ word.Not ∷ []) ++ operand_classes
members group.Operand = operand_classes
members group.Statement = class.Name ∷ words (word.Send ∷ word.Print ∷ word.Begin ∷ word.If ∷ word.While ∷ word.Repeat ∷ [])
members group.SimpleStatement = class.Name ∷ words (word.Send ∷ word.Print ∷ word.Begin ∷ [])
members group.Declaration = words (word.Integer ∷ word.Logical ∷ word.Process ∷ [])
members group.Operator =
    arithmetic_classes ++ signs (sign.Equal ∷ sign.Unequal ∷ sign.Less ∷ sign.AtMost ∷ sign.Greater ∷ sign.AtLeast ∷ []) ++ words (word.And ∷ word.Or ∷ [])
members group.Arithmetic = arithmetic_classes

-- the classes that are told: those of the groups, and the others
abbrev pub told_classes : Wanted → List Class
told_classes w = flat_map members w.groups.items ++ w.others.items

-- a lexeme may stand behind these terminals exactly where its class is told
abbrev pub AreWanted : List Terminal → Wanted → Type 0
AreWanted before w = (text : List ℕ) (x : Lexeme) → let k = terminal text x.what x.span in Contains (told_classes w) (class_of_terminal k) ↔ MayFollow before k

-- The lexeme with this span stands there, and what may stand there instead.
abbrev pub IsInstead : List ℕ → List Lexeme → Span → Unexpected → Type 0
IsInstead text xs span u = (before : List Lexeme) × (x : Lexeme) × (after : List Lexeme) × (xs ≡ before ++ x ∷ after) × (span ≡ x.span) × (u.found ≡ Some x)
    × AreWanted (terminals text before) u.wanted

-- the place of the lexeme with this span, or the end
abbrev pub IsPlace : List Lexeme → Span → What → ℕ → Type 0
IsPlace xs span More i = i ≡ length xs
IsPlace xs span what i = (x : Lexeme) × (slice_get xs i ≡ Some x) × (span ≡ x.span)

-- What stands where a text goes wrong, which is nothing at its end, and what may stand there.
abbrev pub IsAtFault : List ℕ → List Lexeme → Span → What → Unexpected → Type 0
IsAtFault text xs span More u = (u.found ≡ None) × AreWanted (terminals text xs) u.wanted
IsAtFault text xs span what u = IsInstead text xs span u

abbrev pub IsUnexpected : List ℕ → Span → What → Unexpected → Type 0
IsUnexpected text span what u = (xs : List Lexeme) × AreLexemes text xs × IsAtFault text xs span what u
