-- Believed. What is said of a place where a text goes wrong: what stands there, what may stand there, and a change that mends it.
use Rattle.std.specs.Prelude.{◌≡◌, ◌<◌, ◌-◌, ◌⊎◌, ℕ, List, [], ◌∷◌, ◌++◌, Option, Some, Contains, IfSome, codes, length, map, string_bytes}
use Rattle.std.specs.List.{concat}
use Rattle.kahn_streams.specs.{declared.span.Span.Span, declared.tree.Program.Program}
use Rattle.kahn_syntax.specs.{declared.fault.What.What, declared.fault.What.TheVariants.More, declared.fault.What.TheVariants.Nothing, declared.fault.What.TheVariants.Other, declared.fault.SyntaxFault.TheVariants.BadCharacter, declared.fault.SyntaxFault.TheVariants.Expected, Texts.IsProgram, Texts.IsTextFault}
use Rattle.kahn_expected.specs.{declared.groups.LexemeGroup.LexemeGroup, declared.groups.Wanted.Wanted, declared.found.Unexpected.Unexpected, Wanted.IsUnexpected}
use Rattle.kahn_expected.specs.declared.groups.LexemeGroup.TheVariants as group
use Rattle.kahn_diagnostic.specs.{Notes.IsApplied, declared.rendering.Fix.Fix, declared.rendering.Note.Note}
use Rattle.kahn_diagnostic.specs.declared.rendering.Other as other
use Rattle.kahn_program_notes.specs.Words.{any_words, separator}

-- any lexeme of a group
abbrev pub wanted_words : LexemeGroup → List ℕ
wanted_words group.Expression = codes "an expression"
wanted_words group.Operand = codes "an operand"
wanted_words group.Statement = codes "a statement"
wanted_words group.SimpleStatement = codes "a simple statement"
wanted_words group.Declaration = codes "a declaration"
wanted_words group.Operator = codes "an operator"
wanted_words group.Arithmetic = codes "an arithmetic operator"

-- the end of the text may stand behind a whole program
abbrev pub text_end_words : What → List (List ℕ)
text_end_words Nothing = codes "the end of the text" ∷ []
text_end_words More = []
text_end_words Other = []

-- what may stand at a place
abbrev pub pieces_of : Wanted → What → List (List ℕ)
pieces_of w what = map wanted_words w.groups.items ++ map any_words w.others.items ++ text_end_words what

-- with commas between, and `or` before the last
abbrev pub listed : List (List ℕ) → List ℕ
listed [] = []
listed (p ∷ ps) = p ++ (separator (length ps) ++ listed ps)

-- all that was expected at a place, and something that was found there
abbrev pub IsExpected : What → Unexpected → List ℕ → Type 0
IsExpected what u words = (found : List ℕ) × (words ≡ concat (codes "expected " ∷ listed (pieces_of u.wanted what) ∷ codes ", found " ∷ found ∷ []))

-- a text has its fault at a place, where a lexeme can't stand, or a character isn't of the language
abbrev pub IsFaultOf : List ℕ → Span → Type 0
IsFaultOf text at = ((what : What) × IsTextFault text (Expected at what)) ⊎ IsTextFault text (BadCharacter at)

-- a text is a program, or less stands behind its fault than behind a place of another text
abbrev pub MendsText : List ℕ → Span → List ℕ → Type 0
MendsText text span new = ((p : Program) × IsProgram new p)
    ⊎ ((at : Span) × IsFaultOf new at × (length new - at.from < length text - span.from))

-- so is the text with a change
abbrev pub Mends : List ℕ → Span → Fix → Type 0
Mends text span f = (new : List ℕ) × IsApplied text f new × MendsText text span new

-- the place itself, or that of a change
abbrev pub IsThereOrFixed : Span → Option Fix → Span → Type 0
IsThereOrFixed span fix at = (at ≡ span) ⊎ ((f : Fix) × (fix ≡ Some f) × (at ≡ f.span))

-- the heading says this of the place, and stands there or where the change is made; or it is said of the place behind the heading
abbrev pub IsToldAt : Span → List ℕ → Note → Type 0
IsToldAt span words n = (IsThereOrFixed span n.fix n.span × (string_bytes n.words ≡ words))
    ⊎ ((o : other.Other) × Contains n.others.items o × (o.span ≡ span) × (string_bytes o.words ≡ words))

-- the note on a place: it tells exactly what may stand there, and the text with the change that it tells is a program or goes wrong only later
abbrev pub IsNoteAt : List ℕ → Span → What → Note → Type 0
IsNoteAt text span what n = (u : Unexpected) × (words : List ℕ) × IsUnexpected text span what u × IsExpected what u words × IsToldAt span words n
    × IfSome n.fix (Mends text span)
