-- Inner. What the lexer meets at one place of a text.
use Rattle.std.specs.Prelude.{◌≡◌, ℕ, List, Bool, true, false}
use Rattle.kahn_syntax.specs.{Names.Item, declared.lexer.LexemeForm.LexemeForm, Texts.IsWord, Texts.IsWordByte, Texts.IsDigit, Texts.IsRun, Texts.IsSign, Texts.IsLexemeAt, Texts.IsComment}
use Rattle.kahn_syntax.specs.declared.lexer.Item.TheVariants as item
use Rattle.kahn_syntax.specs.declared.lexer.LexemeForm.TheVariants as form

-- a word, or else a number, goes on with this byte
abbrev pub IsFormByte : Bool → ℕ → Type 0
IsFormByte true b = IsWordByte b
IsFormByte false b = IsDigit b

-- the place after a form
abbrev pub form_end : LexemeForm → ℕ
form_end (form.Word to) = to
form_end (form.Run to) = to
form_end (form.Sign s to) = to

-- the bytes from a to the form's end have that form
abbrev pub IsOfForm : List ℕ → LexemeForm → ℕ → Type 0
IsOfForm text (form.Word to) a = IsWord text a to
IsOfForm text (form.Run to) a = IsRun text a to
IsOfForm text (form.Sign s to) a = IsSign text s a to

-- the item stands at a
abbrev pub IsItem : List ℕ → ℕ → Item → Type 0
IsItem text a (item.Lexeme x) = (x.span.from ≡ a) × IsLexemeAt text x
IsItem text a (item.Comment b) = IsComment text a b
