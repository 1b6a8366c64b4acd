-- Believed. The words for lexemes.
use Rattle.std.specs.Prelude.{◌==◌, ℕ, List, [], ◌∷◌, codes, if◌then◌else◌}
use Rattle.std.specs.List.{concat}
use Rattle.kahn_syntax.specs.{declared.lexeme.Class.Class, Texts.bytes_of_sign, Texts.letters_of}
use Rattle.kahn_syntax.specs.declared.lexeme.Class.TheVariants as class

-- any lexeme of a class, with quotes round its letters
abbrev pub any_words : Class → List ℕ
any_words (class.Word k) = concat (codes "`" ∷ letters_of k ∷ codes "`" ∷ [])
any_words class.Name = codes "a name"
any_words (class.Number n) = codes "a number"
any_words (class.Sign s) = concat (codes "`" ∷ bytes_of_sign s ∷ codes "`" ∷ [])

-- what stands behind a piece where so many are left
abbrev pub separator : ℕ → List ℕ
separator n = if n == 0 then [] else if n == 1 then codes " or " else codes ", "
