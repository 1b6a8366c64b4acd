-- What is new on a stream.
use Rattle.kahn_texts.proofs.Common.{◌≡◌, List, [], ◌∷◌, refl, Program, Line, Value, values_line}
use Rattle.kahn_texts.specs.News.{more_text}

-- the line of some values
pub line_more : (program : Program) (line : Line) (values : List Value) → (values ≡ [] → ⊥) → values_line program line values ≡ more_text program line values
line_more program line [] some = absurd (some refl)
line_more program line (v ∷ vs) some = refl
