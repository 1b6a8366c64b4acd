use Rattle.kahn_syntax.proofs.Parsing.{ap, arith, drop, drop_more, get_or, length, length-drop, refl, sym, take, take-append-drop, ◌++◌, ◌+◌, ◌-◌, ◌<◌, ◌∙◌}
use Rattle.kahn_syntax.proofs.parser.cursor.span_at.Goals as goal

pub returns : goal.returns
returns c =
    let xs = c.args.lexemes.now in
    let i = length xs - c.args.left in
    let low : i < length xs = omega (arith, c.requires.some, c.requires.in_range) in
    (take i xs, get_or xs i _, drop (i + 1) xs, sym (take-append-drop i xs) ∙ ap (λ y. take i xs ++ y) (drop_more xs i _ low), refl, omega (arith, length-drop (i + 1) xs, low))
