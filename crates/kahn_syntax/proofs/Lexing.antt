-- One blank, one comment or one lexeme further.
use Rattle.kahn_syntax.proofs.Common.{◌≡◌, ℕ, ◌+◌, ◌++◌, List, [], ◌∷◌, get_or, sym, subst, Lexeme, IsBlank, Gap, no_gap, then_blank, then_comment, IsComment, IsLexemeAt, Lexed}

pub blank_next : (text : List ℕ) (a b : ℕ) (xs : List Lexeme) → Lexed text a b xs → IsBlank (get_or text b 0) → Lexed text a (b + 1) xs
blank_next text a b [] gap blank = then_blank gap blank
blank_next text a b (x ∷ xs) (gap, stands, rest) blank = (gap, stands, blank_next text x.span.to b xs rest blank)

pub comment_next : (text : List ℕ) (a b c : ℕ) (xs : List Lexeme) → Lexed text a b xs → IsComment text b c → Lexed text a c xs
comment_next text a b c [] gap comment = then_comment gap comment
comment_next text a b c (x ∷ xs) (gap, stands, rest) comment = (gap, stands, comment_next text x.span.to b c xs rest comment)

pub lexeme_next : (text : List ℕ) (a b : ℕ) (xs ys : List Lexeme) (y : Lexeme) → Lexed text a b xs → IsLexemeAt text y → y.span.from ≡ b → ys ≡ xs ++ y ∷ [] →
    Lexed text a y.span.to ys
lexeme_next text a b xs ys y h stands from e = subst (Lexed text a y.span.to) (sym e) (walk a xs h)
  where
    walk : (c : ℕ) (zs : List Lexeme) → Lexed text c b zs → Lexed text c y.span.to (zs ++ y ∷ [])
    walk c [] gap = (subst (Gap text c) (sym from) gap, stands, no_gap)
    walk c (z ∷ zs) (gap, here, rest) = (gap, here, walk z.span.to zs rest)
