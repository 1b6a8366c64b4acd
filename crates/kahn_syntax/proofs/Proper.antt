-- The lexemes of a text are as the lexer makes them.
use Rattle.kahn_syntax.proofs.Common.{ℕ, List, [], ◌∷◌, arith, All, All-head, All-tail, Span, Lexeme, Class, IsOfClass, IsSlice, Lexed, IsProper, AreProper, NameClass, Number, SignClass, Word}

proper : (text : List ℕ) (c : Class) (at : Span) → IsOfClass text c at.from at.to → IsSlice text (record { span = at; what = c }) → IsProper text c at
proper text NameClass at h s = (omega (arith, s.0), s.1, s.2, s.3)
proper text (Number n) at h s = (_, h.1, h.2)
proper text _ at h s = tt

pub lexed_proper : (text : List ℕ) (a b : ℕ) (xs : List Lexeme) → Lexed text a b xs → All (IsSlice text) xs → AreProper text xs
lexed_proper text a b [] l s = tt
lexed_proper text a b (x ∷ xs) (gap, stands, rest) s =
    (proper text x.what x.span stands.class (All-head (IsSlice text) x xs s), lexed_proper text x.span.to b xs rest (All-tail (IsSlice text) x xs s))
