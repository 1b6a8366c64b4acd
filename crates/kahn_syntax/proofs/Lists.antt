-- Lists that are read one member after another.
use Rattle.kahn_syntax.proofs.Common.{◌≡◌, ℕ, ◌+◌, ◌-◌, ◌≤◌, List, [], ◌∷◌, length, get_or, take, drop, sym, ap, ◌∙◌, arith, ◌<◌, length-drop, subst, take_all, drop_more, Class, Span, Lexeme, terminals, First, IsUnsigned, IsProper, AreProper, IsPast, Number}

pub first_of : (c d : Class) (xs rest : List Lexeme) → c ≡ d → First c xs rest → First d xs rest
first_of c d xs rest e f = subst (λ k. First k xs rest) e f

pub first_made : (xs rest : List Lexeme) (x : Lexeme) → xs ≡ x ∷ rest → First x.what xs rest
first_made xs rest x e = (x.span, λ text. ap (terminals text) e)

pub next_list : (xs : List Lexeme) (d : Lexeme) → 1 ≤ length xs → xs ≡ get_or xs 0 d ∷ take (length xs - 1) (drop 1 xs)
next_list xs d h =
    let low : 0 < length xs = omega (arith, h) in
    let e : drop 0 xs ≡ get_or xs 0 d ∷ drop (0 + 1) xs = drop_more xs 0 d low in
    e ∙ ap (λ ys. get_or xs 0 d ∷ ys) (sym (take_all (length xs - 1) (drop 1 xs) (omega (arith, length-drop 1 xs))))

pub next_made : (xs : List Lexeme) (d : Lexeme) → 1 ≤ length xs →
    First (get_or xs 0 d).what xs (take (length xs - 1) (drop 1 xs)) × (length xs ≡ length (take (length xs - 1) (drop 1 xs)) + 1)
next_made xs d h = (first_made xs _ (get_or xs 0 d) (next_list xs d h), omega (arith, h, length-drop 1 xs, ap length (take_all (length xs - 1) (drop 1 xs) (omega (arith, length-drop 1 xs)))))

pub next_passed : (xs : List Lexeme) → 1 ≤ length xs → IsPast xs (take (length xs - 1) (drop 1 xs))
next_passed [] h = absurd (omega (arith, h))
next_passed (x ∷ xs) h = (x, next_list (x ∷ xs) x h)

is_unsigned : (text : List ℕ) (c : Class) (at : Span) → IsProper text c at → IsUnsigned c
is_unsigned text (Number n) at h = h
is_unsigned text _ at h = tt

next_both : (text : List ℕ) (xs : List Lexeme) (d : Lexeme) → 1 ≤ length xs → AreProper text xs →
    IsUnsigned (get_or xs 0 d).what × AreProper text (take (length xs - 1) (drop 1 xs))
next_both text xs d h p =
    let q : AreProper text (get_or xs 0 d ∷ take (length xs - 1) (drop 1 xs)) = subst (AreProper text) (next_list xs d h) p in
    (is_unsigned text (get_or xs 0 d).what (get_or xs 0 d).span q.0, q.1)

pub next_unsigned : (text : List ℕ) (xs : List Lexeme) (d : Lexeme) → 1 ≤ length xs → AreProper text xs → IsUnsigned (get_or xs 0 d).what
next_unsigned text xs d h p = (next_both text xs d h p).0

pub next_proper : (text : List ℕ) (xs : List Lexeme) → 1 ≤ length xs → AreProper text xs → AreProper text (take (length xs - 1) (drop 1 xs))
next_proper text [] h p = absurd (omega (arith, h))
next_proper text (x ∷ xs) h p = (next_both text (x ∷ xs) x h p).1
