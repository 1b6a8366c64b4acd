-- Which terminals a part of the grammar begins with, by the classes of lexemes.
use Rattle.kahn_expected.proofs.Common.{Keyword, Sign, Terminal, a_sign, a_word, accepts, bytes_eq, bytes_of_sign, codes, either, letters_of, not, refl, sign_terminal, word, ◌&&◌, ◌||◌, ◌≡◌}
use Rattle.kahn_syntax.specs.declared.lexeme.Sign.TheVariants as mark

pub word_or_sign : (w : Keyword) (s : Sign) → (bytes_eq (bytes_of_sign mark.Not) (bytes_of_sign s) && bytes_eq (letters_of w) (codes "not")) ≡ accepts (a_word w) (sign_terminal s)
word_or_sign w mark.Not = refl
word_or_sign w _ = refl

pub sign_or_word : (g s : Sign) → (not (bytes_eq (bytes_of_sign mark.Not) (bytes_of_sign s)) && bytes_eq (bytes_of_sign g) (bytes_of_sign s)) ≡ accepts (a_sign g) (sign_terminal s)
sign_or_word g mark.Not = refl
sign_or_word g _ = refl

pub one_of_two : (v w : Keyword) (k : Terminal) → (accepts (a_word v) k || accepts (a_word w) k) ≡ accepts (either v w) k
one_of_two v w (word u) = refl
one_of_two v w _ = refl
