-- The keywords, each at a place of its own.
use Rattle.kahn_syntax.proofs.Common.{◌≡◌, ℕ, ◌<◌, List, [], ◌∷◌, get_or, refl, lit<, lit≤, length, ◌≤◌, ap, ◌∙◌, sym, Option, Some, None, find, bytes_eq, codes, Keyword, And, Begin, Channel, Div, Do, Else, End, False, If, In, Input, Integer, Logical, Mod, On, Out, Output, Par, Print, Process, Repeat, Send, Then, True, Wait, While, letters_of, cond, suc}
use Rattle.kahn_syntax.specs.declared.lexeme.Keyword.TheVariants.{Not, Or}

abbrev pub all_keywords : List Keyword
all_keywords = And ∷ Begin ∷ Channel ∷ Div ∷ Do ∷ Else ∷ End ∷ False ∷ If ∷ In ∷ Input ∷ Integer ∷ Logical ∷ Mod ∷ Not ∷ On ∷ Or ∷ Out ∷ Output ∷ Par ∷ Print ∷ Process ∷ Repeat ∷ Send ∷ Then ∷ True ∷ Wait ∷ While ∷ []

pub record IsPlaced (k : Keyword) : Type 0 where
  pub place : ℕ
  pub below : place < 28
  pub is : get_or all_keywords place And ≡ k

-- the place of the keyword with these letters
abbrev place_in : List ℕ → List Keyword → ℕ
place_in letters [] = 0
place_in letters (k ∷ ks) = cond (bytes_eq (letters_of k) letters) 0 (suc (place_in letters ks))

pub placed : (k : Keyword) → IsPlaced k
placed And = record { place = 0; below = lit< tt; is = refl }
placed k = record { place = place_in (letters_of k) all_keywords; below = lit< tt; is = refl }

-- no two keywords have the same letters, and none has those of `comment`
abbrev keyword_named : List ℕ → Option Keyword
keyword_named letters = find (λ k. bytes_eq (letters_of k) letters) all_keywords

named_keyword : (k : Keyword) → keyword_named (letters_of k) ≡ Some k
named_keyword And = refl
named_keyword _ = refl

pub same_keyword : (k l : Keyword) → letters_of k ≡ letters_of l → k ≡ l
same_keyword k l e =
    let f : Some k ≡ Some l = sym (named_keyword k) ∙ (ap keyword_named e ∙ named_keyword l) in
    cc

pub not_comment : (k : Keyword) → letters_of k ≡ codes "comment" → ⊥
not_comment k e =
    let f : Some k ≡ None = sym (named_keyword k) ∙ ap keyword_named e in
    cc

-- no keyword is longer than a name may be
pub keyword_short : (k : Keyword) → length (letters_of k) ≤ 64
keyword_short And = lit≤ tt
keyword_short _ = lit≤ tt
