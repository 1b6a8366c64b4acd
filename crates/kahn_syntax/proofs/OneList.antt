-- A text has one list of lexemes.
use Rattle.kahn_syntax.proofs.Common.{◌≡◌, ℕ, ◌+◌, ◌≤◌, ◌<◌, ◌⊎◌, ◌++◌, List, [], ◌∷◌, get_or, refl, sym, ap, subst, ◌∙◌, arith, inl, inr, nat_tests, Lexeme, Class, Word, Number, IsBlank, IsRun, HasForm, IsLongest, IsCommentWord, IsOfClass, IsLexemeAt, Closes, IsComment, Gap, no_gap, then_blank, then_comment, Lexed, ⊎_elim}
use Rattle.kahn_syntax.specs.declared.lexeme.Class.TheVariants.{Name, Sign}
use Rattle.kahn_syntax.proofs.{Keywords.same_keyword, Keywords.not_comment, Signs.sign_begins, Signs.same_sign, Signs.sign_letter, Signs.sign_digit, Signs.sign_blank, Signs.letter_digit, Signs.letter_blank, Signs.digit_blank}

-- forms

pub run_first : (text : List ℕ) (a b : ℕ) → IsRun text a b → (48 ≤ get_or text a 0) × (get_or text a 0 ≤ 57)
run_first text a b run = let some : a < b = run.0 in run.1 a (omega arith) some

pub form_grows : (text : List ℕ) (a b : ℕ) → HasForm text a b → a < b
form_grows text a b (inl word) = word.0
form_grows text a b (inr (inl run)) = run.0
form_grows text a b (inr (inr (s, sign))) = (sign_begins text s a b sign).grows

pub form_dark : (text : List ℕ) (a b : ℕ) → HasForm text a b → IsBlank (get_or text a 0) → ⊥
form_dark text a b (inl word) blank = letter_blank _ word.1 blank
form_dark text a b (inr (inl run)) blank = digit_blank _ (run_first text a b run) blank
form_dark text a b (inr (inr (s, sign))) blank = sign_blank _ (sign_begins text s a b sign).byte blank

-- two numbers are one where neither is the lesser
pub by_order : {P : Type 0} (b c : ℕ) → (b ≡ c → P) → (b < c → ⊥) → (c < b → ⊥) → P
by_order b c same less more =
    let either : (b ≡ c) ⊎ (b < c) ⊎ (c < b) = grind (arith, nat_tests) in ⊎_elim same (⊎_elim (λ l. absurd (less l)) (λ l. absurd (more l))) either

pub same_end : (text : List ℕ) (a b c : ℕ) → IsLongest text a b → IsLongest text a c → b ≡ c
same_end text a b c p q = by_order b c (λ e. e) (λ shorter. p.longest c shorter q.inside q.form) (λ longer. q.longest b longer p.inside p.form)

-- classes

same_class : (text : List ℕ) (a b : ℕ) (u v : Class) → IsOfClass text u a b → IsOfClass text v a b → u ≡ v
same_class text a b (Number m) (Number n) p q = ap Number (p.1 ∙ sym q.1)
same_class text a b (Number m) (Sign s) p q = absurd (sign_digit _ (sign_begins text s a b q).byte (run_first text a b p.0))
same_class text a b (Sign s) (Number n) p q = absurd (sign_digit _ (sign_begins text s a b p).byte (run_first text a b q.0))
same_class text a b (Sign s) (Sign t) p q = ap Sign (same_sign text s t a b p q)
same_class text a b (Number m) _ p q = absurd (letter_digit _ q.0.1 (run_first text a b p.0))
same_class text a b _ (Number n) p q = absurd (letter_digit _ p.0.1 (run_first text a b q.0))
same_class text a b (Sign s) _ p q = absurd (sign_letter _ (sign_begins text s a b p).byte q.0.1)
same_class text a b _ (Sign s) p q = absurd (sign_letter _ (sign_begins text s a b q).byte p.0.1)
same_class text a b (Word k) (Word l) p q = ap Word (same_keyword k l (sym p.1 ∙ q.1))
same_class text a b (Word k) Name p q = absurd (q.3 k p.1)
same_class text a b Name (Word l) p q = absurd (p.3 l q.1)
same_class text a b Name Name p q = refl

pub no_comment : (text : List ℕ) (a b : ℕ) (u : Class) → IsOfClass text u a b → IsCommentWord text a b → ⊥
no_comment text a b (Word k) p q = not_comment k (sym p.1 ∙ q.1)
no_comment text a b Name p q = p.2 q.1
no_comment text a b (Number n) p q = letter_digit _ q.0.1 (run_first text a b p.0)
no_comment text a b (Sign s) p q = sign_letter _ (sign_begins text s a b p).byte q.0.1

same_close : (text : List ℕ) (a b c : ℕ) → Closes text a b → Closes text a c → b ≡ c
same_close text a b c p q =
    by_order p.0 q.0 (λ e. p.1 ∙ (ap (λ n. n + 1) e ∙ sym q.1)) (λ sooner. q.5 p.0 p.2 sooner p.4) (λ later. p.5 q.0 q.2 later q.4)

pub same_comment : (text : List ℕ) (a b c : ℕ) → IsComment text a b → IsComment text a c → b ≡ c
same_comment text a b c p q =
    let e : p.0 ≡ q.0 = same_end text a p.0 q.0 p.1 q.1 in
    same_close text q.0 b c (subst (λ (m : ℕ). Closes text m b) e p.3) q.3

pub comment_grows : (text : List ℕ) (a b : ℕ) → IsComment text a b → a < b
comment_grows text a b c =
    let word : a < c.0 = form_grows text a c.0 c.1.form in
    omega (arith, c.3.1, c.3.2)

pub comment_dark : (text : List ℕ) (a b : ℕ) → IsComment text a b → IsBlank (get_or text a 0) → ⊥
comment_dark text a b c blank = form_dark text a c.0 c.1.form blank

-- what stands from one place to another: a blank, a comment, or a lexeme
pub data Item (text : List ℕ) (a : ℕ) : ℕ → List Lexeme → Type 0 where
  blank : IsBlank (get_or text a 0) → Item text a (a + 1) []
  comment : {m : ℕ} → IsComment text a m → Item text a m []
  lexeme : (x : Lexeme) → x.span.from ≡ a → IsLexemeAt text x → Item text a x.span.to (x ∷ [])

-- what stands from a place to the end, read from the left
pub data Walk (text : List ℕ) (n : ℕ) : ℕ → List Lexeme → Type 0 where
  ends : {a : ℕ} → a ≡ n → Walk text n a []
  then : {a b : ℕ} {xs ys : List Lexeme} → Item text a b xs → Walk text n b ys → Walk text n a (xs ++ ys)

walk_gap : (text : List ℕ) (n a b : ℕ) (xs : List Lexeme) → Gap text a b → Walk text n b xs → Walk text n a xs
walk_gap text n a b xs no_gap w = w
walk_gap text n a b xs (then_blank g dark) w = walk_gap text n a _ xs g (then (blank dark) w)
walk_gap text n a b xs (then_comment g c) w = walk_gap text n a _ xs g (then (comment c) w)

pub walk : (text : List ℕ) (n a : ℕ) (xs : List Lexeme) → Lexed text a n xs → Walk text n a xs
walk text n a [] gap = walk_gap text n a n [] gap (ends refl)
walk text n a (x ∷ xs) (gap, stands, rest) =
    walk_gap text n a x.span.from (x ∷ xs) gap (then (lexeme x refl stands) (walk text n x.span.to xs rest))

item_grows : (text : List ℕ) (a b : ℕ) (xs : List Lexeme) → Item text a b xs → a < b
item_grows text a _ _ (blank dark) = omega arith
item_grows text a b _ (comment c) = comment_grows text a b c
item_grows text a _ _ (lexeme x e stands) = let g : x.span.from < x.span.to = form_grows text x.span.from x.span.to stands.longest.form in omega arith

-- the end isn't before the place
pub walk_le : (text : List ℕ) (n a : ℕ) (xs : List Lexeme) → Walk text n a xs → a ≤ n
walk_le text n a _ (ends e) = omega arith
walk_le text n a _ (then {b = b} {xs = xs} {ys = ys} i w) = omega (arith, item_grows text a b xs i, walk_le text n b ys w)

-- nor is there more at the end
pub walk_end : {X : Type 0} (text : List ℕ) (n a b : ℕ) (xs ys : List Lexeme) → n ≤ a → Item text a b xs → Walk text n b ys → X
walk_end text n a b xs ys e i w = absurd (omega (arith, item_grows text a b xs i, walk_le text n b ys w))

pub same_lexeme : (text : List ℕ) (a : ℕ) (x y : Lexeme) → x.span.from ≡ a → y.span.from ≡ a → IsLexemeAt text x → IsLexemeAt text y → x ≡ y
same_lexeme text a x y e f p q =
    let from : x.span.from ≡ y.span.from = e ∙ sym f in
    let to : x.span.to ≡ y.span.to =
    same_end text y.span.from _ _ (subst (λ (m : ℕ). IsLongest text m x.span.to) from p.longest) q.longest in
    let here : IsOfClass text x.what y.span.from y.span.to =
    subst (λ (m : ℕ). IsOfClass text x.what y.span.from m) to (subst (λ (m : ℕ). IsOfClass text x.what m x.span.to) from p.class) in
    let what : x.what ≡ y.what = same_class text y.span.from y.span.to _ _ here q.class in
    λ i. record { span = record { from = from i; to = to i }; what = what i }

pub lexeme_dark : (text : List ℕ) (a : ℕ) (x : Lexeme) → x.span.from ≡ a → IsLexemeAt text x → IsBlank (get_or text a 0) → ⊥
lexeme_dark text a x e p dark = form_dark text x.span.from x.span.to p.longest.form (subst (λ (m : ℕ). IsBlank (get_or text m 0)) (sym e) dark)

pub lexeme_comment : (text : List ℕ) (a m : ℕ) (x : Lexeme) → x.span.from ≡ a → IsLexemeAt text x → IsComment text a m → ⊥
lexeme_comment text a m x e p c =
    let long : IsLongest text a x.span.to = subst (λ (k : ℕ). IsLongest text k x.span.to) e p.longest in
    let to : x.span.to ≡ c.0 = same_end text a x.span.to c.0 long c.1 in
    let here : IsOfClass text x.what a c.0 =
    subst (λ (k : ℕ). IsOfClass text x.what a k) to (subst (λ (k : ℕ). IsOfClass text x.what k x.span.to) e p.class) in
    no_comment text a c.0 x.what here c.2

-- one item stands at a place
pub same_item : (text : List ℕ) (a b c : ℕ) (xs ys : List Lexeme) → Item text a b xs → Item text a c ys → (b ≡ c) × (xs ≡ ys)
same_item text a _ _ _ _ (blank p) (blank q) = (refl, refl)
same_item text a _ c _ _ (blank p) (comment q) = absurd (comment_dark text a c q p)
same_item text a _ _ _ _ (blank p) (lexeme y f q) = absurd (lexeme_dark text a y f q p)
same_item text a b _ _ _ (comment p) (blank q) = absurd (comment_dark text a b p q)
same_item text a b c _ _ (comment p) (comment q) = (same_comment text a b c p q, refl)
same_item text a b _ _ _ (comment p) (lexeme y f q) = absurd (lexeme_comment text a b y f q p)
same_item text a _ _ _ _ (lexeme x e p) (blank q) = absurd (lexeme_dark text a x e p q)
same_item text a _ c _ _ (lexeme x e p) (comment q) = absurd (lexeme_comment text a c x e p q)
same_item text a _ _ _ _ (lexeme x e p) (lexeme y f q) =
    let same : x ≡ y = same_lexeme text a x y e f p q in (ap (λ (z : Lexeme). z.span.to) same, ap (λ z. z ∷ []) same)

same_walk : (text : List ℕ) (n a : ℕ) (xs ys : List Lexeme) → Walk text n a xs → Walk text n a ys → xs ≡ ys
same_walk text n a _ _ (ends e) (ends f) = refl
same_walk text n a _ _ (ends e) (then {b = b} {xs = xs} {ys = ys} i w) = walk_end text n a b xs ys (omega arith) i w
same_walk text n a _ _ (then {b = b} {xs = xs} {ys = ys} i w) (ends e) = walk_end text n a b xs ys (omega arith) i w
same_walk text n a _ _ (then {b = b} {xs = xs} {ys = ys} i v) (then {b = c} {xs = us} {ys = ws} j w) =
    let same = same_item text a b c xs us i j in
    let rest : ys ≡ ws = same_walk text n b ys ws v (subst (λ (k : ℕ). Walk text n k ws) (sym same.0) w) in
    λ k. same.1 k ++ rest k

pub same_lexemes : (text : List ℕ) (a n : ℕ) (xs ys : List Lexeme) → Lexed text a n xs → Lexed text a n ys → xs ≡ ys
same_lexemes text a n xs ys p q = same_walk text n a xs ys (walk text n a xs p) (walk text n a ys q)
