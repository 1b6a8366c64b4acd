-- A text with a fault has no list of lexemes.
use Rattle.kahn_syntax.proofs.Common.{◌≡◌, ℕ, ◌+◌, ◌-◌, ◌≤◌, ◌<◌, List, length, get_or, sym, ap, subst, ◌∙◌, arith, length-map, codes, slice_range, to_ascii_lowercase, digits_value, SyntaxFault, TooLong, BadCharacter, NumberTooLarge, CommentOpen, NameTooLong, Expected, Lexeme, Class, Word, Number, IsBlank, IsWord, IsRun, HasForm, IsLongest, IsSpelled, IsCommentWord, IsOfClass, IsLexemeAt, Closes, IsComment, Lexed, largest_number, letters_of, IsFaultAt}
use Rattle.kahn_syntax.specs.{declared.fault.SyntaxFault.TheVariants.TooDeep, declared.fault.SyntaxFault.TheVariants.NoMemory, declared.lexeme.Class.TheVariants.Name, declared.lexeme.Class.TheVariants.Sign}
use Rattle.kahn_syntax.proofs.{Keywords.keyword_short, Runs.length_slice, Signs.sign_begins, Signs.sign_letter, Signs.sign_digit, Signs.letter_digit}
use Rattle.kahn_syntax.proofs.OneList.{Walk, ends, then, blank, comment, lexeme, walk, walk_end, run_first, form_grows, form_dark, same_end, no_comment, same_item}

abbrev Rest : List ℕ → ℕ → ℕ → Type 0
Rest text n a = (zs : List Lexeme) × Walk text n a zs

-- what is read from the left up to a is read on from there
along : (text : List ℕ) (n a c : ℕ) (xs ys : List Lexeme) → a ≤ n → Walk text a c xs → Walk text n c ys → Rest text n a
along text n a c _ ys h (ends e) w = (ys, subst (λ (k : ℕ). Walk text n k ys) e w)
along text n a c _ _ h (then {b = b} {xs = xs} {ys = ys} i v) (ends e) = walk_end text a c b xs ys (omega arith) i v
along text n a c _ _ h (then {b = b} {xs = xs} {ys = ys} i v) (then {b = d} {xs = us} {ys = ws} j w) =
    along text n a b ys ws h v (subst (λ (k : ℕ). Walk text n k ws) (sym (same_item text c b d xs us i j).0) w)

-- nothing is read on from a place where neither a blank nor a comment nor a lexeme stands
stops : (text : List ℕ) (n a : ℕ) (zs : List Lexeme) → a < n → (IsBlank (get_or text a 0) → ⊥) → ((m : ℕ) → IsComment text a m → ⊥)
    → ((x : Lexeme) → x.span.from ≡ a → IsLexemeAt text x → ⊥) → Walk text n a zs → ⊥
stops text n a _ h b c l (ends e) = absurd (omega arith)
stops text n a _ h b c l (then (blank dark) w) = b dark
stops text n a _ h b c l (then (comment {m = m} k) w) = c m k
stops text n a _ h b c l (then (lexeme x e p) w) = l x e p

-- the same where a form stands that is no comment's word with its end and no lexeme
stops_long : (text : List ℕ) (n a b : ℕ) (zs : List Lexeme) → a < n → IsLongest text a b → (IsCommentWord text a b → (m : ℕ) → Closes text b m → ⊥)
    → ((u : Class) → IsOfClass text u a b → ⊥) → Walk text n a zs → ⊥
stops_long text n a b zs inside long c l w =
    stops text n a zs inside (form_dark text a b long.form)
    (λ m k.
    let e : k.0 ≡ b = same_end text a k.0 b k.1 long in
    c (subst (λ (j : ℕ). IsCommentWord text a j) e k.2) m (subst (λ (j : ℕ). Closes text j m) e k.3))
    (λ x e p.
    let from : IsLongest text a x.span.to = subst (λ (j : ℕ). IsLongest text j x.span.to) e p.longest in
    let to : x.span.to ≡ b = same_end text a x.span.to b from long in
    l x.what (subst (λ (j : ℕ). IsOfClass text x.what a j) to (subst (λ (j : ℕ). IsOfClass text x.what j x.span.to) e p.class)))
    w

spelled_length : (text letters : List ℕ) (a b : ℕ) → a ≤ b → b ≤ length text → IsSpelled letters (slice_range text a b) → b - a ≡ length letters
spelled_length text letters a b order inside spelled =
    let bytes : List ℕ = slice_range text a b in
    sym (length_slice text a b order inside) ∙ (sym (length-map bytes to_ascii_lowercase) ∙ ap length spelled)

-- `comment` isn't too long for a name
pub long_comment : (text : List ℕ) (a b : ℕ) → b ≤ length text → a + 64 < b → IsCommentWord text a b → ⊥
long_comment text a b inside long word =
    let seven : b - a ≡ 7 = spelled_length text (codes "comment") a b (omega arith) inside word.1 in
    absurd (omega arith)

large_class : (text : List ℕ) (a b : ℕ) (u : Class) → IsRun text a b → largest_number < digits_value 10 (slice_range text a b) → IsOfClass text u a b → ⊥
large_class text a b (Number n) run large p = absurd (omega (arith, large, p.2))
large_class text a b (Sign s) run large p = sign_digit _ (sign_begins text s a b p).byte (run_first text a b run)
large_class text a b _ run large p = letter_digit _ p.0.1 (run_first text a b run)

long_class : (text : List ℕ) (a b : ℕ) (u : Class) → b ≤ length text → IsWord text a b → a + 64 < b → IsOfClass text u a b → ⊥
long_class text a b (Word k) inside word long p =
    let e : b - a ≡ length (letters_of k) = spelled_length text (letters_of k) a b (omega arith) inside p.1 in
    let short : length (letters_of k) ≤ 64 = keyword_short k in
    omega arith
long_class text a b Name inside word long p = omega (arith, p.1)
long_class text a b (Number n) inside word long p = letter_digit _ word.1 (run_first text a b p.0)
long_class text a b (Sign s) inside word long p = sign_letter _ (sign_begins text s a b p).byte word.1

-- a fault stands within its text
pub fault_inside : (text : List ℕ) (a : ℕ) (e : SyntaxFault) → IsFaultAt text a e → a < length text
fault_inside text a (BadCharacter at) (f, bad) = omega (arith, f, bad.0.0, bad.0.2.0)
fault_inside text a (NumberTooLarge at) (f, large) = omega (arith, f, large.0.inside, form_grows text at.from at.to large.0.form)
fault_inside text a (CommentOpen at) (f, opens) = omega (arith, f, opens.0.inside, form_grows text at.from at.to opens.0.form)
fault_inside text a (NameTooLong at) (f, long) = omega (arith, f, long.0.inside, form_grows text at.from at.to long.0.form)
fault_inside text a _ h = absurd h

fault_stops : (text : List ℕ) (n a : ℕ) (e : SyntaxFault) (zs : List Lexeme) → a < n → IsFaultAt text a e → Walk text n a zs → ⊥
fault_stops text n a (BadCharacter at) zs more (e, bad) w =
    stops text n at.from zs (omega (arith, e)) bad.1 (λ m k. bad.2 k.0 k.1.inside k.1.form)
    (λ x f p. bad.2 x.span.to p.longest.inside (subst (λ (j : ℕ). HasForm text j x.span.to) f p.longest.form))
    (subst (λ (j : ℕ). Walk text n j zs) (sym e) w)
fault_stops text n a (NumberTooLarge at) zs more (e, large) w =
    stops_long text n at.from at.to zs (omega (arith, e)) large.0 (λ word m k. letter_digit _ word.0.1 (run_first text at.from at.to large.1))
    (λ u p. large_class text at.from at.to u large.1 large.2 p) (subst (λ (j : ℕ). Walk text n j zs) (sym e) w)
fault_stops text n a (CommentOpen at) zs more (e, opens) w =
    stops_long text n at.from at.to zs (omega (arith, e)) opens.0 (λ word m k. opens.2 k.0 k.2 k.3 k.4)
    (λ u p. no_comment text at.from at.to u p opens.1) (subst (λ (j : ℕ). Walk text n j zs) (sym e) w)
fault_stops text n a (NameTooLong at) zs more (e, long) w =
    stops_long text n at.from at.to zs (omega (arith, e)) long.0 (λ word m k. absurd (long_comment text at.from at.to long.0.inside long.2 word))
    (λ u p. long_class text at.from at.to u long.0.inside long.1 long.2 p) (subst (λ (j : ℕ). Walk text n j zs) (sym e) w)
fault_stops text n a _ zs more h w = h

-- a fault at a, with lexemes before, leaves the text without lexemes up to any place after it
pub no_list : (text : List ℕ) (n a : ℕ) (e : SyntaxFault) (xs ys : List Lexeme) → a < n → Lexed text 0 a xs → IsFaultAt text a e → Lexed text 0 n ys → ⊥
no_list text n a e xs ys more before fault whole =
    let rest = along text n a 0 xs ys (omega arith) (walk text a 0 xs before) (walk text n 0 ys whole) in
    fault_stops text n a e rest.0 more fault rest.1
