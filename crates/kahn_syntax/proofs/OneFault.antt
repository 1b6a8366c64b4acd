-- A text has one fault, want of memory aside.
use Rattle.kahn_syntax.proofs.Common.{IsCharacter, slice_index, ◌+◌, ◌≤◌, IsBlank, IsRun, IsWord, IsCommentWord, HasForm, largest_number, digits_value, slice_range, ◌≡◌, ℕ, ◌<◌, ◌⊎◌, List, [], ◌∷◌, ◌++◌, length, inl, inr, refl, sym, ap, subst, ◌∙◌, arith, append_assoc, append-nil, Span, Lexeme, SyntaxFault, TooLong, BadCharacter, NumberTooLarge, CommentOpen, NameTooLong, Expected, More, Nothing, Other, IsLongest, IsReached, IsLexFault, most_bytes, IsFaultAt, Terminal, terminal, terminals, Spells, Begins, BeginsWithin, IsNothing, IsOther, IsTooDeep, IsFault, AreLexemes, IsTextFault}
use Rattle.kahn_syntax.specs.declared.fault.SyntaxFault.TheVariants.{TooDeep, NoMemory}
use Rattle.kahn_syntax.proofs.{Meaning.terminals_append, NoList.no_list, NoList.fault_inside, NoList.long_comment, OneList.by_order, OneList.run_first, OneList.same_end, OneList.same_lexemes, Signs.letter_digit}

abbrev Agree : SyntaxFault → SyntaxFault → Type 0
Agree e f = (e ≡ NoMemory) ⊎ (f ≡ NoMemory) ⊎ (e ≡ f)

-- faults of lexemes

same_span : (a : Span) (b : Span) → a.from ≡ b.from → a.to ≡ b.to → a ≡ b
same_span a b e f = λ i. record { from = e i; to = f i }

-- the parts of a fault at its own place
abbrev IsBadCharacter : List ℕ → Span → Type 0
IsBadCharacter text at = IsCharacter text at × ¬ (IsBlank (slice_index text at.from)) × ((n : ℕ) → n ≤ length text → ¬ (HasForm text at.from n))

-- one character of the text ends at one place
same_character : (text : List ℕ) (a : Span) (b : Span) → a.from ≡ b.from → IsBadCharacter text a → IsBadCharacter text b → a ≡ b
same_character text a b e p q =
    by_order a.to b.to (same_span a b e) (λ h. q.0.3 a.to (omega (arith, e, p.0.0)) h p.0.2) (λ h. p.0.3 b.to (omega (arith, e, q.0.0)) h q.0.2)

same_long : (text : List ℕ) (a : Span) (b : Span) → a.from ≡ b.from → IsLongest text a.from a.to → IsLongest text b.from b.to → a ≡ b
same_long text a b e p q = same_span a b e (same_end text b.from a.to b.to (subst (λ (m : ℕ). IsLongest text m a.to) e p) q)

no_form : (text : List ℕ) (a : Span) (b : Span) → a.from ≡ b.from → IsBadCharacter text a → IsLongest text b.from b.to → ⊥
no_form text a b e p q =
    let long : IsLongest text a.from b.to = subst (λ (m : ℕ). IsLongest text m b.to) (sym e) q in
    p.2 b.to long.inside long.form

-- a fault of the form that stands there
data FormFault (text : List ℕ) (at : Span) : SyntaxFault → Type 0 where
  large : IsRun text at.from at.to → FormFault text at (NumberTooLarge at)
  opens : IsCommentWord text at.from at.to → FormFault text at (CommentOpen at)
  long : IsWord text at.from at.to → at.from + 64 < at.to → FormFault text at (NameTooLong at)

-- what a fault at a is
data FaultAt (text : List ℕ) (a : ℕ) (e : SyntaxFault) : Type 0 where
  bad : (at : Span) → at.from ≡ a → IsBadCharacter text at → e ≡ BadCharacter at → FaultAt text a e
  formed : (at : Span) → at.from ≡ a → IsLongest text at.from at.to → FormFault text at e → FaultAt text a e

fault_at : (text : List ℕ) (a : ℕ) (e : SyntaxFault) → IsFaultAt text a e → FaultAt text a e
fault_at text a (BadCharacter at) (e, h) = bad at e h refl
fault_at text a (NumberTooLarge at) (e, h) = formed at e h.0 (large h.1)
fault_at text a (CommentOpen at) (e, h) = formed at e h.0 (opens h.1)
fault_at text a (NameTooLong at) (e, h) = formed at e h.0 (long h.1 h.2)
fault_at text a _ h = absurd h

-- a run is no word, and `comment` isn't too long
same_form : (text : List ℕ) (at : Span) (e f : SyntaxFault) → at.to ≤ length text → FormFault text at e → FormFault text at f → e ≡ f
same_form text at _ _ i (large r) (large s) = refl
same_form text at _ _ i (opens w) (opens v) = refl
same_form text at _ _ i (long w l) (long v m) = refl
same_form text at _ _ i (large r) (opens v) = absurd (letter_digit _ v.0.1 (run_first text at.from at.to r))
same_form text at _ _ i (large r) (long v m) = absurd (letter_digit _ v.1 (run_first text at.from at.to r))
same_form text at _ _ i (opens w) (large s) = absurd (letter_digit _ w.0.1 (run_first text at.from at.to s))
same_form text at _ _ i (opens w) (long v m) = absurd (long_comment text at.from at.to i m w)
same_form text at _ _ i (long w l) (large s) = absurd (letter_digit _ w.1 (run_first text at.from at.to s))
same_form text at _ _ i (long w l) (opens v) = absurd (long_comment text at.from at.to i l v)

same_at : (text : List ℕ) (a : ℕ) (e f : SyntaxFault) → FaultAt text a e → FaultAt text a f → e ≡ f
same_at text a e f (bad s p h i) (bad t q k j) = i ∙ ap BadCharacter (same_character text s t (p ∙ sym q) h k) ∙ sym j
same_at text a e f (bad s p h i) (formed t q k j) = absurd (no_form text s t (p ∙ sym q) h k)
same_at text a e f (formed s p h i) (bad t q k j) = absurd (no_form text t s (q ∙ sym p) k h)
same_at text a e f (formed s p h i) (formed t q k j) =
    same_form text t e f k.inside (subst (λ (u : Span). FormFault text u e) (same_long text s t (p ∙ sym q) h k) i) j

-- a fault of the whole text, or one that its lexemes reach
data LexFault (text : List ℕ) (e : SyntaxFault) : Type 0 where
  no_memory : e ≡ NoMemory → LexFault text e
  too_long : e ≡ TooLong → most_bytes < length text → LexFault text e
  reached : (a : ℕ) → IsReached text a → IsFaultAt text a e → LexFault text e

lex_fault : (text : List ℕ) (e : SyntaxFault) → IsLexFault text e → LexFault text e
lex_fault text TooLong h = too_long refl h
lex_fault text NoMemory h = no_memory refl
lex_fault text e (a, r, h) = reached a r h

same_reached : (text : List ℕ) (a b : ℕ) (e f : SyntaxFault) → IsReached text a → IsFaultAt text a e → IsReached text b → IsFaultAt text b f → e ≡ f
same_reached text a b e f r h s k =
    by_order a b (λ same. same_at text b e f (fault_at text b e (subst (λ (j : ℕ). IsFaultAt text j e) same h)) (fault_at text b f k))
    (λ less. no_list text b a e r.1.0 s.1.0 less r.1.1 h s.1.1) (λ less. no_list text a b f s.1.0 r.1.0 less s.1.1 k r.1.1)

same_lexical : (text : List ℕ) (e f : SyntaxFault) → LexFault text e → LexFault text f → Agree e f
same_lexical text e f (no_memory p) k = inl p
same_lexical text e f h (no_memory q) = inr (inl q)
same_lexical text e f (too_long p h) (too_long q k) = inr (inr (p ∙ sym q))
same_lexical text e f (too_long p h) (reached b s k) = absurd (omega (arith, h, s.0))
same_lexical text e f (reached a r h) (too_long q k) = absurd (omega (arith, r.0, k))
same_lexical text e f (reached a r h) (reached b s k) = inr (inr (same_reached text a b e f r h s k))

-- a text with a fault of its lexemes has no list of them
no_lexemes : (text : List ℕ) (e : SyntaxFault) (xs : List Lexeme) → LexFault text e → AreLexemes text xs → e ≡ NoMemory
no_lexemes text e xs (no_memory p) l = p
no_lexemes text e xs (too_long p h) l = absurd (omega (arith, h, l.0))
no_lexemes text e xs (reached a r h) l = absurd (no_list text (length text) a e r.1.0 xs (fault_inside text a e h) r.1.1 h l.1)

-- faults of the grammar

-- why a terminal is at fault after these
data AtFault (before : List Terminal) (k : Terminal) (span : Span) : SyntaxFault → Type 0 where
  nothing : IsNothing before k → AtFault before k span (Expected span Nothing)
  other : IsOther before k → AtFault before k span (Expected span Other)
  deep : IsTooDeep before k → AtFault before k span (TooDeep span)

-- what stands before begins a program within the limit
begins : (before : List Terminal) (k : Terminal) (span : Span) (e : SyntaxFault) → AtFault before k span e → BeginsWithin before
begins before k span _ (nothing h) = (h.0.0, [], subst (Spells h.0.0) (sym (append-nil before)) h.0.1, h.0.2)
begins before k span _ (other h) = h.0
begins before k span _ (deep h) = h.0

-- and no such program goes on with it
one_more : (before later : List Terminal) (k : Terminal) → BeginsWithin (before ++ k ∷ later) → Begins (before ++ k ∷ [])
one_more before later k (t, after, s, n) =
    (t, later ++ after, subst (Spells t) (append_assoc before (k ∷ later) after ∙ sym (append_assoc before (k ∷ []) (later ++ after))) s)

ends : (before later : List Terminal) (k : Terminal) (span : Span) (e : SyntaxFault) → AtFault before k span e → BeginsWithin (before ++ k ∷ later) → ⊥
ends before later k span _ (nothing h) b = h.1 (one_more before later k b)
ends before later k span _ (other h) b = h.2 (one_more before later k b)
ends before later k span _ (deep h) (t, after, s, n) =
    let far = h.2 t (later ++ after) (subst (Spells t) (append_assoc before (k ∷ later) after) s) in
    omega (arith, far, n)

same_here : (before : List Terminal) (k : Terminal) (span : Span) (e f : SyntaxFault) → AtFault before k span e → AtFault before k span f → e ≡ f
same_here before k span _ _ (nothing h) (nothing g) = refl
same_here before k span _ _ (nothing h) (other g) = absurd (g.1 (h.0.0, h.0.1))
same_here before k span _ _ (nothing h) (deep g) = absurd (h.1 g.1)
same_here before k span _ _ (other h) (nothing g) = absurd (h.1 (g.0.0, g.0.1))
same_here before k span _ _ (other h) (other g) = refl
same_here before k span _ _ (other h) (deep g) = absurd (h.2 g.1)
same_here before k span _ _ (deep h) (nothing g) = absurd (g.1 h.1)
same_here before k span _ _ (deep h) (other g) = absurd (g.2 h.1)
same_here before k span _ _ (deep h) (deep g) = refl

-- a fault of the grammar at a lexeme, or at the end
data GrammarFault (text : List ℕ) (xs : List Lexeme) (e : SyntaxFault) : Type 0 where
  no_memory : e ≡ NoMemory → GrammarFault text xs e
  at_end : (span : Span) → e ≡ Expected span More → span.from ≡ length text → span.to ≡ length text → BeginsWithin (terminals text xs) → GrammarFault text xs e
  stands : (before : List Lexeme) (x : Lexeme) (after : List Lexeme) → xs ≡ before ++ x ∷ after
      → AtFault (terminals text before) (terminal text x.what x.span) x.span e → GrammarFault text xs e

grammar_fault : (text : List ℕ) (xs : List Lexeme) (e : SyntaxFault) → IsFault text xs e → GrammarFault text xs e
grammar_fault text xs (Expected span More) (p, q, b, n) = at_end span refl p q b
grammar_fault text xs (Expected span Nothing) (before, x, after, p, s, h) =
    stands before x after p (subst (λ (t : Span). AtFault (terminals text before) (terminal text x.what x.span) x.span (Expected t Nothing)) (sym s) (nothing h))
grammar_fault text xs (Expected span Other) (before, x, after, p, s, h) =
    stands before x after p (subst (λ (t : Span). AtFault (terminals text before) (terminal text x.what x.span) x.span (Expected t Other)) (sym s) (other h))
grammar_fault text xs (TooDeep span) (before, x, after, p, s, h) =
    stands before x after p (subst (λ (t : Span). AtFault (terminals text before) (terminal text x.what x.span) x.span (TooDeep t)) (sym s) (deep h))
grammar_fault text xs NoMemory h = no_memory refl
grammar_fault text xs _ h = absurd h

-- two places of one list: the same, or one before the other
data Places (before : List Lexeme) (x : Lexeme) (others : List Lexeme) (y : Lexeme) : Type 0 where
  same : before ≡ others → x ≡ y → Places before x others y
  first : (m : List Lexeme) → others ≡ before ++ x ∷ m → Places before x others y
  second : (m : List Lexeme) → before ≡ others ++ y ∷ m → Places before x others y

places : (before : List Lexeme) (x : Lexeme) (after others : List Lexeme) (y : Lexeme) (then : List Lexeme) →
    before ++ x ∷ after ≡ others ++ y ∷ then → Places before x others y
places [] x after [] y then e = same refl cc
places [] x after (z ∷ others) y then e = first others (let h : x ≡ z = cc in ap (λ w. w ∷ others) (sym h))
places (w ∷ before) x after [] y then e = second before (let h : w ≡ y = cc in ap (λ v. v ∷ before) h)
places (w ∷ before) x after (z ∷ others) y then e =
    let h : w ≡ z = cc in
    let t : before ++ x ∷ after ≡ others ++ y ∷ then = cc in
    on h (places before x after others y then t)
  where
    on : w ≡ z → Places before x others y → Places (w ∷ before) x (z ∷ others) y
    on h (same p q) = same (λ i. h i ∷ p i) q
    on h (first m p) = first m (λ i. (sym h) i ∷ p i)
    on h (second m p) = second m (λ i. h i ∷ p i)

-- a fault at a lexeme lets no later one be told
no_later : (text : List ℕ) (before later : List Lexeme) (x : Lexeme) (e : SyntaxFault) →
    AtFault (terminals text before) (terminal text x.what x.span) x.span e → BeginsWithin (terminals text (before ++ x ∷ later)) → ⊥
no_later text before later x e h b =
    ends (terminals text before) (terminals text later) (terminal text x.what x.span) x.span e h
    (subst BeginsWithin (terminals_append text before (x ∷ later)) b)

same_grammatical : (text : List ℕ) (xs : List Lexeme) (e f : SyntaxFault) → GrammarFault text xs e → GrammarFault text xs f → Agree e f
same_grammatical text xs e f (no_memory p) k = inl p
same_grammatical text xs e f h (no_memory q) = inr (inl q)
same_grammatical text xs e f (at_end s p a b h) (at_end t q c d k) =
    inr (inr (p ∙ ap (λ (u : Span). Expected u More) (same_span s t (a ∙ sym c) (b ∙ sym d)) ∙ sym q))
same_grammatical text xs e f (at_end s p a b h) (stands before y after q k) =
    absurd (no_later text before after y f k (subst (λ (ys : List Lexeme). BeginsWithin (terminals text ys)) q h))
same_grammatical text xs e f (stands before x after p h) (at_end t q c d k) =
    absurd (no_later text before after x e h (subst (λ (ys : List Lexeme). BeginsWithin (terminals text ys)) p k))
same_grammatical text xs e f (stands before x after p h) (stands others y then q k) =
    inr (inr (by_place (places before x after others y then (sym p ∙ q))))
  where
    by_place : Places before x others y → e ≡ f
    by_place (same r s) =
        let m : AtFault (terminals text others) (terminal text y.what y.span) y.span e =
        subst (λ (z : Lexeme). AtFault (terminals text others) (terminal text z.what z.span) z.span e) s
        (subst (λ (zs : List Lexeme). AtFault (terminals text zs) (terminal text x.what x.span) x.span e) r h) in
        same_here (terminals text others) (terminal text y.what y.span) y.span e f m k
    by_place (first m r) =
        absurd (no_later text before m x e h (subst (λ (zs : List Lexeme). BeginsWithin (terminals text zs)) r (begins _ _ _ f k)))
    by_place (second m r) =
        absurd (no_later text others m y f k (subst (λ (zs : List Lexeme). BeginsWithin (terminals text zs)) r (begins _ _ _ e h)))

pub one_fault : (text : List ℕ) (e f : SyntaxFault) → IsTextFault text e → IsTextFault text f → (e ≡ NoMemory) ⊎ (f ≡ NoMemory) ⊎ (e ≡ f)
one_fault text e f (inl h) (inl k) = same_lexical text e f (lex_fault text e h) (lex_fault text f k)
one_fault text e f (inl h) (inr (ys, l, k)) = inl (no_lexemes text e ys (lex_fault text e h) l)
one_fault text e f (inr (xs, l, h)) (inl k) = inr (inl (no_lexemes text f xs (lex_fault text f k) l))
one_fault text e f (inr (xs, l, h)) (inr (ys, m, k)) =
    let same = same_lexemes text 0 (length text) xs ys l.1 m.1 in
    same_grammatical text ys e f (grammar_fault text ys e (subst (λ (zs : List Lexeme). IsFault text zs e) same h)) (grammar_fault text ys f k)
