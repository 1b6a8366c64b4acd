-- What single terminals do to what is open.
use Rattle.kahn_syntax.proofs.Common.{◌≡◌, ◌≢◌, ℕ, ◌+◌, ◌≤◌, ◌==◌, ◌++◌, List, [], ◌∷◌, length, Bool, true, false, true≢false, cond, Option, Some, None, refl, sym, ap, ◌∙◌, append_assoc, arith, nat_le, nat_tests, Operator, Terminal, rank, operator_terminal, Rung, whole, ors, ands, denials, relations, sums, terms, factors, at, tighter, operator_of, rank_or, RuleToken, a_word, an_operator, accepts, leads, Part, ExpressionPart, OperatorsPart, TokenPart, LevelPart, Rule, rules_of, expression_rules, relation_rules, or_rules, operator_rules, enters, starts, followed, opened_by, levels, may_end, step, Refuses, Whole, TooFar, Fate, onward, fate, If, NotWord, is_some}
use Rattle.kahn_streams.specs.declared.tree.Operator.TheVariants as operator
use Rattle.kahn_syntax.proofs.Unique.{Ends, is_operator}

le_test : (a b : ℕ) → a ≤ b → nat_le a b ≡ true
le_test a b h = grind (arith, nat_tests)

same_test : (a b : ℕ) → a ≡ b → (a == b) ≡ true
same_test a b h = grind (arith, nat_tests)

other_test : (a b : ℕ) → a ≢ b → (a == b) ≡ false
other_test a b h = grind (arith, nat_tests)

-- the terminal leads on
pub go : (m : ℕ) (s t : List Part) (k : Terminal) (ks : List Terminal) → step s k ≡ Some t → levels t ≤ m → fate m s (k ∷ ks) ≡ fate m t ks
go m s t k ks e h =
    ap (onward m (may_end s) (length ks + 1) (λ (u : List Part). fate m u ks)) e
    ∙ ap (λ b. cond b (fate m t ks) (TooFar (length ks + 1))) (le_test (levels t) m h)

pub skip_level : (m : ℕ) (s : List Part) (r : List Terminal) → fate m (LevelPart ∷ s) r ≡ fate m s r
skip_level m s [] = refl
skip_level m s (k ∷ r) = refl

none_of : (rs : List Rule) (k : Terminal) → is_some (enters rs k) ≡ false → enters rs k ≡ None
none_of rs k h = by (enters rs k) h
  where
    by : (o : Option (List Part)) → is_some o ≡ false → o ≡ None
    by None e = refl
    by (Some ps) e = absurd (true≢false e)

-- one rule alone
pub starts_one : (t : RuleToken) (ps : List Part) (r : List Terminal) (b : Bool) → leads t r ≡ b → starts ((t, ps) ∷ []) r ≡ b
starts_one t ps [] b h = h
starts_one t ps (k ∷ r) b h = grind (arith, nat_tests, h)

pub starts_followed : (rs : List Rule) (after : List Part) (r : List Terminal) → starts (followed after rs) r ≡ starts rs r
starts_followed rs after [] = refl
starts_followed [] after (k ∷ r) = refl
starts_followed ((t, ps) ∷ rest) after (k ∷ r) = grind (arith, nat_tests, starts_followed rest after (k ∷ r))

-- the fate where a part with these rules is open above others, of which nothing may be there or not
abbrev pub runs : ℕ → Bool → List Rule → List Part → List Terminal → Fate
runs m n rs s [] = cond (cond n (may_end s) false) Whole (Refuses false 0)
runs m n rs s (k ∷ r) = onward m (cond n (may_end s) false) (length r + 1) (λ (u : List Part). fate m u r) (opened_by s (cond n (step s k) None) (enters rs k))

pub part : (p : Part) (m : ℕ) (s : List Part) (r : List Terminal) → fate m (p ∷ s) r ≡ runs m (rules_of p).0 (rules_of p).1 s r
part p m s [] = refl
part p m s (k ∷ r) = refl

-- nothing of it is there
pub skips : (rs : List Rule) (m : ℕ) (s : List Part) (r : List Terminal) → starts rs r ≡ false → runs m true rs s r ≡ fate m s r
skips rs m s [] h = refl
skips rs m s (k ∷ r) h = ap (λ o. onward m (may_end s) (length r + 1) (λ (u : List Part). fate m u r) (opened_by s (step s k) o)) (none_of rs k h)

-- it must be there, and isn't
pub refuses : (rs : List Rule) (m : ℕ) (s : List Part) (r : List Terminal) → starts rs r ≡ false → runs m false rs s r ≡ Refuses false (length r)
refuses rs m s [] h = refl
refuses rs m s (k ∷ r) h =
    ap (λ o. onward m false (length r + 1) (λ (u : List Part). fate m u r) (opened_by s None o)) (none_of rs k h) ∙ ap (Refuses false) (omega arith)

-- the first rules aren't those that have the terminal
pub passes : (front rs : List Rule) (m : ℕ) (n : Bool) (s : List Part) (r : List Terminal) → starts front r ≡ false → runs m n (front ++ rs) s r ≡ runs m n rs s r
passes front rs m n s [] h = refl
passes front rs m n s (k ∷ r) h =
    ap (λ o. onward m (cond n (may_end s) false) (length r + 1) (λ (u : List Part). fate m u r) (opened_by s (cond n (step s k) None) o)) (later front h)
  where
    later : (f : List Rule) → is_some (enters f k) ≡ false → enters (f ++ rs) k ≡ enters rs k
    later [] e = refl
    later ((t, ps) ∷ f) e = grind (arith, nat_tests, e, later f)

pub passes_one : (t : RuleToken) (ps : List Part) (rs : List Rule) (m : ℕ) (s : List Part) (r : List Terminal) → leads t r ≡ false → runs m false ((t, ps) ∷ rs) s r ≡ runs m false rs s r
passes_one t ps rs m s r h = passes ((t, ps) ∷ []) rs m false s r (starts_one t ps r false h)

-- rules that are followed by parts do what they do above these
followed_opens : (rs : List Rule) (after s : List Part) (k : Terminal) (o : Option (List Part)) → opened_by s o (enters (followed after rs) k) ≡ opened_by (after ++ s) o (enters rs k)
followed_opens [] after s k o = refl
followed_opens ((t, ps) ∷ rest) after s k o = grind (arith, nat_tests, followed_opens rest after s k o, append_assoc ps after s)

pub follows : (rs : List Rule) (after : List Part) (m : ℕ) (s : List Part) (r : List Terminal) → runs m false (followed after rs) s r ≡ runs m false rs (after ++ s) r
follows rs after m s [] = refl
follows rs after m s (k ∷ r) = ap (onward m false (length r + 1) (λ (u : List Part). fate m u r)) (followed_opens rs after s k None)

pub follows_some : (rs : List Rule) (after : List Part) (m : ℕ) (n : Bool) (s : List Part) (r : List Terminal) → starts rs r ≡ true → runs m n (followed after rs) s r ≡ runs m false rs (after ++ s) r
follows_some rs after m n s [] h = absurd (true≢false (sym h))
follows_some rs after m n s (k ∷ r) h =
    ap (onward m (cond n (may_end s) false) (length r + 1) (λ (u : List Part). fate m u r)) (followed_opens rs after s k (cond n (step s k) None)) ∙ by (enters rs k) h
  where
    by : (o : Option (List Part)) → is_some o ≡ true → onward m (cond n (may_end s) false) (length r + 1) (λ (u : List Part). fate m u r) (opened_by (after ++ s) (cond n (step s k) None) o)
        ≡ onward m false (length r + 1) (λ (u : List Part). fate m u r) (opened_by (after ++ s) None o)
    by None e = absurd (true≢false (sym e))
    by (Some ps) e = refl

-- a tail that doesn't go on
pub skip_tail : (p : Part) (t : RuleToken) (ps : List Part) (m : ℕ) (s : List Part) (r : List Terminal) → rules_of p ≡ (true, (t, ps) ∷ []) → leads t r ≡ false → fate m (p ∷ s) r ≡ fate m s r
skip_tail p t ps m s r e h = part p m s r ∙ (ap (λ x. runs m x.0 x.1 s r) e ∙ skips ((t, ps) ∷ []) m s r (starts_one t ps r false h))

pub take_token : (t : RuleToken) (m : ℕ) (s : List Part) (k : Terminal) (r : List Terminal) → accepts t k ≡ true → levels s ≤ m →
    fate m (TokenPart t ∷ s) (k ∷ r) ≡ fate m s r
take_token t m s k r h b = go m (TokenPart t ∷ s) s k r (ap (λ b. opened_by s None (cond b (Some []) None)) h) b

-- Expressions of a level that has operators
abbrev pub IsChain : Rung → Type 0
IsChain whole = ⊥
IsChain denials = ⊥
IsChain factors = ⊥
IsChain _ = Unit {0}

pub open_chain : (l : Rung) (m : ℕ) (s : List Part) (ks : List Terminal) → IsChain l →
    fate m (ExpressionPart l ∷ s) ks ≡ fate m (ExpressionPart (tighter l) ∷ OperatorsPart l ∷ s) ks
open_chain whole m s ks h = absurd h
open_chain denials m s ks h = absurd h
open_chain factors m s ks h = absurd h
open_chain l m s ks h =
    part (ExpressionPart l) m s ks ∙ (follows (expression_rules (tighter l)) (OperatorsPart l ∷ []) m s ks ∙ sym (part (ExpressionPart (tighter l)) m (OperatorsPart l ∷ s) ks))

-- what doesn't begin with `if`
pub open_whole : (m : ℕ) (s : List Part) (ks : List Terminal) → leads (a_word If) ks ≡ false → fate m (ExpressionPart whole ∷ s) ks ≡ fate m (ExpressionPart ors ∷ s) ks
open_whole m s ks h = part (ExpressionPart whole) m s ks ∙ (passes_one (a_word If) _ or_rules m s ks h ∙ sym (part (ExpressionPart ors) m s ks))

-- what doesn't begin with `not`
pub open_denial : (m : ℕ) (s : List Part) (ks : List Terminal) → leads (a_word NotWord) ks ≡ false → fate m (ExpressionPart denials ∷ s) ks ≡ fate m (ExpressionPart relations ∷ s) ks
open_denial m s ks h =
    part (ExpressionPart denials) m s ks ∙ (passes_one (a_word NotWord) _ relation_rules m s ks h ∙ sym (part (ExpressionPart relations) m s ks))

ends_leads : (o : Operator) (r : List Terminal) → Ends (rank o) r → leads (an_operator o) r ≡ false
ends_leads o [] h = refl
ends_leads o (k ∷ r) h = other_test (rank_or (operator_of k)) (rank o) (λ i. omega (arith, h, i))

pub skip_operators : (l : Rung) (m : ℕ) (s : List Part) (r : List Terminal) → IsChain l → Ends (at l) r → fate m (OperatorsPart l ∷ s) r ≡ fate m s r
skip_operators ors m s r c h = skip_tail (OperatorsPart ors) (an_operator operator.Or) _ m s r refl (ends_leads operator.Or r h)
skip_operators ands m s r c h = skip_tail (OperatorsPart ands) (an_operator operator.And) _ m s r refl (ends_leads operator.And r h)
skip_operators relations m s r c h = skip_tail (OperatorsPart relations) (an_operator operator.Equal) _ m s r refl (ends_leads operator.Equal r h)
skip_operators sums m s r c h = skip_tail (OperatorsPart sums) (an_operator operator.Add) _ m s r refl (ends_leads operator.Add r h)
skip_operators terms m s r c h = skip_tail (OperatorsPart terms) (an_operator operator.Multiply) _ m s r refl (ends_leads operator.Multiply r h)
skip_operators _ m s r c h = absurd c

-- an operator of a level
take : (l : Rung) (n : Operator) (ps : List Part) (m : ℕ) (s : List Part) (o : Operator) (r : List Terminal) → operator_rules l ≡ (an_operator n, ps) ∷ [] → rank o ≡ rank n → levels (ps ++ s) ≤ m →
    fate m (OperatorsPart l ∷ s) (operator_terminal o ∷ r) ≡ fate m (ps ++ s) r
take l n ps m s o r e h b =
    go m (OperatorsPart l ∷ s) (ps ++ s) (operator_terminal o) r
    (ap (λ x. opened_by s (step s (operator_terminal o)) (enters x (operator_terminal o))) e
    ∙ ap (λ b. opened_by s (step s (operator_terminal o)) (cond b (Some ps) None)) (ap (λ p. rank_or p == rank n) (is_operator o) ∙ same_test (rank o) (rank n) h)) b

pub take_comparison : (m : ℕ) (s : List Part) (o : Operator) (r : List Terminal) → rank o ≡ 4 → levels s ≤ m →
    fate m (OperatorsPart relations ∷ s) (operator_terminal o ∷ r) ≡ fate m (ExpressionPart sums ∷ s) r
take_comparison m s o r h b = take relations operator.Equal (ExpressionPart sums ∷ []) m s o r refl h b

-- levels of which operators may follow one another
abbrev pub IsOther : Rung → Type 0
IsOther relations = ⊥
IsOther l = IsChain l

pub take_operator : (l : Rung) (m : ℕ) (s : List Part) (o : Operator) (r : List Terminal) → IsOther l → rank o ≡ at l → levels s ≤ m →
    fate m (OperatorsPart l ∷ s) (operator_terminal o ∷ r) ≡ fate m (ExpressionPart (tighter l) ∷ OperatorsPart l ∷ s) r
take_operator ors m s o r c h b = take ors operator.Or _ m s o r refl h b
take_operator ands m s o r c h b = take ands operator.And _ m s o r refl h b
take_operator sums m s o r c h b = take sums operator.Add _ m s o r refl h b
take_operator terms m s o r c h b = take terms operator.Multiply _ m s o r refl h b
take_operator _ m s o r c h b = absurd c
