-- A list that a tree spells is read whole: expressions.
use Rattle.kahn_syntax.proofs.Common.{◌≡◌, ◌≢◌, ℕ, zero, suc, ◌+◌, ◌*◌, ◌≤◌, ◌<◌, List, ◌∷◌, true, false, refl, sym, ap, ◌∙◌, subst, arith, Terminal, word, sign, name, ExpressionTree, number, truth, variable, wait, negation, denial, bracket, level, conditional, OperandTrees, no_operand, operand, expression_words, operands_words, expression_nesting, operands_nesting, Formed, FormedOperands, FitsLevel, Rung, whole, ors, denials, relations, sums, factors, at, tighter, Part, ExpressionPart, OperatorsPart, TokenPart, LevelPart, levels, fate, a_sign, a_name, a_word, Close, Else, False, If, Minus, NotWord, Open, Then, True, Wait}
use Rattle.kahn_syntax.specs.Grammar as terminal
use Rattle.kahn_syntax.proofs.Levels.{joined_words}
use Rattle.kahn_syntax.proofs.Unique.{Ends, ends_more, ends_operand, size, sizes, above, stop, split, IsNoneOrOne, Whole, is_if, is_tighter, Denial, is_not, is_relation, level_low, no_if, no_not}
use Rattle.kahn_syntax.proofs.Unique as unique
use Rattle.kahn_syntax.proofs.Steps.{go, skip_level, take_token, IsChain, IsOther, open_chain, open_whole, open_denial, skip_operators, take_comparison, take_operator}

-- smaller trees are read whole
abbrev Known : ℕ → Type 0
Known k = (l : Rung) (t : ExpressionTree) (m : ℕ) (s : List Part) (r : List Terminal) → 8 * size t + above l < k → FitsLevel (at l) t → Ends (stop l) r →
    levels s + expression_nesting t ≤ m → fate m (ExpressionPart l ∷ s) (expression_words t r) ≡ fate m s r

record Facts (l : Rung) : Type 0 where
  stops : stop l ≡ at l
  next : at (tighter l) ≡ at l + 1
  next_stops : stop (tighter l) ≡ at l + 1
  next_above : above (tighter l) + 1 ≡ above l
  low : above l < 8
  some : 0 < at l
  no_three : at l ≢ 3
  most : at l ≤ 6

facts : (l : Rung) → IsChain l → Facts l
facts whole h = absurd h
facts denials h = absurd h
facts factors h = absurd h
facts _ h = record { stops = refl; next = refl; next_stops = refl; next_above = refl; low = omega arith; some = omega arith; no_three = λ e. omega arith; most = omega arith }

is_chain : (l : Rung) → IsOther l → IsChain l
is_chain relations h = absurd h
is_chain _ h = h

whole_operands : (k : ℕ) (l : Rung) → Known k → IsOther l → (os : OperandTrees) (m : ℕ) (s : List Part) (r : List Terminal) → 8 * sizes os ≤ k →
    FormedOperands (at l) os → Ends (at l) r → levels s + operands_nesting os ≤ m → fate m (OperatorsPart l ∷ s) (operands_words os r) ≡ fate m s r
whole_operands k l known c no_operand m s r z f e n = skip_operators l m s r (is_chain l c) e
whole_operands k l known c (operand o t os) m s r z f e n =
    let h = facts l (is_chain l c) in
    take_operator l m s o (expression_words t (operands_words os r)) c f.0 (omega (arith, n))
    ∙ (known (tighter l) t m (OperatorsPart l ∷ s) (operands_words os r) (omega (arith, z, h.next_above, h.low)) (omega (arith, h.next, f.1), f.2)
    (subst (λ j. Ends j (operands_words os r)) (sym h.next_stops) (ends_operand (at l) os r f.3 e)) (omega (arith, n))
    ∙ whole_operands k l known c os m s r (omega (arith, z)) f.3 e (omega (arith, n)))

whole_comparison : (k : ℕ) → Known k → (os : OperandTrees) (m : ℕ) (s : List Part) (r : List Terminal) → 8 * sizes os ≤ k →
    FormedOperands 4 os → IsNoneOrOne os → Ends 4 r → levels s + operands_nesting os ≤ m → fate m (OperatorsPart relations ∷ s) (operands_words os r) ≡ fate m s r
whole_comparison k known no_operand m s r z f c e n = skip_operators relations m s r tt e
whole_comparison k known (operand o t (operand p u os)) m s r z f c e n = absurd c
whole_comparison k known (operand o t no_operand) m s r z f c e n =
    take_comparison m s o (expression_words t r) f.0 (omega (arith, n))
    ∙ known sums t m s r (omega (arith, z)) (omega (arith, f.1), f.2) (ends_more 4 5 r (omega arith) e) (omega (arith, n))

whole_rest : (k : ℕ) (l : Rung) → Known k → IsChain l → (os : OperandTrees) (m : ℕ) (s : List Part) (r : List Terminal) → 8 * sizes os ≤ k →
    FormedOperands (at l) os → (at l ≡ 4 → IsNoneOrOne os) → Ends (at l) r → levels s + operands_nesting os ≤ m → fate m (OperatorsPart l ∷ s) (operands_words os r) ≡ fate m s r
whole_rest k whole known c os m s r z f d e n = absurd c
whole_rest k denials known c os m s r z f d e n = absurd c
whole_rest k factors known c os m s r z f d e n = absurd c
whole_rest k relations known c os m s r z f d e n = whole_comparison k known os m s r z f (d refl) e n
whole_rest k l known c os m s r z f d e n = whole_operands k l known tt os m s r z f e n

whole_chain : (k : ℕ) (l : Rung) → Known k → IsChain l → (t : ExpressionTree) (m : ℕ) (s : List Part) (r : List Terminal) → 8 * size t + above l < k + 1 →
    FitsLevel (at l) t → Ends (stop l) r → levels s + expression_nesting t ≤ m → fate m (ExpressionPart l ∷ s) (expression_words t r) ≡ fate m s r
whole_chain k l known c t m s r z f e n =
    let h = facts l c in
    let x : Ends (at l) r = subst (λ j. Ends j r) h.stops e in
    let i = split (at l) t h.some h.no_three h.most f in
    open_chain l m s (expression_words t r) c
    ∙ (ap (λ y. fate m (ExpressionPart (tighter l) ∷ OperatorsPart l ∷ s) (expression_words y r)) i.is
    ∙ (ap (fate m (ExpressionPart (tighter l) ∷ OperatorsPart l ∷ s)) (joined_words i.first i.rest r)
    ∙ (known (tighter l) i.first m (OperatorsPart l ∷ s) (operands_words i.rest r) (omega (arith, z, i.small, h.next_above, h.low)) (omega (arith, h.next, i.fits.0), i.fits.1)
    (subst (λ j. Ends j (operands_words i.rest r)) (sym h.next_stops) (ends_operand (at l) i.rest r i.formed x)) (omega (arith, n, i.nests))
    ∙ whole_rest k l known c i.rest m s r (omega (arith, z, i.small)) i.formed i.one x (omega (arith, n, i.nest)))))

whole_factor : (k : ℕ) → Known k → (t : ExpressionTree) (m : ℕ) (s : List Part) (r : List Terminal) → 8 * size t + 0 < k + 1 → FitsLevel 7 t → Ends 7 r →
    levels s + expression_nesting t ≤ m → fate m (ExpressionPart factors ∷ s) (expression_words t r) ≡ fate m s r
whole_factor k known (number z) m s r b f e n = go m (ExpressionPart factors ∷ s) s (terminal.numeral z) r refl (omega (arith, n))
whole_factor k known (truth true) m s r b f e n = go m (ExpressionPart factors ∷ s) s (word True) r refl (omega (arith, n))
whole_factor k known (truth false) m s r b f e n = go m (ExpressionPart factors ∷ s) s (word False) r refl (omega (arith, n))
whole_factor k known (variable x) m s r b f e n = go m (ExpressionPart factors ∷ s) s (name x) r refl (omega (arith, n))
whole_factor k known (wait x) m s r b f e n =
    go m (ExpressionPart factors ∷ s) (TokenPart (a_sign Open) ∷ TokenPart a_name ∷ TokenPart (a_sign Close) ∷ s) (word Wait) (sign Open ∷ name x ∷ sign Close ∷ r) refl (omega (arith, n))
    ∙ (take_token (a_sign Open) m (TokenPart a_name ∷ TokenPart (a_sign Close) ∷ s) (sign Open) (name x ∷ sign Close ∷ r) refl (omega (arith, n))
    ∙ (take_token a_name m (TokenPart (a_sign Close) ∷ s) (name x) (sign Close ∷ r) refl (omega (arith, n))
    ∙ take_token (a_sign Close) m s (sign Close) r refl (omega (arith, n))))
whole_factor k known (negation t) m s r b f e n =
    go m (ExpressionPart factors ∷ s) (ExpressionPart factors ∷ LevelPart ∷ s) (sign Minus) (expression_words t r) refl (omega (arith, n))
    ∙ (known factors t m (LevelPart ∷ s) r (omega (arith, b)) f.1 e (omega (arith, n)) ∙ skip_level m s r)
whole_factor k known (bracket t) m s r b f e n =
    go m (ExpressionPart factors ∷ s) (ExpressionPart whole ∷ TokenPart (a_sign Close) ∷ LevelPart ∷ s) (sign Open) (expression_words t (sign Close ∷ r)) refl (omega (arith, n))
    ∙ (known whole t m (TokenPart (a_sign Close) ∷ LevelPart ∷ s) (sign Close ∷ r) (omega (arith, b)) (omega arith, f.1) (omega arith) (omega (arith, n))
    ∙ (take_token (a_sign Close) m (LevelPart ∷ s) (sign Close) r refl (omega (arith, n)) ∙ skip_level m s r))
whole_factor k known (denial t) m s r b f e n = absurd (omega (arith, f.0))
whole_factor k known (level t os) m s r b f e n = absurd (level_low t os f)
whole_factor k known (conditional a c d) m s r b f e n = absurd (omega (arith, f.0))

whole_denial : (k : ℕ) → Known k → (t : ExpressionTree) (m : ℕ) (s : List Part) (r : List Terminal) → 8 * size t + 4 < k + 1 → FitsLevel 3 t → Ends 3 r →
    levels s + expression_nesting t ≤ m → fate m (ExpressionPart denials ∷ s) (expression_words t r) ≡ fate m s r
whole_denial k known t m s r b f e n = cases (unique.open_denial t f)
  where
    cases : Denial t → fate m (ExpressionPart denials ∷ s) (expression_words t r) ≡ fate m s r
    cases (is_relation i) =
        open_denial m s (expression_words t r) (no_not t r i) ∙ known relations t m s r (omega (arith, b)) i (ends_more 3 4 r (omega arith) e) n
    cases (is_not a p fa z) =
        let small : expression_nesting a + 1 ≡ expression_nesting t = ap expression_nesting (sym p) in
        ap (λ x. fate m (ExpressionPart denials ∷ s) (expression_words x r)) p
        ∙ (go m (ExpressionPart denials ∷ s) (ExpressionPart denials ∷ LevelPart ∷ s) (word NotWord) (expression_words a r) refl (omega (arith, n, small))
        ∙ (known denials a m (LevelPart ∷ s) r (omega (arith, b, z)) fa e (omega (arith, n, small)) ∙ skip_level m s r))

whole_whole : (k : ℕ) → Known k → (t : ExpressionTree) (m : ℕ) (s : List Part) (r : List Terminal) → 8 * size t + 7 < k + 1 → FitsLevel 0 t → Ends 1 r →
    levels s + expression_nesting t ≤ m → fate m (ExpressionPart whole ∷ s) (expression_words t r) ≡ fate m s r
whole_whole k known t m s r b f e n = cases (unique.open_whole t f)
  where
    cases : Whole t → fate m (ExpressionPart whole ∷ s) (expression_words t r) ≡ fate m s r
    cases (is_tighter i) = open_whole m s (expression_words t r) (no_if t r i) ∙ known ors t m s r (omega (arith, b)) i e n
    cases (is_if x y z p fx fy fz small) =
        let nests : expression_nesting (conditional x y z) ≡ expression_nesting t = ap expression_nesting (sym p) in
        ap (λ w. fate m (ExpressionPart whole ∷ s) (expression_words w r)) p
        ∙ (go m (ExpressionPart whole ∷ s) (ExpressionPart whole ∷ TokenPart (a_word Then) ∷ ExpressionPart whole ∷ TokenPart (a_word Else) ∷ ExpressionPart whole ∷ LevelPart ∷ s)
        (word If) (expression_words x (word Then ∷ expression_words y (word Else ∷ expression_words z r))) refl (omega (arith, n, nests))
        ∙ (known whole x m (TokenPart (a_word Then) ∷ ExpressionPart whole ∷ TokenPart (a_word Else) ∷ ExpressionPart whole ∷ LevelPart ∷ s)
        (word Then ∷ expression_words y (word Else ∷ expression_words z r)) (omega (arith, b, small)) (omega arith, fx) (omega arith) (omega (arith, n, nests))
        ∙ (take_token (a_word Then) m (ExpressionPart whole ∷ TokenPart (a_word Else) ∷ ExpressionPart whole ∷ LevelPart ∷ s) (word Then)
        (expression_words y (word Else ∷ expression_words z r)) refl (omega (arith, n, nests))
        ∙ (known whole y m (TokenPart (a_word Else) ∷ ExpressionPart whole ∷ LevelPart ∷ s) (word Else ∷ expression_words z r) (omega (arith, b, small)) (omega arith, fy) (omega arith) (omega (arith, n, nests))
        ∙ (take_token (a_word Else) m (ExpressionPart whole ∷ LevelPart ∷ s) (word Else) (expression_words z r) refl (omega (arith, n, nests))
        ∙ (known whole z m (LevelPart ∷ s) r (omega (arith, b, small)) (omega arith, fz) e (omega (arith, n, nests)) ∙ skip_level m s r))))))

further : (k : ℕ) → Known k → Known (k + 1)
further k known whole t m s r b f e n = whole_whole k known t m s r b f e n
further k known denials t m s r b f e n = whole_denial k known t m s r b f e n
further k known factors t m s r b f e n = whole_factor k known t m s r b f e n
further k known l t m s r b f e n = whole_chain k l known tt t m s r b f e n

known_all : (k : ℕ) → Known k
known_all zero = λ l t m s r b f e n. absurd (omega (arith, b))
known_all (suc k) = subst Known (omega arith) (further k (known_all k))

-- An expression that the list begins with is read, where no operator follows it.
pub whole_expression : (t : ExpressionTree) (m : ℕ) (s : List Part) (r : List Terminal) → Formed t → Ends 1 r → levels s + expression_nesting t ≤ m →
    fate m (ExpressionPart whole ∷ s) (expression_words t r) ≡ fate m s r
whole_expression t m s r f e n = known_all (8 * size t + 8) whole t m s r (omega arith) (omega arith, f) e n
