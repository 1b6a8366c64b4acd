-- No two trees spell one list: expressions.
use Rattle.kahn_syntax.proofs.Common.{◌-◌, tighter, ◌≡◌, ℕ, zero, suc, ◌+◌, ◌*◌, ◌≤◌, ◌<◌, ◌≢◌, List, [], ◌∷◌, true, false, Some, ◌⊎◌, ⊎_elim, refl, sym, ap, ◌∙◌, subst, arith, nat_tests, Operator, Terminal, word, sign, ExpressionTree, number, truth, variable, wait, negation, denial, bracket, level, conditional, OperandTrees, no_operand, operand, operator_terminal, expression_words, operands_words, expression_nesting, operands_nesting, rank, IsOneOperand, Formed, FormedOperands, FitsLevel, level_or_first, operator_of, rank_or, leads, a_word, true≢false, Rung, whole, ors, denials, relations, factors, at, Close, Else, If, NotWord, Then}
use Rattle.kahn_streams.specs.declared.tree.Operator.TheVariants as operator
use Rattle.kahn_syntax.proofs.Levels.{joined_words}

-- the list doesn't go on with an operator of this level or of a tighter one
abbrev pub Ends : ℕ → List Terminal → Type 0
Ends n [] = Unit {0}
Ends n (k ∷ r) = rank_or (operator_of k) < n

pub is_operator : (o : Operator) → operator_of (operator_terminal o) ≡ Some o
is_operator operator.Or = refl
is_operator _ = refl

pub rank_within : (o : Operator) → (rank o ≤ 6) × (0 < rank o) × (rank o ≢ 3)
rank_within operator.Or = (omega arith, omega arith, λ e. omega arith)
rank_within _ = (omega arith, omega arith, λ e. omega arith)

some_same : (o p : Operator) → Some o ≡ Some p → o ≡ p
some_same o p e = cc

head_is : (k l : Terminal) (r q : List Terminal) → k ∷ r ≡ l ∷ q → k ≡ l
head_is k l r q e = cc

pub tail_is : (k l : Terminal) (r q : List Terminal) → k ∷ r ≡ l ∷ q → r ≡ q
tail_is k l r q e = cc

operator_same : (o p : Operator) (r q : List Terminal) → operator_terminal o ∷ r ≡ operator_terminal p ∷ q → o ≡ p
operator_same o p r q e = some_same o p (sym (is_operator o) ∙ ap operator_of (head_is _ _ r q e) ∙ is_operator p)

pub ends_more : (n m : ℕ) (r : List Terminal) → n ≤ m → Ends n r → Ends m r
ends_more n m [] h e = tt
ends_more n m (k ∷ r) h e = omega (arith, h, e)

pub ends_operand : (n : ℕ) (os : OperandTrees) (r : List Terminal) → FormedOperands n os → Ends n r → Ends (n + 1) (operands_words os r)
ends_operand n no_operand r h e = ends_more n (n + 1) r (omega arith) e
ends_operand n (operand o f os) r h e = omega (arith, h.0, ap rank_or (is_operator o))

no_operator : (n : ℕ) (o : Operator) (x r : List Terminal) → rank o ≡ n → Ends n r → r ≡ operator_terminal o ∷ x → ⊥
no_operator n o x r h e p = let f : Ends n (operator_terminal o ∷ x) = subst (Ends n) p e in omega (arith, h, f, ap rank_or (is_operator o))

abbrev mutual
  pub size : ExpressionTree → ℕ
  size (negation e) = size e + 1
  size (denial e) = size e + 1
  size (bracket e) = size e + 1
  size (level e os) = size e + sizes os + 1
  size (conditional t a b) = size t + size a + size b + 1
  size _ = 1

  pub sizes : OperandTrees → ℕ
  sizes no_operand = 0
  sizes (operand o e os) = size e + sizes os + 1

abbrev pub above : Rung → ℕ
above l = 7 - at l

-- the tightest operator that ends what stands there
abbrev pub stop : Rung → ℕ
stop whole = 1
stop l = at l

abbrev Same : ExpressionTree → ExpressionTree → List Terminal → List Terminal → Type 0
Same t u r q = (t ≡ u) × (r ≡ q)

-- smaller trees that spell one list are one
abbrev Known : ℕ → Type 0
Known k = (l : Rung) (t u : ExpressionTree) (r q : List Terminal) → 8 * size t + above l < k → FitsLevel (at l) t → FitsLevel (at l) u → Ends (stop l) r → Ends (stop l) q →
    expression_words t r ≡ expression_words u q → Same t u r q

abbrev pub IsNoneOrOne : OperandTrees → Type 0
IsNoneOrOne no_operand = Unit {0}
IsNoneOrOne (operand o e os) = IsOneOperand (operand o e os)

-- a tree of a level as its first operand and the others
pub record Split (n : ℕ) (t : ExpressionTree) : Type 0 where
  pub first : ExpressionTree
  pub rest : OperandTrees
  pub is : t ≡ level_or_first first rest
  pub fits : FitsLevel (n + 1) first
  pub formed : FormedOperands n rest
  pub small : size first + sizes rest ≤ size t
  pub nests : expression_nesting first ≤ expression_nesting t
  pub nest : operands_nesting rest ≤ expression_nesting t
  -- comparisons don't follow one another
  pub one : n ≡ 4 → IsNoneOrOne rest

alone : (n : ℕ) (t : ExpressionTree) → FitsLevel (n + 1) t → Split n t
alone n t f = record { first = t; rest = no_operand; is = refl; fits = f; formed = tt; small = omega arith; nests = omega arith; nest = omega arith; one = λ e. tt }

pub le_or : (a b : ℕ) → (a ≤ b) ⊎ (b < a)
le_or a b = grind (arith, nat_tests)

pub split : (n : ℕ) (t : ExpressionTree) → 0 < n → n ≢ 3 → n ≤ 6 → FitsLevel n t → Split n t
split n (conditional x y z) a b c f = absurd (omega (arith, f.0))
split n (level e no_operand) a b c f = absurd (omega (arith, f.0))
split n (level e (operand o g os)) a b c f =
    ⊎_elim (λ h. alone n (level e (operand o g os)) (h, f.1))
    (λ h. let same : rank o ≡ n = omega (arith, h, f.0) in
    record {
      first = e;
      rest = operand o g os;
      is = refl;
      fits = (omega (arith, f.1.0), f.1.1);
      formed = subst (λ j. FormedOperands j (operand o g os)) same f.1.3;
      small = omega arith;
      nests = omega arith;
      nest = omega arith;
      one = λ e. f.1.4 (same ∙ e);
    })
    (le_or (n + 1) (rank o))
split n t a b c f = alone n t (omega (arith, f.0), f.1)

same_operands : (k n : ℕ) (l : Rung) → Known k → at l ≡ n + 1 → stop l ≡ n + 1 → above l ≤ 7 → (os ps : OperandTrees) (r q : List Terminal) → 8 * sizes os ≤ k →
    FormedOperands n os → FormedOperands n ps → Ends n r → Ends n q → operands_words os r ≡ operands_words ps q → (os ≡ ps) × (r ≡ q)
same_operands k n l known a s v no_operand no_operand r q b f g x y e = (refl, e)
same_operands k n l known a s v no_operand (operand o t ps) r q b f g x y e = absurd (no_operator n o _ r g.0 x e)
same_operands k n l known a s v (operand o t os) no_operand r q b f g x y e = absurd (no_operator n o _ q f.0 y (sym e))
same_operands k n l known a s v (operand o t os) (operand p u ps) r q b f g x y e =
    let w = operator_same o p _ _ e in
    let z = known l t u (operands_words os r) (operands_words ps q) (omega arith) (omega (arith, a, f.1), f.2) (omega (arith, a, g.1), g.2)
    (subst (λ j. Ends j (operands_words os r)) (sym s) (ends_operand n os r f.3 x)) (subst (λ j. Ends j (operands_words ps q)) (sym s) (ends_operand n ps q g.3 y)) (tail_is _ _ _ _ e) in
    let more = same_operands k n l known a s v os ps r q (omega arith) f.3 g.3 x y z.1 in (cc, more.1)

chain : (k n : ℕ) (l : Rung) → Known k → at l ≡ n + 1 → stop l ≡ n + 1 → above l ≤ 7 → 0 < n → n ≢ 3 → n ≤ 6 → (t u : ExpressionTree) (r q : List Terminal) →
    8 * size t + above l < k → FitsLevel n t → FitsLevel n u → Ends n r → Ends n q → expression_words t r ≡ expression_words u q → Same t u r q
chain k n l known a s v c d b t u r q small f g x y e =
    let i = split n t c d b f in
    let j = split n u c d b g in
    let both : expression_words i.first (operands_words i.rest r) ≡ expression_words j.first (operands_words j.rest q) =
    sym (joined_words i.first i.rest r) ∙ ap (λ z. expression_words z r) (sym i.is) ∙ e ∙ ap (λ z. expression_words z q) j.is ∙ joined_words j.first j.rest q in
    let z = known l i.first j.first (operands_words i.rest r) (operands_words j.rest q) (omega (arith, i.small)) (omega (arith, a, i.fits.0), i.fits.1) (omega (arith, a, j.fits.0), j.fits.1)
    (subst (λ m. Ends m (operands_words i.rest r)) (sym s) (ends_operand n i.rest r i.formed x)) (subst (λ m. Ends m (operands_words j.rest q)) (sym s) (ends_operand n j.rest q j.formed y)) both in
    let w = same_operands k n l known a s v i.rest j.rest r q (omega (arith, i.small)) i.formed j.formed x y z.1 in
    (i.is ∙ ap (λ m. level_or_first m i.rest) z.0 ∙ ap (level_or_first j.first) w.0 ∙ sym j.is, w.1)

-- nothing but a conditional expression begins with `if`
pub no_if : (t : ExpressionTree) (r : List Terminal) → FitsLevel 1 t → leads (a_word If) (expression_words t r) ≡ false
no_if (conditional a b c) r f = absurd (omega (arith, f.0))
no_if (level t os) r f = no_if t (operands_words os r) (omega (arith, f.0, f.1.0), f.1.1)
no_if (truth true) r f = refl
no_if _ r f = refl

-- nothing tighter than a denial begins with `not`
pub no_not : (t : ExpressionTree) (r : List Terminal) → FitsLevel 4 t → leads (a_word NotWord) (expression_words t r) ≡ false
no_not (denial t) r f = absurd (omega (arith, f.0))
no_not (conditional a b c) r f = absurd (omega (arith, f.0))
no_not (level t os) r f = no_not t (operands_words os r) (omega (arith, f.0, f.1.0), f.1.1)
no_not (truth true) r f = refl
no_not _ r f = refl

-- a conditional expression, or one of a tighter level
pub data Whole (t : ExpressionTree) : Type 0 where
  is_if : (a b c : ExpressionTree) → t ≡ conditional a b c → Formed a → Formed b → Formed c → size a + size b + size c + 1 ≤ size t → Whole t
  is_tighter : FitsLevel 1 t → Whole t

pub open_whole : (t : ExpressionTree) → FitsLevel 0 t → Whole t
open_whole (level t os) f = is_tighter (omega (arith, f.1.2), f.1)
open_whole (conditional a b c) f = is_if a b c refl f.1.0 f.1.1 f.1.2 (omega arith)
open_whole _ f = is_tighter (omega arith, f.1)

pub data Denial (t : ExpressionTree) : Type 0 where
  is_not : (a : ExpressionTree) → t ≡ denial a → FitsLevel 3 a → size a + 1 ≤ size t → Denial t
  is_relation : FitsLevel 4 t → Denial t

open_level : (t : ExpressionTree) (os : OperandTrees) → FitsLevel 3 (level t os) → Denial (level t os)
open_level t no_operand f = absurd (omega (arith, f.0))
open_level t (operand o e os) f = is_relation (strict (rank o) f.0 (rank_within o).2, f.1)
  where
    strict : (n : ℕ) → 3 ≤ n → n ≢ 3 → 4 ≤ n
    strict n a b = omega (arith, a, b)

pub open_denial : (t : ExpressionTree) → FitsLevel 3 t → Denial t
open_denial (conditional a b c) f = absurd (omega (arith, f.0))
open_denial (denial a) f = is_not a refl f.1 (omega arith)
open_denial (level t os) f = open_level t os f
open_denial _ f = is_relation (omega arith, f.1)

pub level_low : (t : ExpressionTree) (os : OperandTrees) → FitsLevel 7 (level t os) → ⊥
level_low t no_operand f = absurd (omega (arith, f.0))
level_low t (operand o e os) f = absurd (omega (arith, f.0, (rank_within o).0))

same_factor : (k : ℕ) → Known k → (t u : ExpressionTree) (r q : List Terminal) → 8 * size t + above factors < k + 1 → FitsLevel 7 t → FitsLevel 7 u → Ends 7 r → Ends 7 q →
    expression_words t r ≡ expression_words u q → Same t u r q
same_factor k known (denial t) u r q s f g x y e = absurd (omega (arith, f.0))
same_factor k known (level t os) u r q s f g x y e = absurd (level_low t os f)
same_factor k known (conditional a b c) u r q s f g x y e = absurd (omega (arith, f.0))
same_factor k known t (denial u) r q s f g x y e = absurd (omega (arith, g.0))
same_factor k known t (level u os) r q s f g x y e = absurd (level_low u os g)
same_factor k known t (conditional a b c) r q s f g x y e = absurd (omega (arith, g.0))
same_factor k known (number n) (number m) r q s f g x y e = (cc, cc)
same_factor k known (truth true) (truth true) r q s f g x y e = (refl, cc)
same_factor k known (truth false) (truth false) r q s f g x y e = (refl, cc)
same_factor k known (variable n) (variable m) r q s f g x y e = (cc, cc)
same_factor k known (wait n) (wait m) r q s f g x y e = (cc, cc)
same_factor k known (negation t) (negation u) r q s f g x y e = let z = known factors t u r q (omega arith) f.1 g.1 x y (tail_is _ _ _ _ e) in (ap negation z.0, z.1)
same_factor k known (bracket t) (bracket u) r q s f g x y e =
    let z = known whole t u (sign Close ∷ r) (sign Close ∷ q) (omega arith) (omega arith, f.1) (omega arith, g.1) (omega arith) (omega arith) (tail_is _ _ _ _ e) in
    (ap bracket z.0, tail_is _ _ _ _ z.1)
same_factor k known _ (truth true) r q s f g x y e = absurd cc
same_factor k known (truth true) _ r q s f g x y e = absurd cc
same_factor k known _ _ r q s f g x y e = absurd cc

same_whole : (k : ℕ) → Known k → (t u : ExpressionTree) (r q : List Terminal) → 8 * size t + 7 < k + 1 → FitsLevel 0 t → FitsLevel 0 u → Ends 1 r → Ends 1 q →
    expression_words t r ≡ expression_words u q → Same t u r q
same_whole k known t u r q s f g x y e = cases (open_whole t f) (open_whole u g)
  where
    cases : Whole t → Whole u → Same t u r q
    cases (is_tighter i) (is_tighter j) = known ors t u r q (omega arith) i j x y e
    cases (is_if a b c p fa fb fc n) (is_tighter j) = absurd (true≢false (ap (leads (a_word If)) (ap (λ z. expression_words z r) (sym p) ∙ e) ∙ no_if u q j))
    cases (is_tighter i) (is_if a b c p fa fb fc n) = absurd (true≢false (ap (leads (a_word If)) (ap (λ z. expression_words z q) (sym p) ∙ sym e) ∙ no_if t r i))
    cases (is_if a b c p fa fb fc n) (is_if a' b' c' p' ga gb gc n') =
        let both : word If ∷ expression_words a (word Then ∷ expression_words b (word Else ∷ expression_words c r))
        ≡ word If ∷ expression_words a' (word Then ∷ expression_words b' (word Else ∷ expression_words c' q)) =
        ap (λ z. expression_words z r) (sym p) ∙ e ∙ ap (λ z. expression_words z q) p' in
        let z = known whole a a' _ _ (omega (arith, n)) (omega arith, fa) (omega arith, ga) (omega arith) (omega arith) (tail_is _ _ _ _ both) in
        let w = known whole b b' _ _ (omega (arith, n)) (omega arith, fb) (omega arith, gb) (omega arith) (omega arith) (tail_is _ _ _ _ z.1) in
        let v = known whole c c' r q (omega (arith, n)) (omega arith, fc) (omega arith, gc) x y (tail_is _ _ _ _ w.1) in
        (cc, v.1)

same_denial : (k : ℕ) → Known k → (t u : ExpressionTree) (r q : List Terminal) → 8 * size t + 4 < k + 1 → FitsLevel 3 t → FitsLevel 3 u → Ends 3 r → Ends 3 q →
    expression_words t r ≡ expression_words u q → Same t u r q
same_denial k known t u r q s f g x y e = cases (open_denial t f) (open_denial u g)
  where
    cases : Denial t → Denial u → Same t u r q
    cases (is_relation i) (is_relation j) = known relations t u r q (omega arith) i j (ends_more 3 4 r (omega arith) x) (ends_more 3 4 q (omega arith) y) e
    cases (is_not a p fa n) (is_relation j) = absurd (true≢false (ap (leads (a_word NotWord)) (ap (λ z. expression_words z r) (sym p) ∙ e) ∙ no_not u q j))
    cases (is_relation i) (is_not a p fa n) = absurd (true≢false (ap (leads (a_word NotWord)) (ap (λ z. expression_words z q) (sym p) ∙ sym e) ∙ no_not t r i))
    cases (is_not a p fa n) (is_not a' p' ga n') =
        let both : word NotWord ∷ expression_words a r ≡ word NotWord ∷ expression_words a' q =
        ap (λ z. expression_words z r) (sym p) ∙ e ∙ ap (λ z. expression_words z q) p' in
        let z = known denials a a' r q (omega (arith, n)) fa ga x y (tail_is _ _ _ _ both) in
        (cc, z.1)

step : (k : ℕ) → Known k → Known (k + 1)
step k known whole t u r q s f g x y e = same_whole k known t u r q s f g x y e
step k known denials t u r q s f g x y e = same_denial k known t u r q s f g x y e
step k known factors t u r q s f g x y e = same_factor k known t u r q s f g x y e
step k known l t u r q s f g x y e =
    chain k (at l) (tighter l) known refl refl (omega arith) (omega arith) (λ z. omega arith) (omega arith) t u r q (omega arith) f g x y e

known_all : (k : ℕ) → Known k
known_all zero = λ l t u r q s f g x y e. absurd (omega (arith, s))
known_all (suc k) = subst Known (omega arith) (step k (known_all k))

-- Two expressions that begin one list are one.
pub same_expression : (t u : ExpressionTree) (r q : List Terminal) → Formed t → Formed u → Ends 1 r → Ends 1 q → expression_words t r ≡ expression_words u q → (t ≡ u) × (r ≡ q)
same_expression t u r q f g x y e = known_all (8 * size t + 8) whole t u r q (omega arith) (omega arith, f) (omega arith, g) x y e
