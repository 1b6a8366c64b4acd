-- Operators of one level with their operands, read one after another.
use Rattle.kahn_syntax.proofs.Common.{◌≡◌, ℕ, ◌+◌, ◌≤◌, ◌<◌, ◌≢◌, max, List, [], ◌∷◌, ◌++◌, refl, sym, ap, ◌∙◌, subst, arith, Operand, Level, Or, Relation, Sum, Term, Operator, Bool, true, is_alone, Terminal, at, tighter, rung_of, ExpressionTree, level, OperandTrees, no_operand, operand, expression_words, operands_words, expression_nesting, operands_nesting, rank, FormedOperands, expression_tree, operands_of, FitsLevel, level_or_first}
use Rattle.kahn_syntax.specs.declared.parser.expression.Level.TheVariants.{And}

-- how many functions are called below an operand of this level before a lexeme is read
abbrev pub height : Level → ℕ
height Or = 10
height And = 8
height Relation = 5
height Sum = 3
height Term = 1

operands_nesting_more : (os : List Operand) (o : Operand) (m : ℕ) → operands_nesting (operands_of os) ≤ m → expression_nesting (expression_tree o.expression) ≤ m →
    operands_nesting (operands_of (os ++ o ∷ [])) ≤ m
operands_nesting_more [] o m a b = omega arith
operands_nesting_more (u ∷ os) o m a b = omega (arith, operands_nesting_more os o m (omega arith) b)

pub operands_nesting_next : (d : ℕ) (first : ExpressionTree) (os os' : List Operand) (o : Operand) → os' ≡ os ++ o ∷ [] →
    d + max (expression_nesting first) (operands_nesting (operands_of os)) ≤ 64 → d + expression_nesting (expression_tree o.expression) ≤ 64 →
    d + max (expression_nesting first) (operands_nesting (operands_of os')) ≤ 64
operands_nesting_next d first os os' o e a b =
    let m = max (operands_nesting (operands_of os)) (expression_nesting (expression_tree o.expression)) in
    let c = operands_nesting_more os o m (omega arith) (omega arith) in
    omega (arith, c, ap (λ x. operands_nesting (operands_of x)) e)

formed_more : (n : ℕ) (os : List Operand) (o : Operand) → FormedOperands n (operands_of os) → rank o.operator ≡ n → FitsLevel (n + 1) (expression_tree o.expression) →
    FormedOperands n (operands_of (os ++ o ∷ []))
formed_more n [] o h r f = (r, omega (arith, f.0), f.1, tt)
formed_more n (u ∷ os) o h r f = (h.0, h.1, h.2, formed_more n os o h.3 r f)

tight : (v : Level) (e : ExpressionTree) → FitsLevel (at (tighter (rung_of v))) e → FitsLevel (at (rung_of v) + 1) e
tight Or e f = f
tight _ e f = f

pub formed_next : (v : Level) (os os' : List Operand) (o : Operand) → os' ≡ os ++ o ∷ [] → FormedOperands (at (rung_of v)) (operands_of os) → rank o.operator ≡ at (rung_of v) →
    FitsLevel (at (tighter (rung_of v))) (expression_tree o.expression) → FormedOperands (at (rung_of v)) (operands_of os')
formed_next v os os' o e h r f = rw e (formed_more (at (rung_of v)) os o h r (tight v _ f))

joined_some : (e : ExpressionTree) (os : List Operand) → os ≢ [] → level e (operands_of os) ≡ level_or_first e (operands_of os)
joined_some e [] h = absurd (h refl)
joined_some e (o ∷ os) h = refl

pub joined_made : (e : ExpressionTree) (os : List Operand) (row : OperandTrees) → row ≡ operands_of os → os ≢ [] → level e row ≡ level_or_first e (operands_of os)
joined_made e os row p h = ap (level e) p ∙ joined_some e os h

pub joined_words : (e : ExpressionTree) (os : OperandTrees) (r : List Terminal) → expression_words (level_or_first e os) r ≡ expression_words e (operands_words os r)
joined_words e no_operand r = refl
joined_words e (operand o f os) r = refl

pub joined_nesting : (e : ExpressionTree) (os : OperandTrees) → expression_nesting (level_or_first e os) ≤ max (expression_nesting e) (operands_nesting os)
joined_nesting e no_operand = omega arith
joined_nesting e (operand o f os) = omega arith

joined_fits : (n : ℕ) (e : ExpressionTree) (os : OperandTrees) → n ≢ 4 → 0 < n → FitsLevel (n + 1) e → FormedOperands n os → FitsLevel n (level_or_first e os)
joined_fits n e no_operand a b f h = (omega (arith, f.0), f.1)
joined_fits n e (operand o g os) a b f h =
    (omega (arith, h.0), (omega (arith, h.0, f.0), f.1, omega (arith, h.0), subst (λ k. FormedOperands k (operand o g os)) (sym h.0) h, λ four. absurd (a (sym h.0 ∙ four))))

pub level_fits : (v : Level) (e : ExpressionTree) (os : OperandTrees) → (is_alone v ≡ true → os ≡ no_operand) → FitsLevel (at (tighter (rung_of v))) e → FormedOperands (at (rung_of v)) os
    → FitsLevel (at (rung_of v)) (level_or_first e os)
level_fits Or e os n f h = joined_fits 1 e os (λ x. cc) (omega arith) f h
level_fits Relation e os n f h = subst (λ os. FitsLevel 4 (level_or_first e os)) (sym (n refl)) (omega (arith, f.0), f.1)
level_fits v e os n f h = joined_fits (at (rung_of v)) e os (λ x. cc) (omega arith) f h

pub compared_fits : (o : Operator) (e f : ExpressionTree) → rank o ≡ 4 → FitsLevel 5 e → FitsLevel 5 f → FitsLevel 4 (level e (operand o f no_operand))
compared_fits o e f r g h =
    (omega (arith, r), (omega (arith, r, g.0), g.1, omega (arith, r), (refl, omega (arith, r, h.0), h.1, tt), λ four. tt))

-- the node of one operator, of a level where no two follow one another
pub alone_fits : (v : Level) (e : ExpressionTree) (os : List Operand) (o : Operand) → is_alone v ≡ true → os ≡ o ∷ [] → rank o.operator ≡ at (rung_of v) → FitsLevel (at (tighter (rung_of v))) e
    → FitsLevel (at (tighter (rung_of v))) (expression_tree o.expression) → FitsLevel (at (rung_of v)) (level_or_first e (operands_of os))
alone_fits Relation e os o a q r f g = subst (λ os. FitsLevel 4 (level_or_first e (operands_of os))) (sym q) (compared_fits o.operator e (expression_tree o.expression) r f g)
alone_fits Or e os o a q r f g = absurd cc
alone_fits _ e os o a q r f g = absurd cc
