-- The operands of a level and the statements of a block and of a body, one after another.
use Rattle.kahn_warnings.proofs.Common.{Binary, Bool, Bracket', Conditional', Expr, Form, Level', List, Negate', None, Not', Operand, Option, Row_of-Operand, Row_of-Statement, Scope, Seq, Some, Span, Statement, Stmt, Unreached, Warning, [], any_varies_by, ap, append_assoc, at_drop_all, block_items, body_of, drop, end_of-Operand, end_of-Statement, expr_of, expression_of, false, first_standing, first_unreached, flat_map, if◌then◌else◌, is_assigned_in, is_named, is_seen, is_used_in, items-the_row-Operand, items-the_row-Statement, length, level_of, list_any, list_warnings, more_of-Operand, more_of-Statement, never_ends, option_or, refl, row_of, row_warnings, statement_of, statement_warnings, stmt_of, sym, take, take_all, true, varies_by, waits_in, warned, ℕ, ◌++◌, ◌||◌, ◌∙◌, ◌∷◌, ◌≡◌, ◌≤◌, or-false, or_assoc}

-- one more of a list, and no more, where they are tried from the left
module _ {X : Type 0} (f : X → Bool) (l : List X) (all had : Bool) (so_far : had || list_any f l ≡ all) where
  pub any_next : (x : X) (rest : List X) (has : Bool) → l ≡ x ∷ rest → has ≡ had || f x → has || list_any f rest ≡ all
  any_next x rest has next is = ap (λ b. b || list_any f rest) is ∙ or_assoc had (f x) (list_any f rest) ∙ ap (λ k. had || list_any f k) (sym next) ∙ so_far

  pub any_done : l ≡ [] → had ≡ all
  any_done none = sym (or-false had) ∙ ap (λ k. had || list_any f k) (sym none) ∙ so_far

-- operands

abbrev pub is_named_in : Scope → Operand → Bool
is_named_in names o = is_named 0 (expression_of names o.expression)

pub level_named : {m : _} (names : Scope) (first : Expr) (row : Row_of-Operand m) →
    is_named 0 (level_of names first row) ≡ is_named 0 first || list_any (is_named_in names) (items-the_row-Operand m row)
level_named names first end_of-Operand = sym (or-false (is_named 0 first))
level_named names first (more_of-Operand o at e rest) = level_named names _ rest ∙ or_assoc (is_named 0 first) (is_named 0 (expr_of names e)) _

abbrev pub varies_with : (List ℕ → Bool) → Operand → Bool
varies_with these o = varies_by these o.expression.form

pub row_varies : {m : _} (these : List ℕ → Bool) (row : Row_of-Operand m) → any_varies_by these row ≡ list_any (varies_with these) (items-the_row-Operand m row)
row_varies these end_of-Operand = refl
row_varies these (more_of-Operand o at e rest) = ap (λ b. varies_by these e || b) (row_varies these rest)

-- an expression that varies by no name waits
mutual
  pub form_waits : (names : Scope) (f : Form) → varies_by (λ x. false) f ≡ waits_in (expr_of names f)
  form_waits names (Negate' p at e) = form_waits names e
  form_waits names (Not' p at e) = form_waits names e
  form_waits names (Bracket' p at e) = form_waits names e
  form_waits names (Level' p at e shape row) = level_waits names _ _ row (form_waits names e)
  form_waits names (Conditional' p at t q at' a r at'' b) = λ i. form_waits names t i || form_waits names a i || form_waits names b i
  form_waits names f = refl

  level_waits : {m : _} (names : Scope) (before : Bool) (first : Expr) (row : Row_of-Operand m) → before ≡ waits_in first
      → before || any_varies_by (λ x. false) row ≡ waits_in (level_of names first row)
  level_waits names before first end_of-Operand h = or-false before ∙ h
  level_waits names before first (more_of-Operand o at e rest) h =
      sym (or_assoc before _ _) ∙ level_waits names _ (Binary o first (expr_of names e)) rest (λ i. h i || form_waits names e i)

-- statements

abbrev pub is_so : (Stmt → Bool) → Scope → Statement → Bool
is_so f names s = f (statement_of names s)

pub block_is_used_in : {m : _} (names : Scope) (row : Row_of-Statement m) → is_used_in 0 (row_of names row) ≡ list_any (is_so (is_used_in 0) names) (items-the_row-Statement m row)
block_is_used_in names end_of-Statement = refl
block_is_used_in names (more_of-Statement at a rest) = ap (λ b. is_used_in 0 (stmt_of names a) || b) (block_is_used_in names rest)

pub body_is_used_in : (names : Scope) (ss : List Statement) → is_used_in 0 (body_of names ss) ≡ list_any (is_so (is_used_in 0) names) ss
body_is_used_in names [] = refl
body_is_used_in names (s ∷ rest) = ap (λ b. is_used_in 0 (statement_of names s) || b) (body_is_used_in names rest)

pub block_is_assigned_in : {m : _} (names : Scope) (row : Row_of-Statement m) →
    is_assigned_in 0 (row_of names row) ≡ list_any (is_so (is_assigned_in 0) names) (items-the_row-Statement m row)
block_is_assigned_in names end_of-Statement = refl
block_is_assigned_in names (more_of-Statement at a rest) = ap (λ b. is_assigned_in 0 (stmt_of names a) || b) (block_is_assigned_in names rest)

pub body_is_assigned_in : (names : Scope) (ss : List Statement) → is_assigned_in 0 (body_of names ss) ≡ list_any (is_so (is_assigned_in 0) names) ss
body_is_assigned_in names [] = refl
body_is_assigned_in names (s ∷ rest) = ap (λ b. is_assigned_in 0 (statement_of names s) || b) (body_is_assigned_in names rest)

pub body_never_ends : (names : Scope) (ss : List Statement) → never_ends (body_of names ss) ≡ list_any (is_so never_ends names) ss
body_never_ends names [] = refl
body_never_ends names (s ∷ rest) = ap (λ b. never_ends (statement_of names s) || b) (body_never_ends names rest)

pub body_is_seen : (names : Scope) (ss : List Statement) → is_seen (body_of names ss) ≡ list_any (is_so is_seen names) ss
body_is_seen names [] = refl
body_is_seen names (s ∷ rest) = ap (λ b. is_seen (statement_of names s) || b) (body_is_seen names rest)

pub block_body : {m : _} (names : Scope) (row : Row_of-Statement m) → row_of names row ≡ body_of names (items-the_row-Statement m row)
block_body names end_of-Statement = refl
block_body names (more_of-Statement at a rest) = ap (Seq (stmt_of names a)) (block_body names rest)

-- warnings

-- where the first statement stands that isn't reached, by whether one before these never ends, and by where one stood before these
abbrev pub left_unreached : Bool → Option Span → List Statement → Option Span
left_unreached ends place rest = option_or place (if ends then first_standing rest else first_unreached rest)

pub one_on : (ends n : Bool) (place next : Option Span) (s : Statement) (l rest : List Statement) → l ≡ s ∷ rest → next ≡ option_or place (if ends then s.span else None)
    → n ≡ never_ends (statement_of [] s) → left_unreached (ends || n) next rest ≡ left_unreached ends place l
one_on ends n place next s l rest more is e = ap (λ p. left_unreached (ends || n) p rest) is ∙ by ends place ∙ ap (left_unreached ends place) (sym more)
  where
    by : (b : Bool) (p : Option Span) → left_unreached (b || n) (option_or p (if b then s.span else None)) rest ≡ left_unreached b p (s ∷ rest)
    by true None = refl
    by true (Some q) = refl
    by false None = ap (λ b. if b then first_standing rest else first_unreached rest) e
    by false (Some q) = refl

pub none_left : (ends : Bool) (place : Option Span) → left_unreached ends place [] ≡ place
none_left true None = refl
none_left false None = refl
none_left ends (Some p) = refl

abbrev pub each : Statement → List Warning
each s = statement_warnings s.span s.action

-- the whole list was gone through
pub all_told : (old so_far new : List Warning) (ends : Bool) (place : Option Span) (i : ℕ) (ss : List Statement) → length ss ≤ i → so_far ≡ old ++ flat_map each (take i ss)
    → left_unreached ends place (drop i ss) ≡ first_unreached ss → new ≡ so_far ++ warned (Some Unreached) place → new ≡ old ++ (flat_map each ss ++ list_warnings ss)
all_told old so_far new ends place i ss past told left added =
    let at : place ≡ first_unreached ss = sym (none_left ends place) ∙ sym (at_drop_all (left_unreached ends place) ss i past) ∙ left in
    added ∙ ap (λ p. so_far ++ warned (Some Unreached) p) at
    ∙ ap (λ l. l ++ list_warnings ss) (told ∙ ap (λ l. old ++ flat_map each l) (take_all i ss past))
    ∙ append_assoc old (flat_map each ss) (list_warnings ss)

pub block_warned : {m : _} (row : Row_of-Statement m) → row_warnings row ≡ flat_map each (items-the_row-Statement m row)
block_warned end_of-Statement = refl
block_warned (more_of-Statement span a rest) = ap (λ ws. statement_warnings span a ++ ws) (block_warned rest)

pub block_same : {m : _} (row : Row_of-Statement m) → block_items row ≡ items-the_row-Statement m row
block_same end_of-Statement = refl
block_same (more_of-Statement span a rest) = ap (λ ss. record { span = span; action = a } ∷ ss) (block_same rest)

pub block_statement : {m : _} (row : Row_of-Statement m) →
    row_warnings row ++ list_warnings (block_items row)
    ≡ flat_map each (items-the_row-Statement m row) ++ list_warnings (items-the_row-Statement m row)
block_statement {m = m} row =
    ap (λ ws. ws ++ list_warnings (block_items row)) (block_warned row)
    ∙ ap (λ ss. flat_map each (items-the_row-Statement m row) ++ list_warnings ss) (block_same row)
