-- An expression has no fault exactly where it has a kind, and a statement exactly where it agrees.
use Rattle.kahn_check.proofs.Common.{arith, nat_tests, ◌↔◌, ◌≡◌, ℕ, List, [], ◌∷◌, ◌++◌, map, Option, None, Some, refl, sym, ◌∙◌, subst, bytes_eq, slice_get, lookup, Span, Kind, Direction, Taking, Form, Number, Variable, Wait, Negate', Not', Bracket', Level', Conditional', Row_of-Operand, end_of-Operand, more_of-Operand, Action, Empty, Assign, Send, Print, Block', If', While', Repeat', Row_of-Statement, end_of-Statement, more_of-Statement, Held-Action-If-2, None', Some', In, Out, Channel, Value, bytes_of, place_of, expr_of, level_of, expression_of, stmt_of, row_of, else_of, body_of, takes, gives, IsTaken, HasKind, Agrees, Locals, find, wrong, misread, misused, kind_in, level_kind, kind_of, wrong_first, wrong_second, spanning, faults_in, level_faults, faults_as, faults_of, row_faults, else_faults, body_faults}
use Rattle.kahn_streams.specs.Syntax as S
use Rattle.kahn_streams.specs.{declared.tree.Expression.Expression, declared.tree.Statement.Statement, declared.tree.Kind.TheVariants.Integer, declared.tree.Kind.TheVariants.Logical}
use Rattle.kahn_streams.specs.declared.tree.Form as F

abbrev pub names : Locals → List (List ℕ)
names s = map (λ e. e.0) s

abbrev pub whats : Locals → List Taking
whats s = map (λ e. e.1) s

-- ---- lists without members

pub nil_left : {A : Type 0} (xs ys : List A) → xs ++ ys ≡ [] → xs ≡ []
nil_left [] ys h = refl
nil_left (x ∷ xs) ys h = cc

pub nil_right : {A : Type 0} (xs ys : List A) → xs ++ ys ≡ [] → ys ≡ []
nil_right [] ys h = h
nil_right (x ∷ xs) ys h = cc

pub both : {A : Type 0} (xs ys : List A) → xs ≡ [] → ys ≡ [] → xs ++ ys ≡ []
both xs ys h i = rw h i

-- two and three lists of faults are empty exactly where all is so that each stands for
pub two : {A P Q : Type 0} (xs ys : List A) → P ↔ (xs ≡ []) → Q ↔ (ys ≡ []) → (P × Q) ↔ (xs ++ ys ≡ [])
two xs ys f g = ((λ h. both xs ys (f.0 h.0) (g.0 h.1)), (λ h. (f.1 (nil_left xs ys h), g.1 (nil_right xs ys h))))

three : {A P Q R : Type 0} (xs ys zs : List A) → P ↔ (xs ≡ []) → Q ↔ (ys ≡ []) → R ↔ (zs ≡ []) → (P × Q × R) ↔ (xs ++ (ys ++ zs) ≡ [])
three xs ys zs f g k =
    let r = two ys zs g k in
    ((λ h. both xs (ys ++ zs) (f.0 h.0) (r.0 (h.1, h.2))), (λ h. let i = r.1 (nil_right xs (ys ++ zs) h) in (f.1 (nil_left xs (ys ++ zs) h), i.0, i.1)))

-- ---- the number of a name stands for what the name stands for

pub numbered : (s : Locals) (x : List ℕ) → slice_get (whats s) (place_of (names s) x) ≡ lookup (bytes_eq x) s
numbered [] x = refl
numbered (e ∷ es) x = grind (arith, nat_tests, numbered es x)

-- ---- one use

pub kinds : (wanted found : Kind) (at : Span) → (found ≡ wanted) ↔ (wrong wanted found at ≡ [])
kinds Integer Integer at = ((λ h. refl), (λ h. refl))
kinds Logical Logical at = ((λ h. refl), (λ h. refl))
kinds _ _ at = ((λ h. cc), (λ h. cc))

read : (w : Option Taking) (at : Span) (k : Kind) → (w ≡ Some (Value k)) ↔ ((misread w at ≡ []) × (k ≡ kind_in w))
read (Some (Value j)) at k = ((λ h. (refl, cc)), (λ h. cc))
read _ at k = ((λ h. cc), (λ h. cc))

used : (d : Direction) (w : Option Taking) (at : Span) (k : Kind) → (w ≡ Some (Channel d k)) ↔ ((misused d w at ≡ []) × (k ≡ kind_in w))
used In (Some (Channel In j)) at k = ((λ h. (refl, cc)), (λ h. cc))
used Out (Some (Channel Out j)) at k = ((λ h. (refl, cc)), (λ h. cc))
used _ _ at k = ((λ h. cc), (λ h. cc))

-- a name that stands for w, by its number and by itself
at_name : (s : Locals) (x : List ℕ) (w : Option Taking) {P : Type 0} → (find s x ≡ w) ↔ P → (slice_get (whats s) (place_of (names s) x) ≡ w) ↔ P
at_name s x w i = ((λ h. i.0 (sym (numbered s x) ∙ h)), (λ h. numbered s x ∙ i.1 h))

operands : (t : Option Kind) (k j : Kind) (at at' : Span) → (IsTaken t k × (j ≡ k)) ↔ ((wrong_first t k at ≡ []) × (wrong_second t k j at' ≡ []))
operands None k j at at' = ((λ h. (refl, (kinds k j at').0 h.1)), (λ h. (tt, (kinds k j at').1 h.1)))
operands (Some w) k j at at' =
    ((λ h. ((kinds w k at).0 h.0, (kinds w j at').0 (h.1 ∙ h.0))), (λ h. let e = (kinds w k at).1 h.0 in (e, (kinds w j at').1 h.1 ∙ sym e)))

-- ---- expressions

-- an expression has kind k exactly where it has no fault and this is its kind
abbrev IsOfKind : Locals → Form → Kind → Type 0
IsOfKind s e k = HasKind (whats s) (expr_of (names s) e) k ↔ ((faults_in s e ≡ []) × (k ≡ kind_of s e))

-- where kind k is wanted
wanted : (s : Locals) (e : Form) (k : Kind) (at : Span) → IsOfKind s e k → HasKind (whats s) (expr_of (names s) e) k ↔ (faults_in s e ++ wrong k (kind_of s e) at ≡ [])
wanted s e k at i = (
  (λ h. both (faults_in s e) _ (i.0 h).0 ((kinds k (kind_of s e) at).0 (sym (i.0 h).1))),
  (λ h. i.1 (nil_left (faults_in s e) _ h, sym ((kinds k (kind_of s e) at).1 (nil_right (faults_in s e) _ h)))),
)

mutual
  typed : (s : Locals) (e : Form) (k : Kind) → IsOfKind s e k
  typed s (Number z) k = ((λ h. (refl, h)), (λ h. h.1))
  typed s (F.Logical b) k = ((λ h. (refl, h)), (λ h. h.1))
  typed s (Variable x) k = at_name s (bytes_of x) (Some (Value k)) (read (find s (bytes_of x)) x.span k)
  typed s (Wait q) k = at_name s (bytes_of q) (Some (Channel In k)) (used In (find s (bytes_of q)) q.span k)
  typed s (Negate' p at e) k = let w = wanted s e Integer at (typed s e Integer) in ((λ h. (w.0 h.0, h.1)), (λ h. (w.1 h.0, h.1)))
  typed s (Not' p at e) k = let w = wanted s e Logical at (typed s e Logical) in ((λ h. (w.0 h.0, h.1)), (λ h. (w.1 h.0, h.1)))
  typed s (Bracket' p at e) k = typed s e k
  typed s (Level' p at e shape rest) k =
      let row = typed_level s (expr_of (names s) e) at rest k in (
        (λ h.
            let r = row.0 h in
            let i = (typed s e r.0).0 r.1 in
            (both (faults_in s e) _ i.0 (subst (λ j. level_faults s j at rest ≡ []) i.1 r.2), subst (λ j. k ≡ level_kind j rest) i.1 r.3)),
        (λ h. row.1 (kind_of s e, (typed s e (kind_of s e)).1 (nil_left (faults_in s e) _ h.0, refl), nil_right (faults_in s e) _ h.0, h.1)),
      )
  typed s (Conditional' p at t q at' a r at'' b) k =
      let test = faults_in s t ++ wrong Logical (kind_of s t) at in
      let w = wanted s t Logical at (typed s t Logical) in
      let second = wanted s b (kind_of s a) at'' (typed s b (kind_of s a)) in (
        (λ h.
            let i = (typed s a k).0 h.1 in
            (both test _ (w.0 h.0) (both (faults_in s a) _ i.0 (second.0 (subst (HasKind (whats s) (expr_of (names s) b)) i.1 h.2))), i.1)),
        (λ h.
            let i = nil_right test (faults_in s a ++ (faults_in s b ++ wrong (kind_of s a) (kind_of s b) at'')) h.0 in (
              w.1 (nil_left test _ h.0),
              (typed s a k).1 (nil_left (faults_in s a) _ i, h.1),
              subst (HasKind (whats s) (expr_of (names s) b)) (sym h.1) (second.1 (nil_right (faults_in s a) _ i)),
            )),
      )

  typed_level : {m : _} (s : Locals) (a : S.Expr) (at : Span) (row : Row_of-Operand m) (k : Kind) → HasKind (whats s) (level_of (names s) a row) k
      ↔ ((j : Kind) × HasKind (whats s) a j × (level_faults s j at row ≡ []) × (k ≡ level_kind j row))
  typed_level s a at end_of-Operand k = ((λ h. (k, h, refl, refl)), (λ h. subst (HasKind (whats s) a) (sym h.3) h.1))
  typed_level s a at (more_of-Operand o at' e rest) k =
      let go = typed_level s (S.Binary o a (expr_of (names s) e)) (spanning at at') rest k in (
        (λ h.
            let r = go.0 h in
            let b = r.1.0 in
            let i = (typed s e b.0).0 b.3 in
            let ok = (operands (takes o) b.0 (kind_of s e) at at').0 (b.1, sym i.1) in (
              b.0,
              b.2,
              both (wrong_first (takes o) b.0 at) _ ok.0 (both (faults_in s e) _ i.0 (both (wrong_second (takes o) b.0 (kind_of s e) at') _ ok.1 (subst (λ j. level_faults s j (spanning at at') rest ≡ []) r.1.1 r.2))),
              subst (λ j. k ≡ level_kind j rest) r.1.1 r.3,
            )),
        (λ h.
            let j = h.0 in
            let second = wrong_second (takes o) j (kind_of s e) at' in
            let after = level_faults s (gives o) (spanning at at') rest in
            let i = nil_right (wrong_first (takes o) j at) (faults_in s e ++ (second ++ after)) h.2 in
            let n = nil_right (faults_in s e) (second ++ after) i in
            let ok = (operands (takes o) j (kind_of s e) at at').1 (nil_left (wrong_first (takes o) j at) _ h.2, nil_left second after n) in
            let he = (typed s e j).1 (nil_left (faults_in s e) _ i, sym ok.1) in
            go.1 (gives o, ((j, ok.0, h.1, he), refl), nil_right second after n, h.3)),
      )

-- ---- statements

as_kind : (k : Kind) (s : Locals) (e : Expression) → HasKind (whats s) (expression_of (names s) e) k ↔ (faults_as k s e ≡ [])
as_kind k s e = wanted s e.form k e.span (typed s e.form k)

mutual
  agrees : (s : Locals) (a : Action) → Agrees (whats s) (stmt_of (names s) a) ↔ (faults_of s a ≡ [])
  agrees s Empty = ((λ h. refl), (λ h. tt))
  agrees s (Assign x e) =
      let w = find s (bytes_of x) in (
        (λ h.
            let r = (at_name s (bytes_of x) (Some (Value h.0)) (read w x.span h.0)).0 h.1 in
            both (misread w x.span) _ r.0 ((as_kind (kind_in w) s e).0 (subst (HasKind (whats s) (expression_of (names s) e)) r.1 h.2))),
        (λ h. (
          kind_in w,
          (at_name s (bytes_of x) (Some (Value (kind_in w))) (read w x.span (kind_in w))).1 (nil_left (misread w x.span) _ h, refl),
          (as_kind (kind_in w) s e).1 (nil_right (misread w x.span) _ h),
        )),
      )
  agrees s (Send e q) =
      let w = find s (bytes_of q) in (
        (λ h.
            let i = (typed s e.form h.0).0 h.2 in
            let u = (at_name s (bytes_of q) (Some (Channel Out h.0)) (used Out w q.span h.0)).0 h.1 in
            both (faults_in s e.form) _ i.0 (both (misused Out w q.span) _ u.0 ((kinds (kind_in w) (kind_of s e.form) e.span).0 (sym i.1 ∙ u.1)))),
        (λ h.
            let i = nil_right (faults_in s e.form) _ h in (
              kind_in w,
              (at_name s (bytes_of q) (Some (Channel Out (kind_in w))) (used Out w q.span (kind_in w))).1 (nil_left (misused Out w q.span) _ i, refl),
              (as_kind (kind_in w) s e).1 (both (faults_in s e.form) _ (nil_left (faults_in s e.form) _ h) (nil_right (misused Out w q.span) _ i)),
            )),
      )
  agrees s (Print e) = ((λ h. ((typed s e.form h.0).0 h.1).0), (λ h. (kind_of s e.form, (typed s e.form (kind_of s e.form)).1 (h, refl))))
  agrees s (Block' shape row) = agrees_row s row
  agrees s (If' t p at a b) = three (faults_as Logical s t) (faults_of s a) (else_faults s b) (as_kind Logical s t) (agrees s a) (agrees_else s b)
  agrees s (While' t p at a) = two (faults_as Logical s t) (faults_of s a) (as_kind Logical s t) (agrees s a)
  agrees s (Repeat' p at a) = agrees s a

  agrees_row : {m : _} (s : Locals) (row : Row_of-Statement m) → Agrees (whats s) (row_of (names s) row) ↔ (row_faults s row ≡ [])
  agrees_row s end_of-Statement = ((λ h. refl), (λ h. tt))
  agrees_row s (more_of-Statement at a rest) = two (faults_of s a) (row_faults s rest) (agrees s a) (agrees_row s rest)

  agrees_else : (s : Locals) (b : Held-Action-If-2) → Agrees (whats s) (else_of (names s) b) ↔ (else_faults s b ≡ [])
  agrees_else s None' = ((λ h. refl), (λ h. tt))
  agrees_else s (Some' p at a) = agrees s a

pub agrees_body : (s : Locals) (ts : List Statement) → Agrees (whats s) (body_of (names s) ts) ↔ (body_faults s ts ≡ [])
agrees_body s [] = ((λ h. refl), (λ h. tt))
agrees_body s (t ∷ rest) = two (faults_of s t.action) (body_faults s rest) (agrees s t.action) (agrees_body s rest)
