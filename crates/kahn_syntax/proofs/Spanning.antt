-- Parts of a tree that are read one after another, and the lexemes that they take.
use Rattle.std.proofs.Common.{append-nil}
use Rattle.kahn_syntax.proofs.Common.{lexemes, SomeNames, ParameterGroup, VariableGroup, Parameters, Variables, ◌≡◌, ℕ, List, [], ◌∷◌, ◌++◌, length, refl, sym, ap, ◌∙◌, subst, append_assoc, arith, get_or, take, drop, ◌-◌, ◌≤◌, Further, Between, Ended, SomeBetween, Grouped, group, members_of, all_members, Lexeme, Name, Operand, Statement, Kind, Taking, Parameter, Variable, Declaration, Argument, Terminal, terminal, terminals, sign, name, operator_terminal, kind_terminal, name_of, IsPast, Takes, Covers, NameSpans, ExpressionSpans, OperandsSpan, StatementSpans, DeclarationSpans, ArgumentSpans, parameter_with, variable_with, Comma, Semicolon}
use Rattle.kahn_syntax.proofs.Lists.{next_list}

-- one lexeme has its own span
pub covers_one : (xs r : List Lexeme) (x : Lexeme) → xs ≡ x ∷ r → Covers x.span xs r
covers_one xs r x e = (x.span, x.span, ([], x, r, e, refl, omega (arith, ap length e)), ([], x, r, e, refl, refl), refl, refl)

head_is : (k l : Terminal) (r q : List Terminal) → k ∷ r ≡ l ∷ q → k ≡ l
head_is k l r q e = cc

pub takes : (text : List ℕ) (k : Terminal) (xs r : List Lexeme) → IsPast xs r → terminals text xs ≡ k ∷ terminals text r → Takes text k xs r
takes text k xs r (x, e) h = (x, e, head_is (terminal text x.what x.span) k (terminals text r) (terminals text r) (sym (ap (terminals text) e) ∙ h))

pub name_first : (text : List ℕ) (n : Name) (xs : List Lexeme) (d : Lexeme) → 1 ≤ length xs → n.span ≡ (get_or xs 0 d).span →
    terminals text xs ≡ name (name_of n) ∷ terminals text (take (length xs - 1) (drop 1 xs)) → NameSpans text n xs (take (length xs - 1) (drop 1 xs))
name_first text n xs d h e w =
    let r = take (length xs - 1) (drop 1 xs) in
    let p = next_list xs d h in
    (takes text (name (name_of n)) xs r (get_or xs 0 d, p) w, subst (λ at. Covers at xs r) (sym e) (covers_one xs r (get_or xs 0 d) p))

pub none_left : (xs : List Lexeme) → length xs ≡ 0 → xs ≡ []
none_left [] e = refl
none_left (x ∷ xs) e = absurd (omega (arith, e))

operands_more : (text : List ℕ) (os : List Operand) (o : Operand) (xs m k r : List Lexeme) → OperandsSpan text os xs m →
    Takes text (operator_terminal o.operator) m k → ExpressionSpans text o.expression k r → OperandsSpan text (os ++ o ∷ []) xs r
operands_more text [] o xs m k r h t s = (k, r, subst (λ y. Takes text (operator_terminal o.operator) y k) (sym h) t, s, refl)
operands_more text (u ∷ os) o xs m k r (a, b, t', s', h) t s = (a, b, t', s', operands_more text os o b m k r h t s)

pub operands_next : (text : List ℕ) (os os' : List Operand) (o : Operand) (xs m k r : List Lexeme) → os' ≡ os ++ o ∷ [] → OperandsSpan text os xs m →
    Takes text (operator_terminal o.operator) m k → ExpressionSpans text o.expression k r → OperandsSpan text os' xs r
operands_next text os os' o xs m k r e h t s = subst (λ ys. OperandsSpan text ys xs r) (sym e) (operands_more text os o xs m k r h t s)

pub no_operands : (text : List ℕ) (os : List Operand) (xs r : List Lexeme) → length os ≡ 0 → OperandsSpan text os xs r → xs ≡ r
no_operands text [] xs r e h = h
no_operands text (o ∷ os) xs r e h = absurd (omega (arith, e))

further_more : {K X : Type 0} (T : List K → List K → Type 0) (P : X → List K → List K → Type 0) (us : List X) (x : X) (xs m k r : List K) → Further T P us xs m →
    T m k → P x k r → Further T P (us ++ x ∷ []) xs r
further_more T P [] x xs m k r h t p = (k, r, subst (λ y. T y k) (sym h) t, p, refl)
further_more T P (u ∷ us) x xs m k r (a, b, t', p', h) t p = (a, b, t', p', further_more T P us x b m k r h t p)

pub some_more : {K X : Type 0} (T : List K → List K → Type 0) (P : X → List K → List K → Type 0) (us : List X) (x : X) (xs m k r : List K) → SomeBetween T P us xs m →
    T m k → P x k r → SomeBetween T P (us ++ x ∷ []) xs r
some_more T P [] x xs m k r h t p = absurd h
some_more T P (u ∷ us) x xs m k r (a, p', h) t p = (a, p', further_more T P us x a m k r h t p)

pub some_between : {K X : Type 0} (T : List K → List K → Type 0) (P : X → List K → List K → Type 0) (us : List X) (xs r : List K) → SomeBetween T P us xs r → Between T P us xs r
some_between T P [] xs r h = absurd h
some_between T P (u ∷ us) xs r h = h

-- one statement or more
abbrev pub SomeStatements : List ℕ → List Statement → List Lexeme → List Lexeme → Type 0
SomeStatements text ss xs r = SomeBetween (Takes text (sign Semicolon)) (StatementSpans text) ss xs r

all_members_more : {A N M : Type 0} (make : A → N → M) (gs : List (Grouped A N)) (g : Grouped A N) → all_members make (gs ++ g ∷ []) ≡ all_members make gs ++ members_of make g
all_members_more make [] g = append-nil (members_of make g)
all_members_more make (u ∷ gs) g =
    ap (λ x. members_of make u ++ x) (all_members_more make gs g) ∙ sym (append_assoc (members_of make u) (all_members make gs) (members_of make g))

-- one group or more
abbrev pub SomeParametersSpan : List ℕ → List Parameter → List Lexeme → List Lexeme → Type 0
SomeParametersSpan text ps xs r = (g : Grouped Taking Name) × (gs : List (Grouped Taking Name)) × (ps ≡ all_members parameter_with (g ∷ gs)) × Between (Takes text (sign Semicolon)) (ParameterGroup (lexemes text)) (g ∷ gs) xs r

pub some_are_parameters : (text : List ℕ) (ps : List Parameter) (xs r : List Lexeme) → SomeParametersSpan text ps xs r → Parameters (lexemes text) parameter_with ps xs r
some_are_parameters text ps xs r (g, gs, e, p) = (g ∷ gs, e, p)

pub parameters_first : (text : List ℕ) (ps : List Parameter) (g : Grouped Taking Name) (xs r : List Lexeme) → ps ≡ members_of parameter_with g → ParameterGroup (lexemes text) g xs r → SomeParametersSpan text ps xs r
parameters_first text ps g xs r e p = (g, [], e ∙ sym (append-nil (members_of parameter_with g)), (r, p, refl))

pub parameters_next : (text : List ℕ) (ps qs : List Parameter) (g : Grouped Taking Name) (xs m k r : List Lexeme) → qs ≡ ps ++ members_of parameter_with g → SomeParametersSpan text ps xs m →
    Takes text (sign Semicolon) m k → ParameterGroup (lexemes text) g k r → SomeParametersSpan text qs xs r
parameters_next text ps qs g xs m k r q (f, gs, e, (a, p', h)) t p = (
  f,
  gs ++ g ∷ [],
  q ∙ ap (λ x. x ++ members_of parameter_with g) e ∙ append_assoc (members_of parameter_with f) (all_members parameter_with gs) (members_of parameter_with g)
      ∙ ap (λ x. members_of parameter_with f ++ x) (sym (all_members_more parameter_with gs g)),
  (a, p', further_more (Takes text (sign Semicolon)) (ParameterGroup (lexemes text)) gs g a m k r h t p),
)

ended_more : {K X : Type 0} (T : List K → List K → Type 0) (P : X → List K → List K → Type 0) (us : List X) (x : X) (xs m k r : List K) → Ended T P us xs m →
    P x m k → T k r → Ended T P (us ++ x ∷ []) xs r
ended_more T P [] x xs m k r h p t = (k, r, subst (λ y. P x y k) (sym h) p, t, refl)
ended_more T P (u ∷ us) x xs m k r (a, b, p', t', h) p t = (a, b, p', t', ended_more T P us x b m k r h p t)

pub variables_next : (text : List ℕ) (vs ws : List Variable) (k : Kind) (ns : List Name) (xs m a b r : List Lexeme) → ws ≡ vs ++ members_of variable_with (group k ns) →
    Variables (lexemes text) variable_with vs xs m → Takes text (kind_terminal k) m a → SomeNames (lexemes text) ns a b → Takes text (sign Semicolon) b r → Variables (lexemes text) variable_with ws xs r
variables_next text vs ws k ns xs m a b r q (ts, e, h) p n t = (
  ts ++ group k ns ∷ [],
  q ∙ ap (λ x. x ++ members_of variable_with (group k ns)) e ∙ sym (all_members_more variable_with ts (group k ns)),
  ended_more (Takes text (sign Semicolon)) (VariableGroup (lexemes text)) ts (group k ns) xs m b r h (a, p, n) t,
)

pub declarations_next : (text : List ℕ) (ds ds' : List Declaration) (d : Declaration) (xs m k r : List Lexeme) → ds' ≡ ds ++ d ∷ [] → Ended (Takes text (sign Semicolon)) (DeclarationSpans text) ds xs m →
    DeclarationSpans text d m k → Takes text (sign Semicolon) k r → Ended (Takes text (sign Semicolon)) (DeclarationSpans text) ds' xs r
declarations_next text ds ds' d xs m k r e h p t =
    subst (λ ys. Ended (Takes text (sign Semicolon)) (DeclarationSpans text) ys xs r) (sym e) (ended_more (Takes text (sign Semicolon)) (DeclarationSpans text) ds d xs m k r h p t)
