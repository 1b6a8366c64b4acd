-- What a tree spells follows from what its parts take.
use Rattle.kahn_syntax.proofs.Common.{declaration_nesting, lexemes, spelling, SomeBetween, SomeNames, ParameterGroup, VariableGroup, parameter_with, variable_with, ◌≡◌, ℕ, ◌≤◌, List, [], ◌∷◌, ◌++◌, map, inl, inr, refl, ap, ◌∙◌, arith, Further, Grouped, group, all_members, map-append, Form, Negate', Not', Bracket', Level', Conditional', Row_of-Operand, end_of-Operand, more_of-Operand, Action, Empty, Assign, Block', If', While', Repeat', Row_of-Statement, end_of-Statement, more_of-Statement, Held-Action-If-2, None', Some', Statement, Name, Kind, Taking, Parameter, OneVariable, Declaration, Argument, Instance, Program, kind_terminal, role_words, taking_words, Parameters, Variables, SpellsDeclaration, Argues, Instantiates, May, Spells, declarations_nesting, StandsFirst, Between, Ended, TakesAll, DeclarationSpans, ArgumentSpans, InstanceSpans, InstancesSpan, ProgramSpans, Takes, FormSpans, OperandRowSpans, ActionSpans, OtherSpans, StatementRowSpans, FurtherRowSpans, StatementsSpan, NameSpans, StatementSpans, Lexeme, Terminal, terminals, word, sign, name, StatementTree, truth_terminal, operator_terminal, expression_words, operands_words, statement_words, statements_words, further_words, name_of, form_tree, operands_row, expression_tree, action_tree, statements_row, chosen_of, statement_tree, statement_trees, declaration_tree, argument_tree, instance_tree, program_tree, Becomes, Begin, Channel, Close, Comma, Do, Else, End, If, Minus, NotWord, On, Open, Par, Print, Process, Repeat, Semicolon, Send, Then, Wait, While, parameter_of, variable_of}
use Rattle.kahn_streams.specs.{declared.tree.Form.Number, declared.tree.Form.Logical, declared.tree.Form.Variable, declared.tree.Form.Wait, declared.tree.Action.Send, declared.tree.Action.Print}
use Rattle.kahn_streams.specs.declared.tree.Declaration.TheVariants as declared
use Rattle.kahn_streams.specs.declared.tree.Argument.TheVariants as argued
use Rattle.kahn_syntax.specs.Grammar as terminal

-- one terminal, and what follows it
pub taken : (text : List ℕ) (k : Terminal) (xs a : List Lexeme) (r : List Terminal) → Takes text k xs a → terminals text a ≡ r → terminals text xs ≡ k ∷ r
taken text k xs a r (x, e, h) f = ap (terminals text) e ∙ ap (λ j. j ∷ terminals text a) h ∙ ap (λ w. k ∷ w) f

mutual
  pub form_spelled : (text : List ℕ) (f : Form) (xs r : List Lexeme) → FormSpans text f xs r → terminals text xs ≡ expression_words (form_tree f) (terminals text r)
  form_spelled text (Number z) xs r h = taken text (terminal.numeral z) xs r _ h refl
  form_spelled text (Logical b) xs r h = taken text (truth_terminal b) xs r _ h refl
  form_spelled text (Variable n) xs r h = taken text (name (name_of n)) xs r _ h.0 refl
  form_spelled text (Wait n) xs r (a, b, c, t, u, v, w) =
      taken text (word Wait) xs a _ t
      (taken text (sign Open) a b _ u (taken text (name (name_of n)) b c _ v.0 (taken text (sign Close) c r _ w refl)))
  form_spelled text (Negate' p at e) xs r (a, t, h) = taken text (sign Minus) xs a _ t (form_spelled text e a r h.1)
  form_spelled text (Not' p at e) xs r (a, t, h) = taken text (word NotWord) xs a _ t (form_spelled text e a r h.1)
  form_spelled text (Bracket' p at e) xs r (a, b, t, h, u) =
      taken text (sign Open) xs a _ t (form_spelled text e a b h.1 ∙ ap (expression_words (form_tree e)) (taken text (sign Close) b r _ u refl))
  form_spelled text (Level' p at e shape row) xs r (a, h, g) =
      form_spelled text e xs a h.1 ∙ ap (expression_words (form_tree e)) (operands_spelled text row a r g)
  form_spelled text (Conditional' p at t q at' e s at'' f) xs r (a, b, c, d, g, i, j, k, l, m, n) =
      taken text (word If) xs a _ i
      (form_spelled text t a b j.1
      ∙ ap (expression_words (form_tree t)) (taken text (word Then) b c _ k
      (form_spelled text e c d l.1 ∙ ap (expression_words (form_tree e)) (taken text (word Else) d g _ m (form_spelled text f g r n.1)))))

  operands_spelled : {m : _} → (text : List ℕ) (row : Row_of-Operand m) (xs r : List Lexeme) → OperandRowSpans text row xs r →
      terminals text xs ≡ operands_words (operands_row row) (terminals text r)
  operands_spelled text end_of-Operand xs r h = ap (terminals text) h
  operands_spelled text (more_of-Operand o at e rest) xs r (a, b, t, h, g) =
      taken text (operator_terminal o) xs a _ t (form_spelled text e a b h.1 ∙ ap (expression_words (form_tree e)) (operands_spelled text rest b r g))

mutual
  pub action_spelled : (text : List ℕ) (s : Action) (xs r : List Lexeme) → ActionSpans text s xs r → terminals text xs ≡ statement_words (action_tree s) (terminals text r)
  action_spelled text Empty xs r h = ap (terminals text) h
  action_spelled text (Assign n e) xs r (a, b, t, u, h) =
      taken text (name (name_of n)) xs a _ t.0 (taken text (sign Becomes) a b _ u (form_spelled text e.form b r h.1))
  action_spelled text (Send e n) xs r (a, b, c, t, h, u, v) =
      taken text (word Send) xs a _ t
      (form_spelled text e.form a b h.1 ∙ ap (expression_words (expression_tree e)) (taken text (word On) b c _ u (taken text (name (name_of n)) c r _ v.0 refl)))
  action_spelled text (Print e) xs r (a, t, h) = taken text (word Print) xs a _ t (form_spelled text e.form a r h.1)
  action_spelled text (Block' shape row) xs r (a, b, t, h, u) =
      taken text (word Begin) xs a _ t (row_spelled text row a b h ∙ ap (statements_words (statements_row row)) (taken text (word End) b r _ u refl))
  action_spelled text (If' e p at s other) xs r (a, b, c, d, t, h, u, g, o) =
      taken text (word If) xs a _ t
      (form_spelled text e.form a b h.1
      ∙ ap (expression_words (expression_tree e)) (taken text (word Then) b c _ u (action_spelled text s c d g.1)))
      ∙ other_spelled text (expression_tree e) (action_tree s) other d r o
  action_spelled text (While' e p at s) xs r (a, b, c, t, h, u, g) =
      taken text (word While) xs a _ t
      (form_spelled text e.form a b h.1 ∙ ap (expression_words (expression_tree e)) (taken text (word Do) b c _ u (action_spelled text s c r g.1)))
  action_spelled text (Repeat' p at s) xs r (a, t, g) = taken text (word Repeat) xs a _ t (action_spelled text s a r g.1)

  -- a conditional statement from its `then` on
  other_spelled : (text : List ℕ) (t : _) (s : StatementTree) (other : Held-Action-If-2) (xs r : List Lexeme) → OtherSpans text other xs r →
      word If ∷ expression_words t (word Then ∷ statement_words s (terminals text xs)) ≡ statement_words (chosen_of t s other) (terminals text r)
  other_spelled text t s None' xs r h = ap (λ x. word If ∷ expression_words t (word Then ∷ statement_words s (terminals text x))) h
  other_spelled text t s (Some' p at b) xs r (a, u, g) =
      ap (λ x. word If ∷ expression_words t (word Then ∷ statement_words s x)) (taken text (word Else) xs a _ u (action_spelled text b a r g.1))

  row_spelled : {m : _} → (text : List ℕ) (row : Row_of-Statement m) (xs r : List Lexeme) → StatementRowSpans text row xs r →
      terminals text xs ≡ statements_words (statements_row row) (terminals text r)
  row_spelled text end_of-Statement xs r h = ap (terminals text) h
  row_spelled text (more_of-Statement at s rest) xs r (a, h, g) =
      action_spelled text s xs a h.1 ∙ ap (statement_words (action_tree s)) (further_spelled text rest a r g)

  further_spelled : {m : _} → (text : List ℕ) (row : Row_of-Statement m) (xs r : List Lexeme) → FurtherRowSpans text row xs r →
      terminals text xs ≡ further_words (statements_row row) (terminals text r)
  further_spelled text end_of-Statement xs r h = ap (terminals text) h
  further_spelled text (more_of-Statement at s rest) xs r (a, b, t, h, g) =
      taken text (sign Semicolon) xs a _ t (action_spelled text s a b h.1 ∙ ap (statement_words (action_tree s)) (further_spelled text rest b r g))

further_statements_spelled : (text : List ℕ) (ss : List Statement) (xs r : List Lexeme) → Further (Takes text (sign Semicolon)) (StatementSpans text) ss xs r →
    terminals text xs ≡ further_words (statement_trees ss) (terminals text r)
further_statements_spelled text [] xs r h = ap (terminals text) h
further_statements_spelled text (s ∷ ss) xs r (a, b, t, h, g) =
    taken text (sign Semicolon) xs a _ t (action_spelled text s.action a b h.1 ∙ ap (statement_words (statement_tree s)) (further_statements_spelled text ss b r g))

pub statements_spelled : (text : List ℕ) (ss : List Statement) (xs r : List Lexeme) → StatementsSpan text ss xs r →
    terminals text xs ≡ statements_words (statement_trees ss) (terminals text r)
statements_spelled text [] xs r h = ap (terminals text) h
statements_spelled text (s ∷ ss) xs r (a, h, g) =
    action_spelled text s.action xs a h.1 ∙ ap (statement_words (statement_tree s)) (further_statements_spelled text ss a r g)

-- ---- parts with the same between them, or after each

further_parts_spelled : {X Y : Type 0} (text : List ℕ) (k : Terminal) (P : X → List Lexeme → List Lexeme → Type 0) (Q : Y → List Terminal → List Terminal → Type 0) (f : X → Y)
    → ((x : X) (xs r : List Lexeme) → P x xs r → Q (f x) (terminals text xs) (terminals text r)) → (us : List X) (xs r : List Lexeme) → Further (Takes text k) P us xs r →
    Further (StandsFirst k) Q (map f us) (terminals text xs) (terminals text r)
further_parts_spelled text k P Q f each [] xs r h = ap (terminals text) h
further_parts_spelled text k P Q f each (u ∷ us) xs r (a, b, t, p, h) =
    (terminals text a, terminals text b, taken text k xs a _ t refl, each u a b p, further_parts_spelled text k P Q f each us b r h)

between_spelled : {X Y : Type 0} (text : List ℕ) (k : Terminal) (P : X → List Lexeme → List Lexeme → Type 0) (Q : Y → List Terminal → List Terminal → Type 0) (f : X → Y)
    → ((x : X) (xs r : List Lexeme) → P x xs r → Q (f x) (terminals text xs) (terminals text r)) → (us : List X) (xs r : List Lexeme) → Between (Takes text k) P us xs r →
    Between (StandsFirst k) Q (map f us) (terminals text xs) (terminals text r)
between_spelled text k P Q f each [] xs r h = ap (terminals text) h
between_spelled text k P Q f each (u ∷ us) xs r (a, p, h) = (terminals text a, each u xs a p, further_parts_spelled text k P Q f each us a r h)

some_spelled : {X Y : Type 0} (text : List ℕ) (k : Terminal) (P : X → List Lexeme → List Lexeme → Type 0) (Q : Y → List Terminal → List Terminal → Type 0) (f : X → Y)
    → ((x : X) (xs r : List Lexeme) → P x xs r → Q (f x) (terminals text xs) (terminals text r)) → (us : List X) (xs r : List Lexeme) → SomeBetween (Takes text k) P us xs r →
    SomeBetween (StandsFirst k) Q (map f us) (terminals text xs) (terminals text r)
some_spelled text k P Q f each [] xs r h = absurd h
some_spelled text k P Q f each (u ∷ us) xs r h = between_spelled text k P Q f each (u ∷ us) xs r h

ended_spelled : {X Y : Type 0} (text : List ℕ) (k : Terminal) (P : X → List Lexeme → List Lexeme → Type 0) (Q : Y → List Terminal → List Terminal → Type 0) (f : X → Y)
    → ((x : X) (xs r : List Lexeme) → P x xs r → Q (f x) (terminals text xs) (terminals text r)) → (us : List X) (xs r : List Lexeme) → Ended (Takes text k) P us xs r →
    Ended (StandsFirst k) Q (map f us) (terminals text xs) (terminals text r)
ended_spelled text k P Q f each [] xs r h = ap (terminals text) h
ended_spelled text k P Q f each (u ∷ us) xs r (a, b, p, t, h) =
    (terminals text a, terminals text b, each u xs a p, taken text k a b _ t refl, ended_spelled text k P Q f each us b r h)

takes_all_spelled : (text : List ℕ) (ks : List Terminal) (xs r : List Lexeme) → TakesAll (lexemes text) ks xs r → TakesAll spelling ks (terminals text xs) (terminals text r)
takes_all_spelled text [] xs r h = ap (terminals text) h
takes_all_spelled text (k ∷ ks) xs r (a, t, h) = (terminals text a, taken text k xs a _ t refl, takes_all_spelled text ks a r h)

names_spelled : (text : List ℕ) (ns : List Name) (xs r : List Lexeme) → SomeNames (lexemes text) ns xs r → SomeNames spelling (map name_of ns) (terminals text xs) (terminals text r)
names_spelled text ns xs r h =
    some_spelled text (sign Comma) (NameSpans text) (λ n. StandsFirst (name n)) name_of (λ n xs r t. taken text (name (name_of n)) xs r _ t.0 refl) ns xs r h

abbrev group_of : {A : Type 0} → Grouped A Name → Grouped A (List ℕ)
group_of (group a ns) = group a (map name_of ns)

group_spelled : (text : List ℕ) (g : Grouped Taking Name) (xs r : List Lexeme) → ParameterGroup (lexemes text) g xs r → ParameterGroup spelling (group_of g) (terminals text xs) (terminals text r)
group_spelled text (group t ns) xs r (a, d, n) = (terminals text a, takes_all_spelled text (taking_words t []) xs a d, names_spelled text ns a r n)

together_spelled : (text : List ℕ) (g : Grouped Kind Name) (xs r : List Lexeme) → VariableGroup (lexemes text) g xs r → VariableGroup spelling (group_of g) (terminals text xs) (terminals text r)
together_spelled text (group k ns) xs r (a, t, n) = (terminals text a, taken text (kind_terminal k) xs a _ t refl, names_spelled text ns a r n)

members_taken : {A M N : Type 0} (make : A → Name → M) (made : A → List ℕ → N) (f : M → N) → ((a : A) (n : Name) → f (make a n) ≡ made a (name_of n)) →
    (a : A) (ns : List Name) → map f (map (make a) ns) ≡ map (made a) (map name_of ns)
members_taken make made f e a [] = refl
members_taken make made f e a (n ∷ ns) = λ i. e a n i ∷ members_taken make made f e a ns i

all_taken : {A M N : Type 0} (make : A → Name → M) (made : A → List ℕ → N) (f : M → N) → ((a : A) (n : Name) → f (make a n) ≡ made a (name_of n)) →
    (gs : List (Grouped A Name)) → map f (all_members make gs) ≡ all_members made (map group_of gs)
all_taken make made f e [] = refl
all_taken make made f e (group a ns ∷ gs) =
    map-append f (map (make a) ns) (all_members make gs) ∙ (λ i. members_taken make made f e a ns i ++ all_taken make made f e gs i)

parameters_spelled : (text : List ℕ) (ps : List Parameter) (xs r : List Lexeme) → Parameters (lexemes text) parameter_with ps xs r →
    Parameters spelling (λ t n. (t, n)) (map parameter_of ps) (terminals text xs) (terminals text r)
parameters_spelled text ps xs r (gs, e, h) = (
  map group_of gs,
  ap (map parameter_of) e ∙ all_taken parameter_with (λ t n. (t, n)) parameter_of (λ t n. refl) gs,
  between_spelled text (sign Semicolon) (ParameterGroup (lexemes text)) (ParameterGroup spelling) group_of (group_spelled text) gs xs r h,
)

variables_spelled : (text : List ℕ) (vs : List OneVariable) (xs r : List Lexeme) → Variables (lexemes text) variable_with vs xs r →
    Variables spelling (λ k n. (k, n)) (map variable_of vs) (terminals text xs) (terminals text r)
variables_spelled text vs xs r (gs, e, h) = (
  map group_of gs,
  ap (map variable_of) e ∙ all_taken variable_with (λ k n. (k, n)) variable_of (λ k n. refl) gs,
  ended_spelled text (sign Semicolon) (VariableGroup (lexemes text)) (VariableGroup spelling) group_of (together_spelled text) gs xs r h,
)

declaration_spelled : (text : List ℕ) (d : Declaration) (xs r : List Lexeme) → DeclarationSpans text d xs r →
    SpellsDeclaration (declaration_tree d) (terminals text xs) (terminals text r)
declaration_spelled text (declared.Channels k o ns) xs r (a, b, c, t, p, u, n) =
    let all = takes_all_spelled text (role_words o []) a b p in
    (terminals text a, terminals text b, terminals text c, taken text (kind_terminal k) xs a _ t refl, all, taken text (word Channel) b c _ u refl, names_spelled text ns.items c r n)
declaration_spelled text (declared.Process p) xs r (a, b, c, d, e, begins, called, (f, g, opened, parameters, closed), variables, (statements, some, formed), ended) =
    let head = parameters_spelled text p.parameters.items f g parameters in
    let last = takes_all_spelled text (sign Close ∷ sign Semicolon ∷ word Begin ∷ []) g c closed in
    let body = statements_spelled text p.statements.items d e statements in
    (_, _, _, _, _, taken text (word Process) xs a _ begins refl, taken text (name (name_of p.name)) a b _ called.0 refl, (_, _, taken text (sign Open) b f _ opened refl, head, last), variables_spelled text p.variables.items c d variables, (body, some, formed), taken text (word End) e r _ ended refl)

argument_spelled : (text : List ℕ) (x : Argument) (xs r : List Lexeme) → ArgumentSpans text x xs r → Argues (argument_tree x) (terminals text xs) (terminals text r)
argument_spelled text (argued.Channel n) xs r h = taken text (name (name_of n)) xs r _ h.0 refl
argument_spelled text (argued.Number z at) xs r (c, inl t) = inl (taken text (terminal.numeral z) xs r _ t refl)
argument_spelled text (argued.Number z at) xs r (c, inr (n, a, e, t, u)) =
    inr (n, terminals text a, e, taken text (sign Minus) xs a _ t refl, taken text (terminal.numeral n) a r _ u refl)
argument_spelled text (argued.Logical b at) xs r h = taken text (truth_terminal b) xs r _ h.1 refl

instance_spelled : (text : List ℕ) (i : Instance) (xs r : List Lexeme) → InstanceSpans text i xs r → Instantiates (instance_tree i) (terminals text xs) (terminals text r)
instance_spelled text i xs r (a, b, c, n, o, p, q) =
    let arguments = between_spelled text (sign Comma) (ArgumentSpans text) Argues argument_tree (argument_spelled text) i.arguments.items b c p in
    (_, _, _, taken text (name (name_of i.process)) xs a _ n.0 refl, taken text (sign Open) a b _ o refl, arguments, taken text (sign Close) c r _ q refl)

instances_spelled : (text : List ℕ) (is : List Instance) (xs r : List Lexeme) → InstancesSpan text is xs r → SomeBetween (StandsFirst (word Par)) Instantiates (map instance_tree is) (terminals text xs) (terminals text r)
instances_spelled text is xs r h = some_spelled text (word Par) (InstanceSpans text) Instantiates instance_tree (instance_spelled text) is xs r h

part_spelled : (text : List ℕ) (xs r : List Lexeme) → May (Takes text (sign Semicolon)) xs r → May (StandsFirst (sign Semicolon)) (terminals text xs) (terminals text r)
part_spelled text xs r (inl t) = inl (taken text (sign Semicolon) xs r _ t refl)
part_spelled text xs r (inr e) = inr (ap (terminals text) e)

pub program_spelled : (text : List ℕ) (p : Program) (xs : List Lexeme) → ProgramSpans text p xs → Spells (program_tree p) (terminals text xs)
program_spelled text p xs (a, b, c, d, e, t, f, g, h, u, v) =
    let declarations = ended_spelled text (sign Semicolon) (DeclarationSpans text) SpellsDeclaration declaration_tree (declaration_spelled text) p.declarations.items a b f in
    (_, _, _, _, _, taken text (word Begin) xs a _ t refl, declarations, instances_spelled text p.instances.items b c g, part_spelled text c d h, taken text (word End) d e _ u refl, part_spelled text e [] v)

pub nesting_more : (ds : List Declaration) (d : Declaration) → declarations_nesting (map declaration_tree ds) ≤ 64 → declaration_nesting (declaration_tree d) ≤ 64 →
    declarations_nesting (map declaration_tree (ds ++ d ∷ [])) ≤ 64
nesting_more [] d s t = omega (arith, t)
nesting_more (e ∷ ds) d s t = omega (arith, s, nesting_more ds d (omega (arith, s)) t)
