-- One text spells one network: the network and the names are those of the tree without its spans.
use Rattle.kahn_report.proofs.Common.{◌≡◌, ℕ, pos, Bool, true, false, List, [], ◌∷◌, ◌++◌, map, Some, Option, refl, sym, ap, ◌∙◌, bytes_eq, if◌then◌else◌, Program, Scope, place_of, expr_of, level_of, stmt_of, row_of, body_of, bytes_of, names_of, Actual, Reads, Writes, Hands, Schema, idle, channels_of, process_of, actual_of, actuals_of, instance_from, network_of, ExpressionTree, number, truth, variable, wait, negation, denial, bracket, level, conditional, OperandTrees, no_operand, operand, StatementTree, empty, assign, send, print, block, if_then, if_else, while_do, repeat, StatementTrees, no_statement, statement, DeclarationTree, ArgumentTree, InstanceTree, ProgramTree, name_of, form_tree, operands_row, action_tree, statements_row, statement_trees, parameter_of, variable_of, declaration_tree, argument_tree, instance_tree, program_tree}
use Rattle.kahn_streams.specs.declared.tree.Form.{Form, Number, Logical, Variable, Wait, Negate', Not', Bracket', Level', Conditional', Row_of-Operand, end_of-Operand, more_of-Operand}
use Rattle.kahn_streams.specs.declared.tree.Action.{Action, Empty, Assign, Send, Print, Block', If', While', Repeat', Row_of-Statement, end_of-Statement, more_of-Statement, None', Some'}
use Rattle.kahn_streams.specs.{declared.tree.Statement.Statement, declared.tree.Kind.Kind, declared.tree.Role.Role, declared.tree.Taking.Taking, declared.tree.Parameter.Parameter, declared.tree.Process.Process, declared.tree.Declaration.Declaration, declared.tree.Argument.Argument, declared.tree.Instance.Instance as OneInstance, declared.tree.Direction.TheVariants.In, declared.tree.Direction.TheVariants.Out, Network.Node}
use Rattle.kahn_streams.specs.declared.tree.Taking.TheVariants as taking
use Rattle.kahn_streams.specs.declared.tree.Declaration.TheVariants as declared
use Rattle.kahn_streams.specs.declared.tree.Argument.TheVariants as argued
use Rattle.kahn_streams.specs.Syntax as S
use Rattle.kahn_syntax.specs.Grammar as whole

-- ---- expressions and statements of a tree

abbrev mutual
  expr_in : Scope → ExpressionTree → S.Expr
  expr_in names (number z) = S.Literal (S.Number z)
  expr_in names (truth b) = S.Literal (S.Truth b)
  expr_in names (variable x) = S.Variable (place_of names x)
  expr_in names (wait q) = S.Wait (place_of names q)
  expr_in names (negation e) = S.Negate (expr_in names e)
  expr_in names (denial e) = S.Not (expr_in names e)
  expr_in names (bracket e) = expr_in names e
  expr_in names (level e os) = level_in names (expr_in names e) os
  expr_in names (conditional t a b) = S.Conditional (expr_in names t) (expr_in names a) (expr_in names b)

  level_in : Scope → S.Expr → OperandTrees → S.Expr
  level_in names first no_operand = first
  level_in names first (operand o e os) = level_in names (S.Binary o first (expr_in names e)) os

abbrev mutual
  stmt_in : Scope → StatementTree → S.Stmt
  stmt_in names empty = S.Skip
  stmt_in names (assign x e) = S.Assign (place_of names x) (expr_in names e)
  stmt_in names (send e q) = S.Send (expr_in names e) (place_of names q)
  stmt_in names (print e) = S.Print (expr_in names e)
  stmt_in names (block ss) = row_in names ss
  stmt_in names (if_then t a) = S.If (expr_in names t) (stmt_in names a) S.Skip
  stmt_in names (if_else t a b) = S.If (expr_in names t) (stmt_in names a) (stmt_in names b)
  stmt_in names (while_do t a) = S.While (expr_in names t) (stmt_in names a)
  stmt_in names (repeat a) = S.Repeat (stmt_in names a)

  row_in : Scope → StatementTrees → S.Stmt
  row_in names no_statement = S.Skip
  row_in names (statement a rest) = S.Seq (stmt_in names a) (row_in names rest)

mutual
  same_expr : (names : Scope) (f : Form) → expr_of names f ≡ expr_in names (form_tree f)
  same_expr names (Number z) = refl
  same_expr names (Logical b) = refl
  same_expr names (Variable x) = refl
  same_expr names (Wait q) = refl
  same_expr names (Negate' p at e) = ap S.Negate (same_expr names e)
  same_expr names (Not' p at e) = ap S.Not (same_expr names e)
  same_expr names (Bracket' p at e) = same_expr names e
  same_expr names (Level' p at e shape row) = ap (λ x. level_of names x row) (same_expr names e) ∙ same_level names (expr_in names (form_tree e)) row
  same_expr names (Conditional' p at t q at' a r at'' b) = rw (same_expr names t, same_expr names a, same_expr names b) refl

  same_level : {m : _} (names : Scope) (first : S.Expr) (row : Row_of-Operand m) → level_of names first row ≡ level_in names first (operands_row row)
  same_level names first end_of-Operand = refl
  same_level names first (more_of-Operand o at e rest) =
      ap (λ x. level_of names (S.Binary o first x) rest) (same_expr names e) ∙ same_level names (S.Binary o first (expr_in names (form_tree e))) rest

mutual
  same_stmt : (names : Scope) (a : Action) → stmt_of names a ≡ stmt_in names (action_tree a)
  same_stmt names Empty = refl
  same_stmt names (Assign x e) = ap (S.Assign (place_of names (name_of x))) (same_expr names e.form)
  same_stmt names (Send e q) = ap (λ x. S.Send x (place_of names (name_of q))) (same_expr names e.form)
  same_stmt names (Print e) = ap S.Print (same_expr names e.form)
  same_stmt names (Block' shape row) = same_row names row
  same_stmt names (If' t p at a None') = rw (same_expr names t.form, same_stmt names a) refl
  same_stmt names (If' t p at a (Some' q at' b)) = rw (same_expr names t.form, same_stmt names a, same_stmt names b) refl
  same_stmt names (While' t p at a) = rw (same_expr names t.form, same_stmt names a) refl
  same_stmt names (Repeat' p at a) = ap S.Repeat (same_stmt names a)

  same_row : {m : _} (names : Scope) (row : Row_of-Statement m) → row_of names row ≡ row_in names (statements_row row)
  same_row names end_of-Statement = refl
  same_row names (more_of-Statement at a rest) = rw (same_stmt names a, same_row names rest) refl

same_body : (names : Scope) (ss : List Statement) → body_of names ss ≡ row_in names (statement_trees ss)
same_body names [] = refl
same_body names (s ∷ ss) = rw (same_stmt names s.action, same_body names ss) refl

-- ---- the network of a tree

abbrev parameter_name : Taking × List ℕ → List ℕ
parameter_name (t, n) = n

abbrev variable_name : Kind × List ℕ → List ℕ
variable_name (k, n) = n

abbrev variable_kind : Kind × List ℕ → Kind
variable_kind (k, n) = k

abbrev actual_in : Scope → Taking → ArgumentTree → Actual
actual_in channels (taking.Channel In k) (whole.channel n) = Reads (place_of channels n)
actual_in channels (taking.Channel Out k) (whole.channel n) = Writes (place_of channels n)
actual_in channels (taking.Value k) (whole.channel n) = Hands (S.Number (pos 0))
actual_in channels w (whole.number_argument z) = Hands (S.Number z)
actual_in channels w (whole.truth_argument b) = Hands (S.Truth b)

abbrev actuals_in : Scope → List (Taking × List ℕ) → List ArgumentTree → List Actual
actuals_in channels [] xs = []
actuals_in channels (q ∷ qs) [] = []
actuals_in channels ((t, n) ∷ qs) (x ∷ xs) = actual_in channels t x ∷ actuals_in channels qs xs

abbrev process_in : Scope → List (Taking × List ℕ) → List (Kind × List ℕ) → StatementTrees → List ArgumentTree → Node
process_in channels ps vs ss xs = record {
  actuals = actuals_in channels ps xs;
  variables = map variable_kind vs;
  body = row_in (map parameter_name ps ++ map variable_name vs) ss;
}

-- the instance of the process of that name
abbrev instance_in : Scope → List DeclarationTree → List ℕ → List ArgumentTree → Node
instance_in channels [] x xs = idle
instance_in channels (whole.channels k r ns ∷ ds) x xs = instance_in channels ds x xs
instance_in channels (whole.process n ps vs ss ∷ ds) x xs =
    if bytes_eq x n then process_in channels ps vs ss xs else instance_in channels ds x xs

abbrev channels_in : List DeclarationTree → List (List ℕ × (Kind × Role))
channels_in [] = []
channels_in (whole.channels k r ns ∷ ds) = map (λ n. (n, (k, r))) ns ++ channels_in ds
channels_in (whole.process n ps vs ss ∷ ds) = channels_in ds

abbrev instance_name : InstanceTree → List ℕ
instance_name (whole.instance n xs) = n

abbrev made_in : Scope → List DeclarationTree → InstanceTree → Node
made_in channels ds (whole.instance n xs) = instance_in channels ds n xs

abbrev pub network_in : ProgramTree → Schema
network_in (whole.program ds is) =
    record { channels = map (λ c. c.1) (channels_in ds); instances = map (made_in (map (λ c. c.0) (channels_in ds)) ds) is }

map_twice : {A B C : Type 0} (f : A → B) (g : B → C) (xs : List A) → map (λ x. g (f x)) xs ≡ map g (map f xs)
map_twice f g [] = refl
map_twice f g (x ∷ xs) = ap (λ l. g (f x) ∷ l) (map_twice f g xs)

map_alike : {A B : Type 0} (f g : A → B) → ((x : A) → f x ≡ g x) → (xs : List A) → map f xs ≡ map g xs
map_alike f g h [] = refl
map_alike f g h (x ∷ xs) = rw (h x) (ap (λ l. g x ∷ l) (map_alike f g h xs))

same_actual : (channels : Scope) (t : Taking) (x : Argument) → actual_of channels t x ≡ actual_in channels t (argument_tree x)
same_actual channels (taking.Channel In k) (argued.Channel n) = refl
same_actual channels (taking.Channel Out k) (argued.Channel n) = refl
same_actual channels (taking.Value k) (argued.Channel n) = refl
same_actual channels t (argued.Number z at) = refl
same_actual channels t (argued.Logical b at) = refl

same_actuals : (channels : Scope) (ps : List Parameter) (xs : List Argument) → actuals_of channels ps xs ≡ actuals_in channels (map parameter_of ps) (map argument_tree xs)
same_actuals channels [] xs = refl
same_actuals channels (p ∷ ps) [] = refl
same_actuals channels (p ∷ ps) (x ∷ xs) = rw (same_actual channels p.taking x, same_actuals channels ps xs) refl

same_names : (p : Process) → names_of p ≡ map parameter_name (map parameter_of p.parameters.items) ++ map variable_name (map variable_of p.variables.items)
same_names p = rw (map_twice parameter_of parameter_name p.parameters.items, map_twice variable_of variable_name p.variables.items) refl

same_process : (channels : Scope) (p : Process) (xs : List Argument) → instance_from channels (Some p) xs
    ≡ process_in channels (map parameter_of p.parameters.items) (map variable_of p.variables.items) (statement_trees p.statements.items) (map argument_tree xs)
same_process channels p xs =
    let actuals = same_actuals channels p.parameters.items xs in
    let kinds : map (λ v. v.kind) p.variables.items ≡ map variable_kind (map variable_of p.variables.items) = map_twice variable_of variable_kind p.variables.items in
    let body : body_of (names_of p) p.statements.items ≡ row_in (map parameter_name (map parameter_of p.parameters.items) ++ map variable_name (map variable_of p.variables.items)) (statement_trees p.statements.items) =
    same_body (names_of p) p.statements.items ∙ ap (λ n. row_in n (statement_trees p.statements.items)) (same_names p) in
    ap (λ (a : List Actual). record { actuals = a; variables = map (λ v. v.kind) p.variables.items; body = body_of (names_of p) p.statements.items }) actuals
    ∙ ap (λ (k : List Kind). record { actuals = actuals_in channels (map parameter_of p.parameters.items) (map argument_tree xs); variables = k; body = body_of (names_of p) p.statements.items }) kinds
    ∙ ap (λ (b : S.Stmt). record { actuals = actuals_in channels (map parameter_of p.parameters.items) (map argument_tree xs); variables = map variable_kind (map variable_of p.variables.items); body = b }) body

by_name : (channels : Scope) (b : Bool) (p : Process) (o : Option Process) (xs : List Argument) (this other : Node) →
    instance_from channels (Some p) xs ≡ this → instance_from channels o xs ≡ other → instance_from channels (if b then Some p else o) xs ≡ (if b then this else other)
by_name channels true p o xs this other e f = e
by_name channels false p o xs this other e f = f

same_instance : (channels : Scope) (ds : List Declaration) (x : List ℕ) (xs : List Argument) →
    instance_from channels (process_of ds x) xs ≡ instance_in channels (map declaration_tree ds) x (map argument_tree xs)
same_instance channels [] x xs = refl
same_instance channels (declared.Channels k r ns ∷ ds) x xs = same_instance channels ds x xs
same_instance channels (declared.Process p ∷ ds) x xs =
    by_name channels (bytes_eq x (name_of p.name)) p (process_of ds x) xs _ _ (same_process channels p xs) (same_instance channels ds x xs)

same_channels : (ds : List Declaration) → channels_of ds ≡ channels_in (map declaration_tree ds)
same_channels [] = refl
same_channels (declared.Channels k r ns ∷ ds) = rw (map_twice {C = List ℕ × (Kind × Role)} name_of (λ n. (n, (k, r))) ns.items, same_channels ds) refl
same_channels (declared.Process p ∷ ds) = same_channels ds

pub same_network : (t : Program) → network_of t ≡ network_in (program_tree t)
same_network t =
    let cs = same_channels t.declarations.items in
    let made : (i : OneInstance) → instance_from (map (λ c. c.0) (channels_of t.declarations.items)) (process_of t.declarations.items (bytes_of i.process)) i.arguments.items
    ≡ made_in (map (λ c. c.0) (channels_in (map declaration_tree t.declarations.items))) (map declaration_tree t.declarations.items) (instance_tree i) =
    λ i. same_instance _ t.declarations.items (name_of i.process) i.arguments.items
    ∙ ap (λ (l : List (List ℕ × (Kind × Role))). instance_in (map (λ c. c.0) l) (map declaration_tree t.declarations.items) (name_of i.process) (map argument_tree i.arguments.items)) cs in
    ap (λ (l : List (List ℕ × (Kind × Role))). record { channels = map (λ c. c.1) l; instances = (network_of t).instances }) cs
    ∙ ap (λ (l : List Node). record { channels = map (λ c. c.1) (channels_in (map declaration_tree t.declarations.items)); instances = l })
    (map_alike _ _ made t.instances.items ∙ map_twice instance_tree (made_in (map (λ c. c.0) (channels_in (map declaration_tree t.declarations.items))) (map declaration_tree t.declarations.items)) t.instances.items)

-- ---- two programs that are one tree

module _ (t u : Program) (one : program_tree t ≡ program_tree u) where
  pub one_network : network_of t ≡ network_of u
  one_network = same_network t ∙ ap network_in one ∙ sym (same_network u)

  abbrev declared_in : ProgramTree → List DeclarationTree
  declared_in (whole.program ds is) = ds

  abbrev composed_in : ProgramTree → List InstanceTree
  composed_in (whole.program ds is) = is

  pub one_channels : map (λ c. c.0) (channels_of t.declarations.items) ≡ map (λ c. c.0) (channels_of u.declarations.items)
  one_channels =
      ap (map (λ c. c.0)) (same_channels t.declarations.items ∙ ap channels_in (ap declared_in one) ∙ sym (same_channels u.declarations.items))

  pub one_processes : map (λ i. bytes_of i.process) t.instances.items ≡ map (λ i. bytes_of i.process) u.instances.items
  one_processes =
      map_twice instance_tree instance_name t.instances.items ∙ ap (map instance_name) (ap composed_in one) ∙ sym (map_twice instance_tree instance_name u.instances.items)
