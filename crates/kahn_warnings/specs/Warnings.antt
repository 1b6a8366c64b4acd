-- Believed. What is warned of, and in which order: the comments first, then one process after another, and in each its instances, its
-- parameters, its variables, its statements and the constants in these; and then statements by their indentation.
use Rattle.std.specs.Prelude.{◌≡◌, ℕ, Bool, true, false, List, [], ◌∷◌, ◌++◌, Option, Some, None, if◌then◌else◌, flat_map}
use Rattle.std.specs.{List.list_any, Option.option_or}
use Rattle.std.proofs.Common.{bytes_eq}
use Rattle.kahn_streams.specs.{View.bytes_of, View.expression_of, View.stmt_of, View.statement_of, declared.tree.Kind.TheVariants.Integer, declared.tree.Kind.TheVariants.Logical}
use Rattle.kahn_streams.specs.declared.{span.Span.Span, tree.Kind.Kind, tree.Name.Name, tree.Statement.Statement, tree.Parameter.Parameter, tree.Process.Process, tree.Instance.Instance, tree.Declaration.Declaration, tree.Program.Program, tree.Variable.Variable}
use Rattle.kahn_streams.specs.declared.tree.Action.{Action, Block', If', While', Repeat', Row_of-Statement, end_of-Statement, more_of-Statement, Held-Action-If-2, None', Some'}
use Rattle.kahn_streams.specs.declared.tree.Declaration.TheVariants as D
use Rattle.kahn_warnings.specs.{Comments.AreCommentWarnings, Constants.constant_of, Constants.is_true, Constants.site_kind, Loops.is_seen, Loops.never_ends, Sites.body_sites, Uses.assigns, Uses.is_empty, Uses.uses_name, Warned.warned, declared.sites.ConstantSite.ConstantSite, declared.program.Warning.Warning, declared.program.WarningKind.WarningKind}
use Rattle.kahn_warnings.specs.declared.program.WarningKind.TheVariants.{NoInstance, Unused, Unread, StaysZero, StaysFalse, Idle, Unreached, BareThen, Beside}

-- ---- a process without an instance

abbrev pub is_of : Process → Instance → Bool
is_of p i = bytes_eq (bytes_of i.process) (bytes_of p.name)

abbrev pub process_kind : List Instance → Process → Option WarningKind
process_kind is p = if list_any (is_of p) is then None else Some NoInstance

-- ---- names that nothing needs

-- of a variable of this kind, or of a parameter: a variable has the value that it begins with
abbrev pub name_kind : Bool → Bool → Option Kind → Option WarningKind
name_kind false false k = Some Unused
name_kind false true k = Some Unread
name_kind true false (Some Integer) = Some StaysZero
name_kind true false (Some Logical) = Some StaysFalse
name_kind true false None = None
name_kind true true k = None

-- where these names are used, and these are assigned
abbrev pub name_warnings : (List ℕ → Bool) → (List ℕ → Bool) → Option Kind → Name → List Warning
name_warnings used assigned k n = warned (name_kind (used (bytes_of n)) (assigned (bytes_of n)) k) (Some n.span)

abbrev pub parameter_warnings : Process → Parameter → List Warning
parameter_warnings p q = name_warnings (uses_name p) (assigns p) None q.name

abbrev pub variable_warnings : Process → Variable → List Warning
variable_warnings p v = name_warnings (uses_name p) (assigns p) (Some v.kind) v.name

abbrev pub names_warnings : Process → List Warning
names_warnings p = flat_map (parameter_warnings p) p.parameters.items ++ flat_map (variable_warnings p) p.variables.items

-- ---- loops

-- a loop that may have no end, and may wait, send or print
abbrev pub loop_kind : Bool → Bool → Option WarningKind
loop_kind true false = Some Idle
loop_kind true true = None
loop_kind false seen = None

-- the first of these statements that isn't empty
abbrev pub first_standing : List Statement → Option Span
first_standing [] = None
first_standing (s ∷ rest) = option_or s.span (first_standing rest)

-- the first such statement behind one that never ends
abbrev pub first_unreached : List Statement → Option Span
first_unreached [] = None
first_unreached (s ∷ rest) = if never_ends (statement_of [] s) then first_standing rest else first_unreached rest

-- ---- in each statement

-- of a list of statements beside those of each
abbrev pub list_warnings : List Statement → List Warning
list_warnings ss = warned (Some Unreached) (first_unreached ss)

-- the statements of a block
abbrev pub block_items : {m : _} → Row_of-Statement m → List Statement
block_items end_of-Statement = []
block_items (more_of-Statement at a rest) = record { span = at; action = a } ∷ block_items rest

-- an `if` without `else`
abbrev pub bare_kind : Action → Option WarningKind
bare_kind a = if is_empty a then Some BareThen else None

-- in a statement that stands here
abbrev mutual
  pub statement_warnings : Option Span → Action → List Warning
  statement_warnings at (Block' shape row) = row_warnings row ++ list_warnings (block_items row)
  statement_warnings at (If' t p span a b) = statement_warnings span a ++ else_warnings at a b
  statement_warnings at (While' t p span a) =
      statement_warnings span a ++ warned (loop_kind (is_true (constant_of (expression_of [] t))) (is_seen (stmt_of [] a))) at
  statement_warnings at (Repeat' p span a) = statement_warnings span a ++ warned (loop_kind true (is_seen (stmt_of [] a))) at
  statement_warnings at a = []

  pub row_warnings : {m : _} → Row_of-Statement m → List Warning
  row_warnings end_of-Statement = []
  row_warnings (more_of-Statement span a rest) = statement_warnings span a ++ row_warnings rest

  pub else_warnings : Option Span → Action → Held-Action-If-2 → List Warning
  else_warnings at a None' = warned (bare_kind a) at
  else_warnings at a (Some' p span b) = statement_warnings span b

abbrev pub body_warnings : List Statement → List Warning
body_warnings ss = flat_map (λ s. statement_warnings s.span s.action) ss ++ list_warnings ss

-- ---- constants

abbrev pub site_warnings : ConstantSite → List Warning
site_warnings s = warned (site_kind s.kind) (Some s.span)

abbrev pub body_constants : List Statement → List Warning
body_constants ss = flat_map site_warnings (body_sites ss)

-- ---- the whole

abbrev pub declaration_warnings : List Instance → Declaration → List Warning
declaration_warnings is (D.Channels kind role names) = []
declaration_warnings is (D.Process p) =
    warned (process_kind is p) (Some p.name.span) ++ names_warnings p ++ body_warnings p.statements.items ++ body_constants p.statements.items

abbrev pub program_warnings : Program → List Warning
program_warnings t = flat_map (declaration_warnings t.instances.items) t.declarations.items

-- a statement that is indented as if it belonged to the one before
abbrev pub by_layout : Span → List Warning
by_layout at = warned (Some Beside) (Some at)

-- what is warned of in a program of this text: by its comments, by its tree, and such statements
abbrev pub AreWarnings : List ℕ → Program → List Warning → Type 0
AreWarnings text t ws = (comments : List Warning) × AreCommentWarnings text comments × (spans : List Span) × (ws ≡ (comments ++ program_warnings t) ++ flat_map by_layout spans)
