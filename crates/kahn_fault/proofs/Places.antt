-- The spans of a program's parts lie in its text, and so do those of what is wrong with it.
use Rattle.kahn_fault.proofs.Common.{refl, ◌≡◌, ℕ, ◌+◌, ◌≤◌, List, [], ◌∷◌, ◌++◌, length, inl, inr, sym, subst, arith, map, bytes_eq, Bool, true, false, Option, None, Some, suc, Program, WorkFault, check_span, syntax_span, IsUnchecked}
use Rattle.std.specs.Prelude.{Err, IfSome, nat_lt, nat_eq, if◌then◌else◌}
use Rattle.std.specs.{List.AllByRecursion, Map.lookup}
use Rattle.kahn_streams.specs.declared.{tree.Name.Name, tree.Kind.Kind, tree.Role.Role, tree.Direction.Direction, tree.Taking.Taking, tree.Parameter.Parameter, tree.Process.Process, tree.Declaration.Declaration, tree.Argument.Argument, tree.Instance.Instance, sides.Side.Side, span.Span.Span, tree.Statement.Statement, tree.Expression.Expression, fault.CheckFault.CheckFault}
use Rattle.kahn_streams.specs.declared.tree.Form.{Form, Number, Variable, Wait, Negate', Not', Bracket', Level', Conditional', Row_of-Operand, end_of-Operand, more_of-Operand}
use Rattle.kahn_streams.specs.declared.tree.Action.{Action, Empty, Assign, Send, Print, Block', If', While', Repeat', Row_of-Statement, end_of-Statement, more_of-Statement, Held-Action-If-2, None', Some'}
use Rattle.kahn_streams.specs.{declared.tree.Variable.Variable as OneVariable, declared.tree.Kind.TheVariants.Integer, declared.tree.Kind.TheVariants.Logical, declared.tree.Direction.TheVariants.In, declared.tree.Direction.TheVariants.Out, View.bytes_of}
use Rattle.kahn_streams.specs.declared.tree.Form as F
use Rattle.kahn_streams.specs.declared.tree.Role.TheVariants as role
use Rattle.kahn_streams.specs.declared.tree.Taking.TheVariants as T
use Rattle.kahn_streams.specs.declared.tree.Declaration.TheVariants as D
use Rattle.kahn_streams.specs.declared.tree.Argument.TheVariants as A
use Rattle.kahn_streams.specs.Wiring.{Global, IsChannel, IsProcess, Handover, Locals, locals_of, scope_of, entries, declared_channels, global, handed, handed_by, ends, writers, readers, side_at, is_closed, takes, gives}
use Rattle.kahn_streams.specs.declared.fault.CheckFault.TheVariants as checked
use Rattle.kahn_streams.specs.Faults.{find, wrong, same_kind, misread, misused, kind_in, kind_of, wrong_first, wrong_second, spanning, faults_in, level_faults, faults_as, faults_of, row_faults, else_faults, body_faults, repeated, twice, process_faults, channel_faults, declaration_faults, overtaken, misplaced, argument_faults, arguments_faults, made_faults, instance_faults, missing, side_faults, sides_faults, faults, most_channels, most_instances, verdict}
use Rattle.kahn_syntax.specs.declared.{lexeme.Lexeme.Lexeme, fault.SyntaxFault.SyntaxFault}
use Rattle.kahn_syntax.specs.declared.lexeme.Keyword.TheVariants as keyword
use Rattle.kahn_syntax.specs.declared.lexeme.Sign.TheVariants as mark
use Rattle.kahn_syntax.specs.declared.fault.SyntaxFault.TheVariants as syntax
use Rattle.kahn_syntax.specs.declared.fault.What.TheVariants as what
use Rattle.kahn_syntax.specs.Grammar.{Terminal, sign, word, Between, SomeBetween, Ended, Further, Grouped, group, all_members, taking_words, role_words, SomeNames, ParameterGroup, TakesAll, VariableGroup}
use Rattle.kahn_syntax.specs.Texts.{HasBytes, HasForm, Lexed, bytes_of_sign, Placed, Takes, Covers, NameSpans, FormSpans, OperandRowSpans, ExpressionSpans, ActionSpans, OtherSpans, StatementRowSpans, FurtherRowSpans, StatementSpans, IsLexFault, IsLongest, IsFault, IsNothing, IsOther, IsTooDeep, StandsAt, IsProgram, IsTextFault, lexemes, parameter_with, variable_with, DeclarationSpans, ArgumentSpans, InstanceSpans, ProcessSpans}
use Rattle.kahn_fault.specs.declared.work.WorkFault.TheVariants as work
use Rattle.kahn_fault.specs.Places.{LiesIn, fault_span}

abbrev IsPlace : List ℕ → CheckFault → Type 0
IsPlace text f = IfSome (check_span f) (LiesIn text)

data Are (text : List ℕ) : List CheckFault → Type 0 where
  none : Are text []
  more : {f : CheckFault} {fs : List CheckFault} → IsPlace text f → Are text fs → Are text (f ∷ fs)

module _ (text : List ℕ) where
  abbrev Lies : Span → Type 0
  Lies at = LiesIn text at

  abbrev AllIn : List Lexeme → Type 0
  AllIn xs = AllByRecursion (λ (x : Lexeme). Lies x.span) xs

  -- what a relation reads from lexemes of the text leaves such lexemes, and P holds of it
  abbrev Reads : (List Lexeme → List Lexeme → Type 0) → Type 0 → Type 0
  Reads R P = (xs r : List Lexeme) → R xs r → AllIn xs → AllIn r × P

  -- ---- lexemes

  bytes_on : (a b : ℕ) (cs : List ℕ) → HasBytes text a b cs → a ≤ b
  bytes_on a b [] e = omega (arith, e)
  bytes_on a b (c ∷ cs) (e, h) = omega (arith, bytes_on (a + 1) b cs h)

  form_on : (a b : ℕ) → HasForm text a b → a ≤ b
  form_on a b (inl letters) = omega (arith, letters.0)
  form_on a b (inr (inl run)) = omega (arith, run.0)
  form_on a b (inr (inr (s, h))) = bytes_on a b (bytes_of_sign s) h

  longest_in : (at : Span) → IsLongest text at.from at.to → Lies at
  longest_in at h = (omega (arith, form_on at.from at.to h.form, h.inside), h.inside)

  lexed_in : (a b : ℕ) (xs : List Lexeme) → Lexed text a b xs → AllIn xs
  lexed_in a b [] gap = tt
  lexed_in a b (x ∷ xs) (gap, stands, rest) = (longest_in x.span stands.longest, lexed_in x.span.to b xs rest)

  past : (k : Terminal) (xs r : List Lexeme) → Takes text k xs r → AllIn xs → AllIn r
  past k xs r (x, e, h) all = (subst AllIn e all).1

  all_past : (ks : List Terminal) (xs r : List Lexeme) → TakesAll (lexemes text) ks xs r → AllIn xs → AllIn r
  all_past [] xs r e all = subst AllIn e all
  all_past (k ∷ ks) xs r (a, h, further) all = all_past ks a r further (past k xs a h all)

  among : (before : List Lexeme) (x : Lexeme) (after : List Lexeme) → AllIn (before ++ x ∷ after) → Lies x.span
  among [] x after all = all.0
  among (y ∷ before) x after (l, all) = among before x after all

  placed_in : (xs : List Lexeme) (at : Span) (left : ℕ) → Placed xs at left → AllIn xs → Lies at
  placed_in xs at left (before, x, after, e, same, h) all = subst Lies (sym same) (among before x after (subst AllIn e all))

  covers : (at : Span) (xs r : List Lexeme) → Covers at xs r → AllIn xs → Lies at
  covers at xs r (first, last, begins, ends, from, to) all =
      (subst (λ i. i ≤ length text) (sym from) (placed_in xs first (length xs) begins all).0, subst (λ i. i ≤ length text) (sym to) (placed_in xs last (length r + 1) ends all).1)

  named : (n : Name) → Reads (NameSpans text n) (Lies n.span)
  named n xs r (t, c) all = (past _ xs r t all, covers n.span xs r c all)

  -- ---- lists of what is read one after another

  module _ {X : Type 0} (R : X → List Lexeme → List Lexeme → Type 0) (P : X → Type 0) (one : (x : X) → Reads (R x) (P x)) (k : Terminal) where
    further_in : (ys : List X) → Reads (Further (Takes text k) R ys) (AllByRecursion P ys)
    further_in [] xs r e all = (subst AllIn e all, tt)
    further_in (y ∷ ys) xs r (a, b, separator, h, rest) all =
        let i = one y a b h (past k xs a separator all) in
        let j = further_in ys b r rest i.0 in
        (j.0, (i.1, j.1))

    between_in : (ys : List X) → Reads (Between (Takes text k) R ys) (AllByRecursion P ys)
    between_in [] xs r e all = (subst AllIn e all, tt)
    between_in (y ∷ ys) xs r (a, h, rest) all =
        let i = one y xs a h all in
        let j = further_in ys a r rest i.0 in
        (j.0, (i.1, j.1))

    some_in : (ys : List X) → Reads (SomeBetween (Takes text k) R ys) (AllByRecursion P ys)
    some_in [] xs r h all = absurd h
    some_in (y ∷ ys) xs r h all = between_in (y ∷ ys) xs r h all

    ended_in : (ys : List X) → Reads (Ended (Takes text k) R ys) (AllByRecursion P ys)
    ended_in [] xs r e all = (subst AllIn e all, tt)
    ended_in (y ∷ ys) xs r (a, b, h, separator, rest) all =
        let i = one y xs a h all in
        let j = ended_in ys b r rest (past k a b separator i.0) in
        (j.0, (i.1, j.1))

  -- ---- faults

  both : {fs gs : List CheckFault} → Are text fs → Are text gs → Are text (fs ++ gs)
  both none k = k
  both (more t h) k = more t (both h k)

  unless : (b : Bool) (f : CheckFault) → IsPlace text f → Are text (if b then [] else f ∷ [])
  unless true f t = none
  unless false f t = more t none

  wrong_in : (a b : Kind) (at : Span) → Lies at → Are text (wrong a b at)
  wrong_in a b at l = unless (same_kind a b) (checked.WrongKind at) l

  misread_in : (t : Option Taking) (at : Span) → Lies at → Are text (misread t at)
  misread_in (Some (T.Value k)) at l = none
  misread_in t at l = more l none

  misused_in : (d : Direction) (t : Option Taking) (at : Span) → Lies at → Are text (misused d t at)
  misused_in In (Some (T.Channel In k)) at l = none
  misused_in Out (Some (T.Channel Out k)) at l = none
  misused_in d t at l = more l none

  first_in : (k : Option Kind) (found : Kind) (at : Span) → Lies at → Are text (wrong_first k found at)
  first_in None found at l = none
  first_in (Some k) found at l = wrong_in k found at l

  second_in : (k : Option Kind) (a found : Kind) (at : Span) → Lies at → Are text (wrong_second k a found at)
  second_in None a found at l = wrong_in a found at l
  second_in (Some k) a found at l = wrong_in k found at l

  -- ---- expressions

  mutual
    form_in : (f : Form) → Reads (FormSpans text f) ((s : Locals) → Are text (faults_in s f))
    form_in (Number z) xs r h all = (past _ xs r h all, λ s. none)
    form_in (F.Logical b) xs r h all = (past _ xs r h all, λ s. none)
    form_in (Variable x) xs r h all =
        let n = named x xs r h all in
        (n.0, λ s. misread_in (find s (bytes_of x)) x.span n.1)
    form_in (Wait q) xs r (a, b, c, wait, open', name, close) all =
        let n = named q b c name (past _ a b open' (past _ xs a wait all)) in
        (past _ c r close n.0, λ s. misused_in In (find s (bytes_of q)) q.span n.1)
    form_in (Negate' p at e) xs r (a, minus, (c, h)) all =
        let inside = past _ xs a minus all in
        let i = form_in e a r h inside in
        (i.0, λ s. both (i.1 s) (wrong_in Integer (kind_of s e) at (covers at a r c inside)))
    form_in (Not' p at e) xs r (a, not', (c, h)) all =
        let inside = past _ xs a not' all in
        let i = form_in e a r h inside in
        (i.0, λ s. both (i.1 s) (wrong_in Logical (kind_of s e) at (covers at a r c inside)))
    form_in (Bracket' p at e) xs r (a, b, open', (c, h), close) all =
        let i = form_in e a b h (past _ xs a open' all) in
        (past _ b r close i.0, i.1)
    form_in (Level' p at e shape row) xs r (a, (c, h), k) all =
        let i = form_in e xs a h all in
        let j = row_in row a r k i.0 in
        (j.0, λ s. both (i.1 s) (j.1 s (kind_of s e) at (covers at xs a c all)))
    form_in (Conditional' p at t q at' e s at'' f) xs r (a, b, c, d, g, if', (c1, h1), then', (c2, h2), else', (c3, h3)) all =
        let x = past _ xs a if' all in
        let i = form_in t a b h1 x in
        let j = form_in e c d h2 (past _ b c then' i.0) in
        let z = past _ d g else' j.0 in
        let k = form_in f g r h3 z in (
          k.0,
          λ m. both (both (i.1 m) (wrong_in Logical (kind_of m t) at (covers at a b c1 x)))
              (both (j.1 m) (both (k.1 m) (wrong_in (kind_of m e) (kind_of m f) at'' (covers at'' g r c3 z)))),
        )

    row_in : {m : _} (row : Row_of-Operand m) →
        Reads (OperandRowSpans text row) ((s : Locals) (k : Kind) (done : Span) → Lies done → Are text (level_faults s k done row))
    row_in end_of-Operand xs r e all = (subst AllIn e all, λ s k done l. none)
    row_in (more_of-Operand o at e rest) xs r (a, b, operator, (c, h), further) all =
        let x = past _ xs a operator all in
        let i = form_in e a b h x in
        let j = row_in rest b r further i.0 in
        let l = covers at a b c x in (
          j.0,
          λ s k done first. both (first_in (takes o) k done first)
              (both (i.1 s) (both (second_in (takes o) k (kind_of s e) at l) (j.1 s (gives o) (spanning done at) (first.0, l.1)))),
        )

  expression_in : (e : Expression) → Reads (ExpressionSpans text e) (((s : Locals) → Are text (faults_in s e.form)) × Lies e.span)
  expression_in e xs r (c, h) all =
      let i = form_in e.form xs r h all in
      (i.0, (i.1, covers e.span xs r c all))

  as_in : (k : Kind) (s : Locals) (e : Expression) → Are text (faults_in s e.form) → Lies e.span → Are text (faults_as k s e)
  as_in k s e h l = both h (wrong_in k (kind_of s e.form) e.span l)

  -- ---- statements

  mutual
    action_in : (x : Action) → Reads (ActionSpans text x) ((s : Locals) → Are text (faults_of s x))
    action_in Empty xs r e all = (subst AllIn e all, λ s. none)
    action_in (Assign n e) xs r (a, b, name, becomes, value) all =
        let i = named n xs a name all in
        let j = expression_in e b r value (past _ a b becomes i.0) in
        (j.0, λ s. both (misread_in (find s (bytes_of n)) n.span i.1) (as_in (kind_in (find s (bytes_of n))) s e (j.1.0 s) j.1.1))
    action_in (Send e n) xs r (a, b, c, send, value, on, name) all =
        let i = expression_in e a b value (past _ xs a send all) in
        let j = named n c r name (past _ b c on i.0) in (
          j.0,
          λ s. both (i.1.0 s) (both (misused_in Out (find s (bytes_of n)) n.span j.1) (wrong_in (kind_in (find s (bytes_of n))) (kind_of s e.form) e.span i.1.1)),
        )
    action_in (Print e) xs r (a, print, value) all =
        let i = expression_in e a r value (past _ xs a print all) in
        (i.0, i.1.0)
    action_in (Block' shape row) xs r (a, b, begin, rows, end) all =
        let i = statements_in row a b rows (past _ xs a begin all) in
        (past _ b r end i.0, i.1)
    action_in (If' t p at x other) xs r (a, b, c, d, if', test, then', (m, h), k) all =
        let i = expression_in t a b test (past _ xs a if' all) in
        let j = action_in x c d h (past _ b c then' i.0) in
        let l = other_in other d r k j.0 in
        (l.0, λ s. both (as_in Logical s t (i.1.0 s) i.1.1) (both (j.1 s) (l.1 s)))
    action_in (While' t p at x) xs r (a, b, c, while', test, do', (m, h)) all =
        let i = expression_in t a b test (past _ xs a while' all) in
        let j = action_in x c r h (past _ b c do' i.0) in
        (j.0, λ s. both (as_in Logical s t (i.1.0 s) i.1.1) (j.1 s))
    action_in (Repeat' p at x) xs r (a, repeat, (m, h)) all = action_in x a r h (past _ xs a repeat all)

    other_in : (o : Held-Action-If-2) → Reads (OtherSpans text o) ((s : Locals) → Are text (else_faults s o))
    other_in None' xs r e all = (subst AllIn e all, λ s. none)
    other_in (Some' p at x) xs r (a, else', (m, h)) all = action_in x a r h (past _ xs a else' all)

    statements_in : {m : _} (row : Row_of-Statement m) → Reads (StatementRowSpans text row) ((s : Locals) → Are text (row_faults s row))
    statements_in end_of-Statement xs r e all = (subst AllIn e all, λ s. none)
    statements_in (more_of-Statement at x rest) xs r (a, (m, h), k) all =
        let i = action_in x xs a h all in
        let j = others_in rest a r k i.0 in
        (j.0, λ s. both (i.1 s) (j.1 s))

    others_in : {m : _} (row : Row_of-Statement m) → Reads (FurtherRowSpans text row) ((s : Locals) → Are text (row_faults s row))
    others_in end_of-Statement xs r e all = (subst AllIn e all, λ s. none)
    others_in (more_of-Statement at x rest) xs r (a, b, semicolon, (m, h), k) all =
        let i = action_in x a b h (past _ xs a semicolon all) in
        let j = others_in rest b r k i.0 in
        (j.0, λ s. both (i.1 s) (j.1 s))

  abbrev IsStatement : Statement → Type 0
  IsStatement t = (s : Locals) → Are text (faults_of s t.action)

  body_in : (s : Locals) (ss : List Statement) → AllByRecursion IsStatement ss → Are text (body_faults s ss)
  body_in s [] h = none
  body_in s (t ∷ ss) (l, h) = both (l s) (body_in s ss h)

  -- ---- names that are declared

  abbrev AreNames : List Name → Type 0
  AreNames ns = AllByRecursion (λ (n : Name). Lies n.span) ns

  abbrev AreNamed : {A : Type 0} → List (Name × A) → Type 0
  AreNamed {A = A} es = AllByRecursion (λ (e : Name × A). Lies e.0.span) es

  names_in : (ns : List Name) → Reads (SomeNames (lexemes text) ns) (AreNames ns)
  names_in = some_in (NameSpans text) (λ (n : Name). Lies n.span) named (sign mark.Comma)

  -- names with what is made of each, before others
  named_more : {X A : Type 0} (name_of : X → Name × A) (make : Name → X) → ((n : Name) → (name_of (make n)).0 ≡ n) → (ns : List Name) (rest : List X) → AreNames ns
      → AreNamed (map name_of rest) → AreNamed (map name_of (map make ns ++ rest))
  named_more name_of make same [] rest h k = k
  named_more name_of make same (n ∷ ns) rest (l, h) k = (subst (λ (m : Name). Lies m.span) (sym (same n)) l, named_more name_of make same ns rest h k)

  named_both : {A : Type 0} (es gs : List (Name × A)) → AreNamed es → AreNamed gs → AreNamed (es ++ gs)
  named_both [] gs h k = k
  named_both (e ∷ es) gs (l, h) k = (l, named_both es gs h k)

  repeated_in : {A : Type 0} (o : Option A) (at : Span) → Lies at → Are text (repeated o at)
  repeated_in None at l = none
  repeated_in (Some x) at l = more l none

  twice_in : {A : Type 0} (known : List (List ℕ × A)) (es : List (Name × A)) → AreNamed es → Are text (twice known es)
  twice_in known [] h = none
  twice_in known (e ∷ es) (l, h) = both (repeated_in (lookup (bytes_eq (bytes_of e.0)) known) e.0.span l) (twice_in (known ++ (bytes_of e.0, e.1) ∷ []) es h)

  -- ---- parameters and variables

  abbrev AreGrouped : {K : Type 0} → Grouped K Name → Type 0
  AreGrouped (group t ns) = AreNames ns

  members_in : {K X A : Type 0} (name_of : X → Name × A) (make : K → Name → X) → ((t : K) (n : Name) → (name_of (make t n)).0 ≡ n) → (gs : List (Grouped K Name))
      → AllByRecursion AreGrouped gs → AreNamed (map name_of (all_members make gs))
  members_in name_of make same [] h = tt
  members_in name_of make same (group t ns ∷ gs) (l, h) = named_more name_of (make t) (same t) ns (all_members make gs) l (members_in name_of make same gs h)

  abbrev as_local : Parameter → Name × Taking
  as_local q = (q.name, q.taking)

  abbrev as_value : OneVariable → Name × Taking
  as_value v = (v.name, T.Value v.kind)

  parameters_in : (x : Grouped Taking Name) → Reads (ParameterGroup (lexemes text) x) (AreGrouped x)
  parameters_in (group t ns) xs r (a, taken, names) all = names_in ns a r names (all_past (taking_words t []) xs a taken all)

  variables_in : (x : Grouped Kind Name) → Reads (VariableGroup (lexemes text) x) (AreGrouped x)
  variables_in (group t ns) xs r (a, kind, names) all = names_in ns a r names (past _ xs a kind all)

  statement_in : (t : Statement) → Reads (StatementSpans text t) (IsStatement t)
  statement_in t xs r h all = action_in t.action xs r h.1 all

  process_in : (p : Process) → Reads (ProcessSpans text p) (Lies p.name.span × Are text (process_faults p))
  process_in p xs r (a, b, c, d, e, begins, name, (f, g, opened, parameters, closed), variables, (statements, some, formed), ended) all =
      let head = sign mark.Close ∷ sign mark.Semicolon ∷ word keyword.Begin ∷ [] in
      let i = named p.name a b name (past _ xs a begins all) in
      let j = between_in (ParameterGroup (lexemes text)) AreGrouped parameters_in (sign mark.Semicolon) parameters.0 f g parameters.2 (past _ b f opened i.0) in
      let k = ended_in (VariableGroup (lexemes text)) AreGrouped variables_in (sign mark.Semicolon) variables.0 c d variables.2 (all_past head g c closed j.0) in
      let l = between_in (StatementSpans text) IsStatement statement_in (sign mark.Semicolon) p.statements.items d e statements k.0 in
      let locals = named_both (map as_local p.parameters.items) (map as_value p.variables.items)
      (subst (λ ps. AreNamed (map as_local ps)) (sym parameters.1) (members_in as_local parameter_with (λ t n. refl) parameters.0 j.1))
      (subst (λ vs. AreNamed (map as_value vs)) (sym variables.1) (members_in as_value variable_with (λ t n. refl) variables.0 k.1)) in
      (past _ e r ended l.0, (i.1, both (twice_in [] (locals_of p) locals) (body_in (scope_of p) p.statements.items l.1)))

  -- ---- declarations

  abbrev IsDeclared : Declaration → Type 0
  IsDeclared (D.Channels kind o ns) = AreNames ns.items
  IsDeclared (D.Process p) = Lies p.name.span × Are text (process_faults p)

  declaration_in : (x : Declaration) → Reads (DeclarationSpans text x) (IsDeclared x)
  declaration_in (D.Channels kind o ns) xs r (a, b, c, k, role', channel, names) all =
      names_in ns.items c r names (past _ b c channel (all_past (role_words o []) a b role' (past _ xs a k all)))
  declaration_in (D.Process p) xs r h all = process_in p xs r h all

  channels_in : (known : List (List ℕ × Global)) (n : ℕ) (kind : Kind) (r : Role) (ns : List Name) → AreNames ns → Are text (channel_faults known n kind r ns)
  channels_in known n kind r [] h = none
  channels_in known n kind r (x ∷ xs) (l, h) =
      both (unless (nat_lt n most_channels) (checked.TooMany x.span) l)
      (both (repeated_in (lookup (bytes_eq (bytes_of x)) known) x.span l) (channels_in (known ++ (bytes_of x, IsChannel kind r) ∷ []) (suc n) kind r xs h))

  declarations_in : (known : List (List ℕ × Global)) (n : ℕ) (ds : List Declaration) → AllByRecursion IsDeclared ds → Are text (declaration_faults known n ds)
  declarations_in known n [] h = none
  declarations_in known n (D.Channels kind o ns ∷ ds) (l, h) =
      both (channels_in known n kind o ns.items l) (declarations_in (known ++ entries (map (λ x. (x, IsChannel kind o)) ns.items)) (n + length ns.items) ds h)
  declarations_in known n (D.Process p ∷ ds) (l, h) =
      both (repeated_in (lookup (bytes_eq (bytes_of p.name)) known) p.name.span l.0) (both l.1 (declarations_in (known ++ (bytes_of p.name, IsProcess p) ∷ []) n ds h))

  channels_named : (ds : List Declaration) → AllByRecursion IsDeclared ds → AreNamed (declared_channels ds)
  channels_named [] h = tt
  channels_named (D.Channels kind o ns ∷ ds) (l, h) =
      named_both (map (λ n. (n, (kind, o))) ns.items) (declared_channels ds) (each ns.items l) (channels_named ds h)
    where
      each : (ms : List Name) → AreNames ms → AreNamed {A = Kind × Role} (map (λ n. (n, (kind, o))) ms)
      each [] m = tt
      each (n ∷ ms) (k, m) = (k, each ms m)
  channels_named (D.Process p ∷ ds) (l, h) = channels_named ds h

  -- ---- instances

  abbrev IsArgument : Argument → Type 0
  IsArgument (A.Channel n) = Lies n.span
  IsArgument (A.Number z at) = Lies at
  IsArgument (A.Logical b at) = Lies at

  argument_in : (x : Argument) → Reads (ArgumentSpans text x) (IsArgument x)
  argument_in (A.Channel n) xs r h all = named n xs r h all
  argument_in (A.Number z at) xs r (c, inl h) all = (past _ xs r h all, covers at xs r c all)
  argument_in (A.Number z at) xs r (c, inr (n, a, e, minus, h)) all = (past _ a r h (past _ xs a minus all), covers at xs r c all)
  argument_in (A.Logical b at) xs r (c, h) all = (past _ xs r h all, covers at xs r c all)

  overtaken_in : (d : Direction) (closed : Bool) (taken : List Side) (at : Span) → Lies at → Are text (overtaken d closed taken at)
  overtaken_in d false [] at l = none
  overtaken_in In closed taken at l = more l none
  overtaken_in Out closed taken at l = more l none

  misplaced_in : (d : Direction) (k : Kind) (g : Option Global) (taken : List Side) (at : Span) → Lies at → Are text (misplaced d k g taken at)
  misplaced_in d k (Some (IsChannel kind r)) taken at l = both (wrong_in k kind at l) (overtaken_in d (is_closed d r) taken at l)
  misplaced_in d k g taken at l = more l none

  one_argument : (t : Program) (before : List Handover) (w : Taking) (x : Argument) → IsArgument x → Are text (argument_faults t before w x)
  one_argument t before (T.Channel d k) (A.Channel n) l = misplaced_in d k (global t n) (ends d (bytes_of n) before) n.span l
  one_argument t before (T.Value k) (A.Number z at) l = wrong_in k Integer at l
  one_argument t before (T.Value k) (A.Logical b at) l = wrong_in k Logical at l
  one_argument t before w x l = more l none

  all_arguments : (t : Program) (before : List Handover) (i q : ℕ) (ps : List Parameter) (xs : List Argument) → AllByRecursion IsArgument xs →
      Are text (arguments_faults t before i q ps xs)
  all_arguments t before i q [] xs h = none
  all_arguments t before i q (p ∷ ps) [] h = none
  all_arguments t before i q (p ∷ ps) (x ∷ xs) (l, h) =
      both (one_argument t before p.taking x l) (all_arguments t (before ++ handed (side_at i q) p.taking x) i (suc q) ps xs h)

  abbrev IsInstance : Instance → Type 0
  IsInstance x = Lies x.process.span × AllByRecursion IsArgument x.arguments.items

  made_in : (t : Program) (before : List Handover) (i : ℕ) (g : Option Global) (x : Instance) → IsInstance x → Are text (made_faults t before i g x)
  made_in t before i (Some (IsProcess p)) x h =
      both (unless (nat_eq (length p.parameters.items) (length x.arguments.items)) (checked.WrongCount x.process.span) h.0)
      (all_arguments t before i 0 p.parameters.items x.arguments.items h.1)
  made_in t before i g x h = more h.0 none

  instance_in : (x : Instance) → Reads (InstanceSpans text x) (IsInstance x)
  instance_in x xs r (a, b, c, name, open', h, close) all =
      let i = named x.process xs a name all in
      let j = between_in (ArgumentSpans text) IsArgument argument_in (sign mark.Comma) x.arguments.items b c h (past _ a b open' i.0) in
      (past _ c r close j.0, (i.1, j.1))

  instances_in : (t : Program) (before : List Handover) (i : ℕ) (ys : List Instance) → AllByRecursion IsInstance ys → Are text (instance_faults t before i ys)
  instances_in t before i [] h = none
  instances_in t before i (x ∷ xs) (l, h) =
      both (unless (nat_lt i most_instances) (checked.TooMany x.process.span) l.0)
      (both (made_in t before i (global t x.process) x l) (instances_in t (before ++ handed_by t i x) (suc i) xs h))

  -- ---- channels

  missing_in : (sides : List Side) (f : CheckFault) → IsPlace text f → Are text (missing sides f)
  missing_in [] f t = more t none
  missing_in (e ∷ es) f t = none

  side_in : (t : Program) (n : Name) (r : Role) → Lies n.span → Are text (side_faults t n r)
  side_in t n role.Inner l = both (missing_in (writers t (bytes_of n)) (checked.NoWriter n.span) l) (missing_in (readers t (bytes_of n)) (checked.NoReader n.span) l)
  side_in t n role.Input l = missing_in (readers t (bytes_of n)) (checked.NoReader n.span) l
  side_in t n role.Output l = missing_in (writers t (bytes_of n)) (checked.NoWriter n.span) l

  sides_in : (t : Program) (cs : List (Name × (Kind × Role))) → AreNamed cs → Are text (sides_faults t cs)
  sides_in t [] h = none
  sides_in t (c ∷ cs) (l, h) = both (side_in t c.0 c.1.1 l) (sides_in t cs h)

  -- ---- the whole program

  program_in : (t : Program) → IsProgram text t → Are text (faults t)
  program_in t (xs, lexed, (a, b, c, d, e, begin, declarations, instances, part, end, parted)) =
      let inside = past _ xs a begin (lexed_in 0 (length text) xs lexed.1) in
      let i = ended_in (DeclarationSpans text) IsDeclared declaration_in (sign mark.Semicolon) t.declarations.items a b declarations inside in
      let j = some_in (InstanceSpans text) IsInstance instance_in (word keyword.Par) t.instances.items b c instances i.0 in
      both (declarations_in [] 0 t.declarations.items i.1)
      (both (instances_in t [] 0 t.instances.items j.1) (sides_in t (declared_channels t.declarations.items) (channels_named t.declarations.items i.1)))

  -- ---- faults of the text

  abbrev IsSyntaxPlace : SyntaxFault → Type 0
  IsSyntaxPlace f = IfSome (syntax_span f) Lies

  lexical_in : (e : SyntaxFault) → IsLexFault text e → IsSyntaxPlace e
  lexical_in syntax.TooLong h = tt
  lexical_in (syntax.BadCharacter at) (a, reached, (same, (character, blank, form))) = (character.1.0, character.2.0)
  lexical_in (syntax.NumberTooLarge at) (a, reached, (same, (longest, run, large))) = longest_in at longest
  lexical_in (syntax.CommentOpen at) (a, reached, (same, (longest, letters, open'))) = longest_in at longest
  lexical_in (syntax.NameTooLong at) (a, reached, (same, (longest, letters, long))) = longest_in at longest
  lexical_in syntax.NoMemory h = tt
  lexical_in e h = absurd h.2

  stands_in : (xs : List Lexeme) (at : Span) (P : List Terminal → Terminal → Type 0) → StandsAt text xs at P → AllIn xs → Lies at
  stands_in xs at P (before, x, after, e, same, h) all = subst Lies (sym same) (among before x after (subst AllIn e all))

  grammatical_in : (xs : List Lexeme) (e : SyntaxFault) → IsFault text xs e → AllIn xs → IsSyntaxPlace e
  grammatical_in xs (syntax.Expected at what.More) (from, to, begins, whole) all = (omega (arith, from), omega (arith, to))
  grammatical_in xs (syntax.Expected at what.Nothing) h all = stands_in xs at IsNothing h all
  grammatical_in xs (syntax.Expected at what.Other) h all = stands_in xs at IsOther h all
  grammatical_in xs (syntax.TooDeep at) h all = stands_in xs at IsTooDeep h all
  grammatical_in xs syntax.NoMemory h all = tt
  grammatical_in xs e h all = absurd h

  syntax_in : (e : SyntaxFault) → IsTextFault text e → IsSyntaxPlace e
  syntax_in e (inl h) = lexical_in e h
  syntax_in e (inr (xs, lexed, h)) = grammatical_in xs e h (lexed_in 0 (length text) xs lexed.1)

  -- ---- the first fault

  first_of : (fs : List CheckFault) (f : CheckFault) → verdict fs (tt {0}) ≡ Err f → Are text fs → IsPlace text f
  first_of [] f e all = absurd cc
  first_of (g ∷ fs) f e (more l all) = subst (IsPlace text) (same g f e) l
    where
      same : (a b : CheckFault) → verdict (a ∷ []) (tt {0}) ≡ Err b → a ≡ b
      same a b e = cc

  pub fault_in : (f : WorkFault) → IsUnchecked text f → IfSome (fault_span f) Lies
  fault_in (work.Syntax e) h = syntax_in e h
  fault_in (work.Check f) (t, parsed, inl refused) = subst (IsPlace text) (sym refused) tt
  fault_in (work.Check f) (t, parsed, inr first) = first_of (faults t) f first (program_in t parsed.0)
  fault_in f h = absurd h
