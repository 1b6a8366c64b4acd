-- A list that a tree spells is read whole: declarations, instances and programs.
use Rattle.kahn_syntax.proofs.Common.{RuleToken, rules_of, TakesAll, subst, SomeBetween, Between, Ended, SomeNames, ParameterGroup, VariableGroup, spelling, a_kind, ◌≡◌, ℕ, ◌+◌, ◌≤◌, List, [], ◌∷◌, true, false, Some, ⊎_elim, refl, ap, ◌∙◌, arith, Further, Grouped, group, Kind, Role, Taking, Terminal, word, sign, name, statements_words, DeclarationTree, channels, process, ArgumentTree, channel, InstanceTree, instance, ProgramTree, program, kind_terminal, role_words, taking_words, Parameters, Variables, SpellsDeclaration, Argues, Instantiates, May, Spells, declaration_nesting, declarations_nesting, nesting, StandsFirst, leads, NamesTail, StatementsTail, GroupsTail, ArgumentsTail, InstancesTail, LastTail, Part, ProgramPart, DeclarationsPart, DeclarationPart, RolePart, GroupsPart, GroupPart, TakingPart, VariablesPart, StatementPart, InstancePart, ArgumentsPart, ArgumentPart, TokenPart, levels, step, Whole, fate, a_word, a_sign, a_name, a_number, Begin, Channel, Close, Comma, End, False, In, Input, Integer, Logical, Minus, Open, Out, Output, Par, Process, Semicolon, True, number_argument, truth_argument}
use Rattle.kahn_streams.specs.declared.tree.Kind.TheVariants as kind
use Rattle.kahn_streams.specs.declared.tree.Role.TheVariants as role
use Rattle.kahn_streams.specs.declared.tree.Direction.TheVariants as direction
use Rattle.kahn_streams.specs.declared.tree.Taking.TheVariants as taking
use Rattle.kahn_syntax.specs.Grammar as terminal
use Rattle.kahn_syntax.proofs.OneTree.{statements_start, Named, named_instances, no_par_end, no_comma, took, further_first, in_pair, process_words}
use Rattle.kahn_syntax.proofs.{Steps.go, Steps.take_token, Steps.skip_tail, WholeStatements.whole_statements}

-- none or more parts p, each behind k, which T tells
whole_further : {X : Type 0} (T p : Part) (t : RuleToken) (k : Terminal) (P : X → List Terminal → List Terminal → Type 0) (C : List Terminal → Type 0) (m : ℕ) (s : List Part) →
    rules_of T ≡ (true, (t, p ∷ T ∷ []) ∷ []) → step (T ∷ s) k ≡ Some (p ∷ T ∷ s) → levels (p ∷ T ∷ s) ≤ m → ((z : List Terminal) → C (k ∷ z)) →
    ((x : X) (ks r : List Terminal) → C r → P x ks r → fate m (p ∷ T ∷ s) ks ≡ fate m (T ∷ s) r) →
    (xs : List X) (ks r : List Terminal) → leads t r ≡ false → C r → Further (StandsFirst k) P xs ks r → fate m (T ∷ s) ks ≡ fate m s r
whole_further T p t k P C m s i j b c each [] ks r h d e = ap (fate m (T ∷ s)) e ∙ skip_tail T t _ m s r i h
whole_further T p t k P C m s i j b c each (x ∷ xs) ks r h d (y, z, e, f, q) =
    ap (fate m (T ∷ s)) e ∙ (go m (T ∷ s) (p ∷ T ∷ s) k y j b ∙ (each x y z (further_first k P C c xs z r q d) f ∙ whole_further T p t k P C m s i j b c each xs z r h d q))

pub whole_names : (ns : List (List ℕ)) (m : ℕ) (s : List Part) (ks r : List Terminal) → leads (a_sign Comma) r ≡ false → SomeNames spelling ns ks r → levels s ≤ m →
    fate m (TokenPart a_name ∷ NamesTail ∷ s) ks ≡ fate m s r
whole_names [] m s ks r h a b = absurd a
whole_names (n ∷ ns) m s ks r h (x, e, p) b =
    ap (fate m (TokenPart a_name ∷ NamesTail ∷ s)) e ∙ (take_token a_name m (NamesTail ∷ s) (name n) x refl b
    ∙ whole_further NamesTail (TokenPart a_name) (a_sign Comma) (sign Comma) spelling.named (λ z. Unit {0}) m s refl refl b (λ z. tt)
    (λ n ks r c e. ap (fate m (TokenPart a_name ∷ NamesTail ∷ s)) e ∙ take_token a_name m (NamesTail ∷ s) (name n) r refl b) ns x r h tt p)

pub take_kind : (k : Kind) (m : ℕ) (p u : List Part) (r : List Terminal) → step p (word Integer) ≡ Some u → step p (word Logical) ≡ Some u → levels u ≤ m →
    fate m p (kind_terminal k ∷ r) ≡ fate m u r
take_kind kind.Integer m p u r e f b = go m p u (word Integer) r e b
take_kind kind.Logical m p u r e f b = go m p u (word Logical) r f b

whole_taking : (t : Taking) (m : ℕ) (p u : List Part) (x : List ℕ) (r : List Terminal) → step p (word Integer) ≡ Some (TakingPart ∷ u) →
    step p (word Logical) ≡ Some (TakingPart ∷ u) → levels u ≤ m → fate m p (taking_words t (name x ∷ r)) ≡ fate m u (name x ∷ r)
whole_taking (taking.Channel direction.In k) m p u x r e f b =
    take_kind k m p (TakingPart ∷ u) (word In ∷ name x ∷ r) e f b ∙ go m (TakingPart ∷ u) u (word In) (name x ∷ r) refl b
whole_taking (taking.Channel direction.Out k) m p u x r e f b =
    take_kind k m p (TakingPart ∷ u) (word Out ∷ name x ∷ r) e f b ∙ go m (TakingPart ∷ u) u (word Out) (name x ∷ r) refl b
whole_taking (taking.Value k) m p u x r e f b = take_kind k m p (TakingPart ∷ u) (name x ∷ r) e f b ∙ refl

whole_group : (g : Grouped Taking (List ℕ)) (m : ℕ) (p s : List Part) (ks r : List Terminal) → step p (word Integer) ≡ Some (TakingPart ∷ TokenPart a_name ∷ NamesTail ∷ s) →
    step p (word Logical) ≡ Some (TakingPart ∷ TokenPart a_name ∷ NamesTail ∷ s) → leads (a_sign Comma) r ≡ false → ParameterGroup spelling g ks r → levels s ≤ m → fate m p ks ≡ fate m s r
whole_group (group t []) m p s ks r e f h (a, d, n) b = absurd n
whole_group (group t (n ∷ ns)) m p s ks r e f h (a, d, (x, g, q)) b =
    ap (fate m p) (took t ks a d ∙ ap (taking_words t) g)
    ∙ (whole_taking t m p (TokenPart a_name ∷ NamesTail ∷ s) n x e f b ∙ whole_names (n ∷ ns) m s (name n ∷ x) r h (x, refl, q) b)

whole_parameters : (ps : List (Taking × List ℕ)) (m : ℕ) (s : List Part) (ks x : List Terminal) → Parameters spelling in_pair ps ks (sign Close ∷ x) → levels s ≤ m →
    fate m (GroupsPart ∷ s) ks ≡ fate m s (sign Close ∷ x)
whole_parameters ps m s ks x ([], e, p) b = ap (fate m (GroupsPart ∷ s)) p
whole_parameters ps m s ks x (g ∷ gs, e, (z, p, q)) b =
    whole_group g m (GroupsPart ∷ s) (GroupsTail ∷ s) ks z refl refl (no_comma gs z x q) p b ∙ whole_further GroupsTail GroupPart (a_sign Semicolon) (sign Semicolon) (ParameterGroup spelling) (λ j. leads (a_sign Comma) j ≡ false) m s refl refl b (λ j. refl)
    (λ g ks r c p. whole_group g m (GroupPart ∷ GroupsTail ∷ s) (GroupsTail ∷ s) ks r refl refl c p b) gs z (sign Close ∷ x) refl refl q

pub skip_variables : (m : ℕ) (s : List Part) (r : List Terminal) → leads a_kind r ≡ false → fate m (VariablesPart ∷ s) r ≡ fate m s r
skip_variables m s r h = skip_tail VariablesPart a_kind _ m s r refl h

whole_togethers : (ts : List (Grouped Kind (List ℕ))) (m : ℕ) (s : List Part) (ks r : List Terminal) → Ended (StandsFirst (sign Semicolon)) (VariableGroup spelling) ts ks r → leads a_kind r ≡ false → levels s ≤ m →
    fate m (VariablesPart ∷ s) ks ≡ fate m s r
whole_togethers [] m s ks r e h b = ap (fate m (VariablesPart ∷ s)) e ∙ skip_variables m s r h
whole_togethers (group k ns ∷ ts) m s ks r (x, y, (z, e, n), g, q) h b =
    ap (fate m (VariablesPart ∷ s)) e
    ∙ (take_kind k m (VariablesPart ∷ s) (TokenPart a_name ∷ NamesTail ∷ (TokenPart (a_sign Semicolon) ∷ VariablesPart ∷ s)) z refl refl b
    ∙ (whole_names ns m (TokenPart (a_sign Semicolon) ∷ VariablesPart ∷ s) z x (ap (leads (a_sign Comma)) g) n b
    ∙ (ap (fate m (TokenPart (a_sign Semicolon) ∷ VariablesPart ∷ s)) g ∙ (take_token (a_sign Semicolon) m (VariablesPart ∷ s) (sign Semicolon) y refl b ∙ whole_togethers ts m s y r q h b))))

whole_variables : (vs : List (Kind × List ℕ)) (m : ℕ) (s : List Part) (ks r : List Terminal) → Variables spelling in_pair vs ks r → leads a_kind r ≡ false → levels s ≤ m →
    fate m (VariablesPart ∷ s) ks ≡ fate m s r
whole_variables vs m s ks r (ts, e, p) h b = whole_togethers ts m s ks r p h b

whole_role : (o : Role) (m : ℕ) (s : List Part) (ks r : List Terminal) → TakesAll spelling (role_words o []) ks (word Channel ∷ r) → levels s ≤ m →
    fate m (RolePart ∷ s) ks ≡ fate m s (word Channel ∷ r)
whole_role role.Inner m s ks r e b = ap (fate m (RolePart ∷ s)) e
whole_role role.Input m s ks r (a, e, f) b = ap (fate m (RolePart ∷ s)) (e ∙ ap (λ x. word Input ∷ x) f) ∙ go m (RolePart ∷ s) s (word Input) (word Channel ∷ r) refl b
whole_role role.Output m s ks r (a, e, f) b = ap (fate m (RolePart ∷ s)) (e ∙ ap (λ x. word Output ∷ x) f) ∙ go m (RolePart ∷ s) s (word Output) (word Channel ∷ r) refl b

-- what follows the word `process`
abbrev pub process_then : List Part → List Part
process_then s = TokenPart a_name ∷ TokenPart (a_sign Open) ∷ GroupsPart ∷ TokenPart (a_sign Close) ∷ TokenPart (a_sign Semicolon) ∷ TokenPart (a_word Begin)
    ∷ VariablesPart ∷ StatementPart ∷ StatementsTail ∷ TokenPart (a_word End) ∷ s

whole_declares : (d : DeclarationTree) (m : ℕ) (s : List Part) (ks x : List Terminal) → SpellsDeclaration d ks (sign Semicolon ∷ x) → levels s + declaration_nesting d ≤ m →
    fate m (DeclarationPart ∷ s) ks ≡ fate m s (sign Semicolon ∷ x)
whole_declares (channels k o ns) m s ks x (a, y, z, e, d, f, n) b =
    let c : levels s ≤ m = omega (arith, b) in
    ap (fate m (DeclarationPart ∷ s)) e
    ∙ (take_kind k m (DeclarationPart ∷ s) (RolePart ∷ TokenPart (a_word Channel) ∷ TokenPart a_name ∷ NamesTail ∷ s) a refl refl c
    ∙ (whole_role o m (TokenPart (a_word Channel) ∷ TokenPart a_name ∷ NamesTail ∷ s) a z (subst (TakesAll spelling (role_words o []) a) f d) c
    ∙ (take_token (a_word Channel) m (TokenPart a_name ∷ NamesTail ∷ s) (word Channel) z refl c ∙ whole_names ns m s z (sign Semicolon ∷ x) refl n c)))
whole_declares (process n ps vs body) m s ks x spelled bound =
    let (a, b, e, p, v, some, f) = process_words n ps vs body ks (sign Semicolon ∷ x) spelled in
    let c : levels s ≤ m = omega (arith, bound) in
    let body_parts : List Part = VariablesPart ∷ StatementPart ∷ StatementsTail ∷ TokenPart (a_word End) ∷ s in
    ap (fate m (DeclarationPart ∷ s)) e
    ∙ (go m (DeclarationPart ∷ s) (process_then s) (word Process) (name n ∷ sign Open ∷ a) refl c
    ∙ (take_token a_name m (TokenPart (a_sign Open) ∷ GroupsPart ∷ TokenPart (a_sign Close) ∷ TokenPart (a_sign Semicolon) ∷ TokenPart (a_word Begin) ∷ body_parts) (name n) (sign Open ∷ a) refl c
    ∙ (take_token (a_sign Open) m (GroupsPart ∷ TokenPart (a_sign Close) ∷ TokenPart (a_sign Semicolon) ∷ TokenPart (a_word Begin) ∷ body_parts) (sign Open) a refl c
    ∙ (whole_parameters ps m (TokenPart (a_sign Close) ∷ TokenPart (a_sign Semicolon) ∷ TokenPart (a_word Begin) ∷ body_parts) a (sign Semicolon ∷ word Begin ∷ b) p c
    ∙ (take_token (a_sign Close) m (TokenPart (a_sign Semicolon) ∷ TokenPart (a_word Begin) ∷ body_parts) (sign Close) (sign Semicolon ∷ word Begin ∷ b) refl c
    ∙ (take_token (a_sign Semicolon) m (TokenPart (a_word Begin) ∷ body_parts) (sign Semicolon) (word Begin ∷ b) refl c
    ∙ (take_token (a_word Begin) m body_parts (word Begin) b refl c
    ∙ (whole_variables vs m (StatementPart ∷ StatementsTail ∷ TokenPart (a_word End) ∷ s) b (statements_words body (word End ∷ sign Semicolon ∷ x)) v
    (statements_start body (sign Semicolon ∷ x) some) c
    ∙ (whole_statements body m (TokenPart (a_word End) ∷ s) (word End ∷ sign Semicolon ∷ x) some f tt bound
    ∙ take_token (a_word End) m s (word End) (sign Semicolon ∷ x) refl c)))))))))

open_declarations : (d : DeclarationTree) (m : ℕ) (s : List Part) (ks r : List Terminal) → SpellsDeclaration d ks r →
    fate m (DeclarationsPart ∷ s) ks ≡ fate m (DeclarationPart ∷ TokenPart (a_sign Semicolon) ∷ DeclarationsPart ∷ s) ks
open_declarations (channels kind.Integer o ns) m s ks r d = rw d.3 refl
open_declarations (channels kind.Logical o ns) m s ks r d = rw d.3 refl
open_declarations (process n ps vs body) m s ks r d = rw d.5 refl

named_declarations : (m : ℕ) (s : List Part) (r : List Terminal) → Named r → fate m (DeclarationsPart ∷ s) r ≡ fate m s r
named_declarations m s [] h = absurd h
named_declarations m s (name n ∷ r) h = refl
named_declarations m s (k ∷ r) h = absurd h

whole_declarations : (ds : List DeclarationTree) (m : ℕ) (s : List Part) (ks r : List Terminal) → Named r → Ended (StandsFirst (sign Semicolon)) SpellsDeclaration ds ks r → levels s + declarations_nesting ds ≤ m →
    fate m (DeclarationsPart ∷ s) ks ≡ fate m s r
whole_declarations [] m s ks r h e b = ap (fate m (DeclarationsPart ∷ s)) e ∙ named_declarations m s r h
whole_declarations (d ∷ ds) m s ks r h (y, x, p, g, q) b =
    let spelled = subst (SpellsDeclaration d ks) g p in
    open_declarations d m s ks (sign Semicolon ∷ x) spelled
    ∙ (whole_declares d m (TokenPart (a_sign Semicolon) ∷ DeclarationsPart ∷ s) ks x spelled (omega (arith, b))
    ∙ (take_token (a_sign Semicolon) m (DeclarationsPart ∷ s) (sign Semicolon) x refl (omega (arith, b)) ∙ whole_declarations ds m s x r h q (omega (arith, b))))

pub whole_argues : (a : ArgumentTree) (m : ℕ) (s : List Part) (ks r : List Terminal) → Argues a ks r → levels s ≤ m → fate m (ArgumentPart ∷ s) ks ≡ fate m s r
whole_argues (channel n) m s ks r e b = ap (fate m (ArgumentPart ∷ s)) e ∙ go m (ArgumentPart ∷ s) s (name n) r refl b
whole_argues (truth_argument true) m s ks r e b = ap (fate m (ArgumentPart ∷ s)) e ∙ go m (ArgumentPart ∷ s) s (word True) r refl b
whole_argues (truth_argument false) m s ks r e b = ap (fate m (ArgumentPart ∷ s)) e ∙ go m (ArgumentPart ∷ s) s (word False) r refl b
whole_argues (number_argument z) m s ks r e b =
    ⊎_elim
    (λ p. ap (fate m (ArgumentPart ∷ s)) p ∙ go m (ArgumentPart ∷ s) s (terminal.numeral z) r refl b)
    (λ (n, x, q, p, e). ap (fate m (ArgumentPart ∷ s)) (p ∙ ap (λ j. sign Minus ∷ j) e) ∙ (go m (ArgumentPart ∷ s) (TokenPart a_number ∷ s) (sign Minus) (terminal.numeral n ∷ r) refl b
    ∙ take_token a_number m s (terminal.numeral n) r refl b))
    e

-- the first argument, and the others
abbrev pub arguments_then : List Part → List Part
arguments_then s = ArgumentPart ∷ ArgumentsTail ∷ TokenPart (a_sign Close) ∷ s

open_arguments : (a : ArgumentTree) (m : ℕ) (s : List Part) (ks r : List Terminal) → Argues a ks r → fate m (ArgumentsPart ∷ s) ks ≡ fate m (arguments_then s) ks
open_arguments (channel n) m s ks r e = rw e refl
open_arguments (truth_argument true) m s ks r e = rw e refl
open_arguments (truth_argument false) m s ks r e = rw e refl
open_arguments (number_argument z) m s ks r e = ⊎_elim (λ p. rw p refl) (λ (n, x, q, p, e). rw p refl) e

whole_arguments : (xs : List ArgumentTree) (m : ℕ) (s : List Part) (ks r : List Terminal) → Between (StandsFirst (sign Comma)) Argues xs ks (sign Close ∷ r) → levels s ≤ m →
    fate m (ArgumentsPart ∷ s) ks ≡ fate m s r
whole_arguments [] m s ks r e b = ap (fate m (ArgumentsPart ∷ s)) e ∙ go m (ArgumentsPart ∷ s) s (sign Close) r refl b
whole_arguments (a ∷ xs) m s ks r (x, p, q) b =
    open_arguments a m s ks x p
    ∙ (whole_argues a m (ArgumentsTail ∷ TokenPart (a_sign Close) ∷ s) ks x p b
    ∙ (whole_further ArgumentsTail ArgumentPart (a_sign Comma) (sign Comma) Argues (λ z. Unit {0}) m (TokenPart (a_sign Close) ∷ s) refl refl b (λ z. tt)
    (λ a ks r c p. whole_argues a m (ArgumentsTail ∷ TokenPart (a_sign Close) ∷ s) ks r p b) xs x (sign Close ∷ r) refl tt q ∙ take_token (a_sign Close) m s (sign Close) r refl b))

whole_instantiates : (i : InstanceTree) (m : ℕ) (s : List Part) (ks r : List Terminal) → Instantiates i ks r → levels s ≤ m → fate m (InstancePart ∷ s) ks ≡ fate m s r
whole_instantiates (instance n xs) m s ks r (x, y, z, e, f, p, g) b =
    ap (fate m (InstancePart ∷ s)) (e ∙ ap (λ j. name n ∷ j) f)
    ∙ (go m (InstancePart ∷ s) (TokenPart (a_sign Open) ∷ ArgumentsPart ∷ s) (name n) (sign Open ∷ y) refl b
    ∙ (take_token (a_sign Open) m (ArgumentsPart ∷ s) (sign Open) y refl b ∙ whole_arguments xs m s y r (subst (λ j. Between (StandsFirst (sign Comma)) Argues xs y j) g p) b))

whole_instances : (is : List InstanceTree) (m : ℕ) (s : List Part) (ks r : List Terminal) → leads (a_word Par) r ≡ false → SomeBetween (StandsFirst (word Par)) Instantiates is ks r → levels s ≤ m →
    fate m (InstancePart ∷ InstancesTail ∷ s) ks ≡ fate m s r
whole_instances [] m s ks r h p b = absurd p
whole_instances (i ∷ is) m s ks r h (x, p, q) b = whole_instantiates i m (InstancesTail ∷ s) ks x p b ∙ whole_further InstancesTail InstancePart (a_word Par) (word Par) Instantiates (λ z. Unit {0}) m s refl refl b (λ z. tt)
    (λ i ks r c p. whole_instantiates i m (InstancesTail ∷ s) ks r p b) is x r h tt q

whole_maybe : (m : ℕ) (s : List Part) (ks r : List Terminal) → leads (a_sign Semicolon) r ≡ false → May (StandsFirst (sign Semicolon)) ks r → levels s ≤ m → fate m (LastTail ∷ s) ks ≡ fate m s r
whole_maybe m s ks r h e b =
    ⊎_elim (λ p. ap (fate m (LastTail ∷ s)) p ∙ go m (LastTail ∷ s) s (sign Semicolon) r refl b)
    (λ p. ap (fate m (LastTail ∷ s)) p ∙ skip_tail LastTail (a_sign Semicolon) _ m s r refl h) e

-- A program of at most this nesting is read whole.
pub whole_program : (m : ℕ) (t : ProgramTree) (ks : List Terminal) → nesting t ≤ m → Spells t ks → fate m (ProgramPart ∷ []) ks ≡ Whole
whole_program m (program ds is) ks n (a, b, c, d, e, p, h, i, maybe, v, last) =
    let ends : List Part = TokenPart (a_word End) ∷ LastTail ∷ [] in
    let some : 0 ≤ m = omega arith in
    ap (fate m (ProgramPart ∷ [])) p
    ∙ (go m (ProgramPart ∷ []) (DeclarationsPart ∷ InstancePart ∷ InstancesTail ∷ LastTail ∷ ends) (word Begin) a refl some
    ∙ (whole_declarations ds m (InstancePart ∷ InstancesTail ∷ LastTail ∷ ends) a b (named_instances is b c i) h (omega (arith, n))
    ∙ (whole_instances is m (LastTail ∷ ends) b c (no_par_end c d e maybe v) i some
    ∙ (whole_maybe m ends c d (ap (leads (a_sign Semicolon)) v) maybe some
    ∙ (ap (fate m ends) v
    ∙ (take_token (a_word End) m (LastTail ∷ []) (word End) e refl some
    ∙ (whole_maybe m [] e [] refl last some ∙ refl)))))))
