-- No two trees spell one list: declarations, instances and programs.
use Rattle.kahn_syntax.proofs.Common.{FormedStatements, Input, Output, Between, SomeBetween, Ended, SomeNames, ParameterGroup, VariableGroup, TakesAll, spelling, In, Out, ◌≡◌, ℕ, List, [], ◌∷◌, true, false, ⊎_elim, refl, sym, ap, ◌∙◌, subst, true≢false, RuleToken, a_kind, accepts, leads, Further, Grouped, group, all_members, Kind, Role, Taking, Terminal, word, sign, name, empty, StatementTrees, no_statement, statement, statements_words, AreSome, DeclarationTree, channels, process, ArgumentTree, channel, InstanceTree, instance, ProgramTree, program, kind_terminal, role_words, taking_words, Parameters, Variables, SpellsDeclaration, Argues, Instantiates, May, Spells, StandsFirst, a_sign, a_word, Begin, Channel, Close, Comma, End, Integer, Logical, Open, Par, Process, Semicolon, number_argument, truth_argument}
use Rattle.kahn_streams.specs.declared.tree.Kind.TheVariants as kind
use Rattle.kahn_streams.specs.declared.tree.Role.TheVariants as role
use Rattle.kahn_streams.specs.declared.tree.Direction.TheVariants as direction
use Rattle.kahn_streams.specs.declared.tree.Taking.TheVariants as taking
use Rattle.kahn_syntax.proofs.{Unique.tail_is, Blocks.same_statements}

-- what leads on stands there
no_lead : (t : RuleToken) (k : Terminal) (r x : List Terminal) → accepts t k ≡ true → leads t r ≡ false → r ≡ k ∷ x → ⊥
no_lead t k r x u h e = true≢false (sym u ∙ (ap (leads t) (sym e) ∙ h))

-- C holds of what stands behind a part: of the end, and of what k stands before
pub further_first : {X : Type 0} (k : Terminal) (P : X → List Terminal → List Terminal → Type 0) (C : List Terminal → Type 0) → ((z : List Terminal) → C (k ∷ z)) →
    (xs : List X) (ks r : List Terminal) → Further (StandsFirst k) P xs ks r → C r → C ks
further_first k P C c [] ks r e h = subst C (sym e) h
further_first k P C c (x ∷ xs) ks r (a, b, e, p, f) h = subst C (sym e) (c a)

same_further : {X : Type 0} (t : RuleToken) (k : Terminal) (P : X → List Terminal → List Terminal → Type 0) (C : List Terminal → Type 0) → accepts t k ≡ true → ((z : List Terminal) → C (k ∷ z))
    → ((x y : X) (ks r q : List Terminal) → C r → C q → P x ks r → P y ks q → (x ≡ y) × (r ≡ q)) → (xs ys : List X) (ks r q : List Terminal) → leads t r ≡ false → leads t q ≡ false
    → C r → C q → Further (StandsFirst k) P xs ks r → Further (StandsFirst k) P ys ks q → (xs ≡ ys) × (r ≡ q)
same_further t k P C u ck one [] [] ks r q x y c d e f = (refl, sym e ∙ f)
same_further t k P C u ck one [] (b ∷ ys) ks r q x y c d e (m, n, f, p, g) = absurd (no_lead t k r m u x (sym e ∙ f))
same_further t k P C u ck one (a ∷ xs) [] ks r q x y c d (m, n, f, p, g) e = absurd (no_lead t k q m u y (sym e ∙ f))
same_further t k P C u ck one (a ∷ xs) (b ∷ ys) ks r q x y c d (m, n, e, p, h) (m', n', e', p', h') =
    let first : m' ≡ m = tail_is _ _ _ _ (sym e' ∙ e) in
    let z = one a b m n n' (further_first k P C ck xs n r h c) (further_first k P C ck ys n' q h' d) p (subst (λ j. P b j n') first p') in
    let w = same_further t k P C u ck one xs ys n r q x y c d h (subst (λ j. Further (StandsFirst k) P ys j q) (sym z.1) h') in (cc, w.1)

-- one or more of which the end tells nothing
same_some : {X : Type 0} (t : RuleToken) (k : Terminal) (P : X → List Terminal → List Terminal → Type 0) → accepts t k ≡ true
    → ((x y : X) (ks r q : List Terminal) → P x ks r → P y ks q → (x ≡ y) × (r ≡ q)) → (xs ys : List X) (ks r q : List Terminal) → leads t r ≡ false → leads t q ≡ false
    → SomeBetween (StandsFirst k) P xs ks r → SomeBetween (StandsFirst k) P ys ks q → (xs ≡ ys) × (r ≡ q)
same_some t k P u one [] ys ks r q x y h g = absurd h
same_some t k P u one xs [] ks r q x y h g = absurd g
same_some t k P u one (a ∷ xs) (b ∷ ys) ks r q x y (m, p, h) (m', p', h') =
    let z = one a b ks m m' p p' in
    let w = same_further t k P (λ j. Unit {0}) u (λ j. tt) (λ v w ks r q c d. one v w ks r q) xs ys m r q x y tt tt h (subst (λ j. Further (StandsFirst k) P ys j q) (sym z.1) h') in (cc, w.1)

same_names : (ns ms : List (List ℕ)) (ks r q : List Terminal) → leads (a_sign Comma) r ≡ false → leads (a_sign Comma) q ≡ false → SomeNames spelling ns ks r → SomeNames spelling ms ks q → (ns ≡ ms) × (r ≡ q)
same_names ns ms ks r q x y h g = same_some (a_sign Comma) (sign Comma) spelling.named refl (λ n m ks r q e f. (cc, cc)) ns ms ks r q x y h g

same_kind : (k l : Kind) (r q : List Terminal) → kind_terminal k ∷ r ≡ kind_terminal l ∷ q → k ≡ l
same_kind kind.Integer kind.Integer r q e = refl
same_kind kind.Logical kind.Logical r q e = refl
same_kind _ _ r q e = absurd cc

same_role : (a b : Role) (r q : List Terminal) → role_words a (word Channel ∷ r) ≡ role_words b (word Channel ∷ q) → (a ≡ b) × (r ≡ q)
same_role role.Inner role.Inner r q e = (refl, cc)
same_role role.Input role.Input r q e = (refl, cc)
same_role role.Output role.Output r q e = (refl, cc)
same_role _ _ r q e = absurd cc

same_taking : (t u : Taking) (n m : List ℕ) (r q : List Terminal) → taking_words t (name n ∷ r) ≡ taking_words u (name m ∷ q) → (t ≡ u) × (name n ∷ r ≡ name m ∷ q)
same_taking (taking.Channel direction.In k) (taking.Channel direction.In l) n m r q e = (ap (taking.Channel direction.In) (same_kind k l _ _ e), tail_is _ _ _ _ (tail_is _ _ _ _ e))
same_taking (taking.Channel direction.Out k) (taking.Channel direction.Out l) n m r q e = (ap (taking.Channel direction.Out) (same_kind k l _ _ e), tail_is _ _ _ _ (tail_is _ _ _ _ e))
same_taking (taking.Value k) (taking.Value l) n m r q e = (ap taking.Value (same_kind k l _ _ e), tail_is _ _ _ _ e)
same_taking (taking.Value k) (taking.Channel direction.In l) n m r q e = let z = tail_is _ _ _ _ e in absurd cc
same_taking _ _ n m r q e = let z = tail_is _ _ _ _ e in absurd cc

kind_close : (k : Kind) (x y : List Terminal) → sign Close ∷ x ≡ kind_terminal k ∷ y → ⊥
kind_close kind.Integer x y e = cc
kind_close kind.Logical x y e = cc

taking_close : (t : Taking) (x y : List Terminal) → sign Close ∷ x ≡ taking_words t y → ⊥
taking_close (taking.Channel direction.In k) x y e = kind_close k _ _ e
taking_close (taking.Channel direction.Out k) x y e = kind_close k _ _ e
taking_close (taking.Value k) x y e = kind_close k _ _ e

pub took : (t : Taking) (ks r : List Terminal) → TakesAll spelling (taking_words t []) ks r → ks ≡ taking_words t r
took (taking.Channel direction.In k) ks r (a, e, (b, f, g)) = e ∙ ap (λ x. kind_terminal k ∷ x) (f ∙ ap (λ x. word In ∷ x) g)
took (taking.Channel direction.Out k) ks r (a, e, (b, f, g)) = e ∙ ap (λ x. kind_terminal k ∷ x) (f ∙ ap (λ x. word Out ∷ x) g)
took (taking.Value k) ks r (a, e, f) = e ∙ ap (λ x. kind_terminal k ∷ x) f

took_role : (o : Role) (ks r : List Terminal) → TakesAll spelling (role_words o []) ks r → ks ≡ role_words o r
took_role role.Inner ks r e = e
took_role role.Input ks r (a, e, f) = e ∙ ap (λ x. word Input ∷ x) f
took_role role.Output ks r (a, e, f) = e ∙ ap (λ x. word Output ∷ x) f

abbrev pub in_pair : {A : Type 0} → A → List ℕ → A × List ℕ
in_pair a n = (a, n)

-- a process from here to there, with its terminals in their places
abbrev ProcessWords : List ℕ → List (Taking × List ℕ) → List (Kind × List ℕ) → StatementTrees → List Terminal → List Terminal → Type 0
ProcessWords n ps vs body ks r = (a b : List Terminal) × (ks ≡ word Process ∷ name n ∷ sign Open ∷ a) × Parameters spelling in_pair ps a (sign Close ∷ sign Semicolon ∷ word Begin ∷ b)
    × Variables spelling in_pair vs b (statements_words body (word End ∷ r)) × AreSome body × FormedStatements body

pub process_words : (n : List ℕ) (ps : List (Taking × List ℕ)) (vs : List (Kind × List ℕ)) (body : StatementTrees) (ks r : List Terminal) → SpellsDeclaration (process n ps vs body) ks r →
    ProcessWords n ps vs body ks r
process_words n ps vs body ks r (a, b, c, d, e, f, g, (h, i, o, p, (j, k, (l, t, (u, v, w)))), q, (x, some, formed), end) = (
  h,
  c,
  f ∙ ap (λ y. word Process ∷ y) (g ∙ ap (λ y. name n ∷ y) o),
  subst (Parameters spelling in_pair ps h) (k ∙ ap (λ y. sign Close ∷ y) (t ∙ ap (λ y. sign Semicolon ∷ y) (v ∙ ap (λ y. word Begin ∷ y) w))) p,
  subst (Variables spelling in_pair vs c) (x ∙ ap (statements_words body) end) q,
  some,
  formed,
)

abbrev NoComma : List Terminal → Type 0
NoComma z = leads (a_sign Comma) z ≡ false

pub no_comma : (gs : List (Grouped Taking (List ℕ))) (ks x : List Terminal) → Further (StandsFirst (sign Semicolon)) (ParameterGroup spelling) gs ks (sign Close ∷ x) → leads (a_sign Comma) ks ≡ false
no_comma gs ks x h = further_first (sign Semicolon) (ParameterGroup spelling) NoComma (λ z. refl) gs ks (sign Close ∷ x) h refl

same_group : (g h : Grouped Taking (List ℕ)) (ks r q : List Terminal) → NoComma r → NoComma q → ParameterGroup spelling g ks r → ParameterGroup spelling h ks q → (g ≡ h) × (r ≡ q)
same_group (group t []) h ks r q x y (a, d, n) k = absurd n
same_group g (group u []) ks r q x y k (a, d, n) = absurd n
same_group (group t (n ∷ ns)) (group u (m ∷ ms)) ks r q x y (a, d, (a', e, h)) (b, k, (b', f, g)) =
    let z = same_taking t u n m a' b' (sym (took t ks a d ∙ ap (taking_words t) e) ∙ (took u ks b k ∙ ap (taking_words u) f)) in
    let same : b ≡ a = f ∙ sym z.1 ∙ sym e in
    let w = same_names (n ∷ ns) (m ∷ ms) a r q x y (a', e, h) (subst (λ j. SomeNames spelling (m ∷ ms) j q) same (b', f, g)) in (cc, w.1)

group_close : (g : Grouped Taking (List ℕ)) (ks r x : List Terminal) → ParameterGroup spelling g ks r → ks ≡ sign Close ∷ x → ⊥
group_close (group t ns) ks r x (a, d, n) e = taking_close t x a (sym e ∙ took t ks a d)

same_parameters : (ps qs : List (Taking × List ℕ)) (ks x y : List Terminal) → Parameters spelling in_pair ps ks (sign Close ∷ x) → Parameters spelling in_pair qs ks (sign Close ∷ y) → (ps ≡ qs) × (x ≡ y)
same_parameters ps qs ks x y (gs, e, p) (hs, f, q) = let z = groups gs hs p q in (e ∙ ap (all_members in_pair) z.0 ∙ sym f, z.1)
  where
    groups : (gs hs : List (Grouped Taking (List ℕ))) → Between (StandsFirst (sign Semicolon)) (ParameterGroup spelling) gs ks (sign Close ∷ x)
        → Between (StandsFirst (sign Semicolon)) (ParameterGroup spelling) hs ks (sign Close ∷ y) → (gs ≡ hs) × (x ≡ y)
    groups [] [] p q = (refl, tail_is _ _ _ _ (sym p ∙ q))
    groups [] (h ∷ hs) p (m, q, k) = absurd (group_close h ks m x q p)
    groups (g ∷ gs) [] (m, p, k) q = absurd (group_close g ks m y p q)
    groups (g ∷ gs) (h ∷ hs) (m, p, k) (m', q, k') =
        let z = same_group g h ks m m' (no_comma gs m x k) (no_comma hs m' y k') p q in
        let w = same_further (a_sign Semicolon) (sign Semicolon) (ParameterGroup spelling) NoComma refl (λ z. refl) same_group gs hs m _ _ refl refl refl refl k
        (subst (λ j. Further (StandsFirst (sign Semicolon)) (ParameterGroup spelling) hs j (sign Close ∷ y)) (sym z.1) k') in
        (cc, tail_is _ _ _ _ w.1)

no_kind : (k : Kind) (r x : List Terminal) → leads a_kind r ≡ false → r ≡ kind_terminal k ∷ x → ⊥
no_kind kind.Integer r x h e = true≢false (ap (leads a_kind) (sym e) ∙ h)
no_kind kind.Logical r x h e = true≢false (ap (leads a_kind) (sym e) ∙ h)

pub statements_start : (ss : StatementTrees) (r : List Terminal) → AreSome ss → leads a_kind (statements_words ss (word End ∷ r)) ≡ false
statements_start no_statement r h = absurd h
statements_start (statement empty no_statement) r h = refl
statements_start (statement empty (statement s ss)) r h = refl
statements_start _ r h = refl

same_togethers : (ts us : List (Grouped Kind (List ℕ))) (ks r q : List Terminal) → leads a_kind r ≡ false → leads a_kind q ≡ false
    → Ended (StandsFirst (sign Semicolon)) (VariableGroup spelling) ts ks r → Ended (StandsFirst (sign Semicolon)) (VariableGroup spelling) us ks q → (ts ≡ us) × (r ≡ q)
same_togethers [] [] ks r q x y e f = (refl, sym e ∙ f)
same_togethers [] (group k ns ∷ us) ks r q x y e (a, b, (c, f, n), g, h) = absurd (no_kind k r c x (sym e ∙ f))
same_togethers (group k ns ∷ ts) [] ks r q x y (a, b, (c, f, n), g, h) e = absurd (no_kind k q c y (sym e ∙ f))
same_togethers (group k ns ∷ ts) (group l ms ∷ us) ks r q x y (a, b, (c, f, n), g, h) (a', b', (c', f', n'), g', h') =
    let s = same_kind k l _ _ (sym f ∙ f') in
    let first : c' ≡ c = tail_is _ _ _ _ (sym f' ∙ f) in
    let z = same_names ns ms c a a' (ap (leads (a_sign Comma)) g) (ap (leads (a_sign Comma)) g') n (subst (λ j. SomeNames spelling ms j a') first n') in
    let next : b' ≡ b = tail_is _ _ _ _ (sym g' ∙ sym z.1 ∙ g) in
    let w = same_togethers ts us b r q x y h (subst (λ j. Ended (StandsFirst (sign Semicolon)) (VariableGroup spelling) us j q) next h') in (cc, w.1)

same_variables : (vs ws : List (Kind × List ℕ)) (ks r q : List Terminal) → leads a_kind r ≡ false → leads a_kind q ≡ false → Variables spelling in_pair vs ks r → Variables spelling in_pair ws ks q →
    (vs ≡ ws) × (r ≡ q)
same_variables vs ws ks r q x y (ts, e, p) (us, f, g) = let z = same_togethers ts us ks r q x y p g in (e ∙ ap (all_members in_pair) z.0 ∙ sym f, z.1)

kind_process : (k : Kind) (x y : List Terminal) → word Process ∷ x ≡ kind_terminal k ∷ y → ⊥
kind_process kind.Integer x y e = cc
kind_process kind.Logical x y e = cc

same_declares : (d c : DeclarationTree) (ks r q : List Terminal) → leads (a_sign Comma) r ≡ false → leads (a_sign Comma) q ≡ false → SpellsDeclaration d ks r → SpellsDeclaration c ks q → (d ≡ c) × (r ≡ q)
same_declares (channels k o ns) (channels l p ms) ks r q x y (a, b, c, e, d, f, n) (a', b', c', e', d', f', n') =
    let both = sym e ∙ e' in
    let s = same_kind k l _ _ both in
    let z = same_role o p c c' (sym (took_role o a b d ∙ ap (role_words o) f) ∙ (tail_is _ _ _ _ both ∙ (took_role p a' b' d' ∙ ap (role_words p) f'))) in
    let w = same_names ns ms c r q x y n (subst (λ j. SomeNames spelling ms j q) (sym z.1) n') in (cc, w.1)
same_declares (channels k o ns) (process n ps vs body) ks r q x y h g = absurd (kind_process k _ _ (sym g.5 ∙ h.3))
same_declares (process n ps vs body) (channels k o ns) ks r q x y h g = absurd (kind_process k _ _ (sym h.5 ∙ g.3))
same_declares (process n ps vs body) (process m qs ws rump) ks r q x y h g =
    let (a, b, e, p, v, s, f) = process_words n ps vs body ks r h in
    let (a', b', e', p', v', s', f') = process_words m qs ws rump ks q g in
    let both : word Process ∷ name n ∷ sign Open ∷ a ≡ word Process ∷ name m ∷ sign Open ∷ a' = sym e ∙ e' in
    let named : n ≡ m = cc in
    let first : a' ≡ a = cc in
    let z = same_parameters ps qs a _ _ p (subst (λ k. Parameters spelling in_pair qs k (sign Close ∷ sign Semicolon ∷ word Begin ∷ b')) first p') in
    let second : b' ≡ b = sym (tail_is _ _ _ _ (tail_is _ _ _ _ z.1)) in
    let w = same_variables vs ws b _ _ (statements_start body r s) (statements_start rump q s') v (subst (λ k. Variables spelling in_pair ws k (statements_words rump (word End ∷ q))) second v') in
    let u = same_statements body rump (word End ∷ r) (word End ∷ q) s s' f f' tt tt w.1 in
    (cc, tail_is _ _ _ _ u.1)

-- the list begins with a name
abbrev pub Named : List Terminal → Type 0
Named (name n ∷ r) = Unit {0}
Named _ = ⊥

named_declares : (d : DeclarationTree) (ks r : List Terminal) → Named ks → SpellsDeclaration d ks r → ⊥
named_declares (channels kind.Integer o ns) ks r h d = let f : Named (word Integer ∷ d.0) = subst Named d.3 h in f
named_declares (channels kind.Logical o ns) ks r h d = let f : Named (word Logical ∷ d.0) = subst Named d.3 h in f
named_declares (process n ps vs body) ks r h d = let f : Named (word Process ∷ d.0) = subst Named d.5 h in f

same_declarations : (ds cs : List DeclarationTree) (ks r q : List Terminal) → Named r → Named q → Ended (StandsFirst (sign Semicolon)) SpellsDeclaration ds ks r → Ended (StandsFirst (sign Semicolon)) SpellsDeclaration cs ks q → (ds ≡ cs) × (r ≡ q)
same_declarations [] [] ks r q x y e f = (refl, sym e ∙ f)
same_declarations [] (c ∷ cs) ks r q x y e (a, m, p, g, f) = absurd (named_declares c ks _ (subst Named (sym e) x) p)
same_declarations (d ∷ ds) [] ks r q x y (a, m, p, g, f) e = absurd (named_declares d ks _ (subst Named (sym e) y) p)
same_declarations (d ∷ ds) (c ∷ cs) ks r q x y (a, m, p, g, e) (a', m', p', g', e') =
    let z = same_declares d c ks a a' (ap (leads (a_sign Comma)) g) (ap (leads (a_sign Comma)) g') p p' in
    let next : m' ≡ m = tail_is _ _ _ _ (sym g' ∙ sym z.1 ∙ g) in
    let w = same_declarations ds cs m r q x y e (subst (λ k. Ended (StandsFirst (sign Semicolon)) SpellsDeclaration cs k q) next e') in (cc, w.1)

same_argues : (a b : ArgumentTree) (ks r q : List Terminal) → Argues a ks r → Argues b ks q → (a ≡ b) × (r ≡ q)
same_argues (channel n) (channel m) ks r q e f = (cc, cc)
same_argues (truth_argument true) (truth_argument true) ks r q e f = (refl, cc)
same_argues (truth_argument false) (truth_argument false) ks r q e f = (refl, cc)
same_argues (number_argument z) (number_argument w) ks r q e f =
    ⊎_elim (λ g. ⊎_elim (λ h. (cc, cc)) (λ (j, b, p, h, k). absurd cc) f) (λ (i, a, o, g, l). ⊎_elim (λ h. absurd cc) (λ (j, b, p, h, k). (cc, cc)) f) e
same_argues (number_argument z) (truth_argument true) ks r q e f = ⊎_elim (λ g. absurd cc) (λ (i, a, p, g, h). absurd cc) e
same_argues (number_argument z) _ ks r q e f = ⊎_elim (λ g. absurd cc) (λ (i, a, p, g, h). absurd cc) e
same_argues (truth_argument true) (number_argument z) ks r q e f = ⊎_elim (λ g. absurd cc) (λ (i, a, p, g, h). absurd cc) f
same_argues _ (number_argument z) ks r q e f = ⊎_elim (λ g. absurd cc) (λ (i, a, p, g, h). absurd cc) f
same_argues _ (truth_argument true) ks r q e f = absurd cc
same_argues (truth_argument true) _ ks r q e f = absurd cc
same_argues _ _ ks r q e f = absurd cc

not_close : (a : ArgumentTree) (ks r x : List Terminal) → Argues a ks r → ks ≡ sign Close ∷ x → ⊥
not_close (truth_argument true) ks r x e p = cc
not_close (number_argument z) ks r x e p = ⊎_elim (λ g. absurd cc) (λ (i, b, o, g, h). absurd cc) e
not_close _ ks r x e p = cc

same_arguments : (xs ys : List ArgumentTree) (ks r q : List Terminal) → Between (StandsFirst (sign Comma)) Argues xs ks (sign Close ∷ r) → Between (StandsFirst (sign Comma)) Argues ys ks (sign Close ∷ q) → (xs ≡ ys) × (r ≡ q)
same_arguments [] [] ks r q e f = (refl, cc)
same_arguments [] (b ∷ ys) ks r q e (m, p, h) = absurd (not_close b ks m r p e)
same_arguments (a ∷ xs) [] ks r q (m, p, h) e = absurd (not_close a ks m q p e)
same_arguments (a ∷ xs) (b ∷ ys) ks r q (m, p, h) (m', p', h') =
    let z = same_argues a b ks m m' p p' in
    let w = same_further (a_sign Comma) (sign Comma) Argues (λ j. Unit {0}) refl (λ j. tt) (λ x y ks r q c d. same_argues x y ks r q) xs ys m _ _ refl refl tt tt h (subst (λ k. Further (StandsFirst (sign Comma)) Argues ys k (sign Close ∷ q)) (sym z.1) h') in (cc, tail_is _ _ _ _ w.1)

same_instantiates : (i j : InstanceTree) (ks r q : List Terminal) → Instantiates i ks r → Instantiates j ks q → (i ≡ j) × (r ≡ q)
same_instantiates (instance n xs) (instance m ys) ks r q (a, b, c, e, f, p, g) (a', b', c', e', f', p', g') =
    let both : name m ∷ a' ≡ name n ∷ a = sym e' ∙ e in
    let named : n ≡ m = cc in
    let second : b' ≡ b = tail_is _ _ _ _ (sym f' ∙ tail_is _ _ _ _ both ∙ f) in
    let z = same_arguments xs ys b r q (subst (λ k. Between (StandsFirst (sign Comma)) Argues xs b k) g p)
    (subst (λ k. Between (StandsFirst (sign Comma)) Argues ys k (sign Close ∷ q)) second (subst (λ k. Between (StandsFirst (sign Comma)) Argues ys b' k) g' p')) in (cc, z.1)

same_instances : (is js : List InstanceTree) (ks r q : List Terminal) → leads (a_word Par) r ≡ false → leads (a_word Par) q ≡ false → SomeBetween (StandsFirst (word Par)) Instantiates is ks r → SomeBetween (StandsFirst (word Par)) Instantiates js ks q → (is ≡ js) × (r ≡ q)
same_instances is js ks r q x y h g = same_some (a_word Par) (word Par) Instantiates refl same_instantiates is js ks r q x y h g

named_instantiates : (i : InstanceTree) (ks r : List Terminal) → Instantiates i ks r → Named ks
named_instantiates (instance n xs) ks r (a, b, c, e, f, p, g) = let h : Named (name n ∷ a) = tt in subst Named (sym e) h

pub named_instances : (is : List InstanceTree) (ks r : List Terminal) → SomeBetween (StandsFirst (word Par)) Instantiates is ks r → Named ks
named_instances [] ks r h = absurd h
named_instances (i ∷ is) ks r (m, p, h) = named_instantiates i ks m p

pub no_par_end : (c d e : List Terminal) → May (StandsFirst (sign Semicolon)) c d → d ≡ word End ∷ e → leads (a_word Par) c ≡ false
no_par_end c d e h p = ⊎_elim (λ x. ap (leads (a_word Par)) x) (λ x. ap (leads (a_word Par)) (x ∙ p)) h

-- No two trees spell one list.
pub one_tree : (t u : ProgramTree) (ks : List Terminal) → Spells t ks → Spells u ks → t ≡ u
one_tree (program ds is) (program cs js) ks (a, b, c, d, e, p, h, i, s, v, w) (a', b', c', d', e', p', h', i', s', v', w') =
    let first : a' ≡ a = cc in
    let z = same_declarations ds cs a b b' (named_instances is b c i) (named_instances js b' c' i') h (subst (λ k. Ended (StandsFirst (sign Semicolon)) SpellsDeclaration cs k b') first h') in
    let y = same_instances is js b c c' (no_par_end c d e s v) (no_par_end c' d' e' s' v') i (subst (λ k. SomeBetween (StandsFirst (word Par)) Instantiates js k c') (sym z.1) i') in
    cc
