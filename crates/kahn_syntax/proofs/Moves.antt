-- How the parts that are open go on, over what the parser reads.
use Rattle.kahn_syntax.proofs.Common.{AreProper, FitsLevel, FormSpans, expression_nesting, factors, form_tree, Action, StopsAs, head_parts, Then, Else, Do, On, End, ElseTail, StatementsTail, ◌≡◌, ◌≢◌, ℕ, ◌+◌, ◌≤◌, ◌<◌, List, [], ◌∷◌, ◌++◌, ◌⊎◌, ⊎_elim, length, true, false, cond, Some, None, Result, Ok, Err, true≢false, refl, sym, ap, ◌∙◌, subst, arith, append_assoc, Span, Class, Lexeme, MatchResult, Expression, Form, Covers, Statement, Stop, Refused, TooDeep, NoMemory, Terminal, word, terminal, terminals, First, RuleToken, accepts, leads, class_of, a_kind, a_name, a_number, a_sign, a_word, an_operator, either, rules_of, starts, enters, followed, opened_by, argument_rules, declaration_rules, other_rules, process_rules, simple_rules, Part, ProgramPart, DeclarationsPart, DeclarationPart, ProcessPart, GroupsPart, GroupPart, VariablesPart, InstancePart, ArgumentsPart, ArgumentPart, ExpressionPart, OperatorsPart, StatementPart, SimplePart, GroupsTail, ArgumentsTail, TokenPart, LevelPart, levels, step, Refuses, TooFar, fate, Operator, Level, Or, Relation, is_alone, operator_terminal, rank, Rung, whole, ors, denials, relations, sums, at, tighter, rung_of, Kind, kind_terminal, IsAbsent, Reads, Moves, Stops, Halts, ExpressionRead, StatementRead, IsStated, Begin, Close, If, Integer, Logical, NameClass, Not, NotWord, Process, Semicolon, SignClass, Word, Name, NameSpans, name, name_of, SomeBetween, Takes}
use Rattle.kahn_syntax.proofs.Spanning.{some_more}
use Rattle.std.specs.Result.{IsErrAnd}
use Rattle.kahn_syntax.specs.inner.Reads.{PartRead}
use Rattle.kahn_syntax.proofs.{WholePrograms.take_kind, WholePrograms.skip_variables, Reached.go_far, Meaning.terminals_length}
use Rattle.kahn_syntax.proofs.Steps.{go, runs, part, skips, refuses, passes, passes_one, follows, follows_some, starts_one, starts_followed, skip_level, skip_tail, take_token, IsChain, IsOther, open_chain, open_whole, open_denial, take_comparison, take_operator}

-- so many levels are open below and in these parts
abbrev pub Bound : ℕ → List Part → Type 0
Bound d qs = (s : List Part) → levels s ≡ d → levels (qs ++ s) ≤ 64

abbrev pub Depth : ℕ → List Part → ℕ → Type 0
Depth d qs e = (s : List Part) → levels s ≡ d → levels (qs ++ s) ≡ e

-- one after the other
pub then : {text : List ℕ} {d : ℕ} {p q r : List Part} {i j k : List Lexeme} → Moves text d p q i j → Moves text d q r j k → Moves text d p r i k
then f g = record { fates = λ s l. f.fates s l ∙ g.fates s l }

pub then_stops : {text : List ℕ} {d : ℕ} {p q : List Part} {i j : List Lexeme} (e : Stop) → Moves text d p q i j → Stops text d q j e → Stops text d p i e
then_stops e f g = λ s l. subst (StopsAs e) (sym (f.fates s l)) (g s l)

-- what `?` returns where the reading stopped
pub stopped : {X : Type 0} (P : X → Type 0) (S : Stop → Type 0) {e : Stop} (r : Result X Stop) → IsErrAnd r (λ x. x ≡ e) → S e → MatchResult r P S
stopped P S (Ok x) h s = absurd h
stopped P S (Err x) h s = subst S (sym h) s

-- parts above others
pub call : (text : List ℕ) (d e : ℕ) (ps qs : List Part) (i j : List Lexeme) → Depth d qs e → Reads text e ps i j → Moves text d (ps ++ qs) qs i j
call text d e ps qs i j b f = record { fates = λ s l. ap (λ u. fate 64 u (terminals text i)) (append_assoc ps qs s) ∙ f.fates (qs ++ s) (b s l) }

pub call_stops : (text : List ℕ) (d e : ℕ) (ps qs : List Part) (i : List Lexeme) (x : Stop) → Depth d qs e → Stops text e ps i x → Stops text d (ps ++ qs) i x
call_stops text d e ps qs i x b f = λ s l. subst (λ u. StopsAs x (fate 64 u (terminals text i))) (sym (append_assoc ps qs s)) (f (qs ++ s) (b s l))

-- what is open after the words that begin them
abbrev pub choice_parts : List Part
choice_parts = ExpressionPart whole ∷ TokenPart (a_word Then) ∷ ExpressionPart whole ∷ TokenPart (a_word Else) ∷ ExpressionPart whole ∷ LevelPart ∷ []

abbrev pub conditional_parts : List Part
conditional_parts = ExpressionPart whole ∷ TokenPart (a_word Then) ∷ SimplePart ∷ ElseTail ∷ LevelPart ∷ []

abbrev pub while_parts : List Part
while_parts = ExpressionPart whole ∷ TokenPart (a_word Do) ∷ StatementPart ∷ LevelPart ∷ []

abbrev pub send_parts : List Part
send_parts = ExpressionPart whole ∷ TokenPart (a_word On) ∷ TokenPart a_name ∷ []

abbrev pub process_parts : List Part
process_parts = TokenPart a_name ∷ head_parts ++ (VariablesPart ∷ StatementPart ∷ StatementsTail ∷ TokenPart (a_word End) ∷ [])

-- one terminal
pub one : (text : List ℕ) (d : ℕ) (p : Part) (qs rs : List Part) (k : Terminal) (i j : List Lexeme) → Bound d rs → ((s : List Part) → step (p ∷ qs ++ s) k ≡ Some (rs ++ s)) →
    terminals text i ≡ k ∷ terminals text j → Moves text d (p ∷ qs) rs i j
one text d p qs rs k i j b f e = record { fates = λ s l. ap (fate 64 (p ∷ qs ++ s)) e ∙ go 64 (p ∷ qs ++ s) (rs ++ s) k (terminals text j) (f s) (b s l) }

-- one that opens a level too many
pub deep : (text : List ℕ) (d : ℕ) (p : Part) (qs rs : List Part) (k : Terminal) (i j : List Lexeme) (x : Stop) → ((s : List Part) → levels s ≡ d → 64 < levels (rs ++ s)) →
    ((s : List Part) → step (p ∷ qs ++ s) k ≡ Some (rs ++ s)) → terminals text i ≡ k ∷ terminals text j → x ≡ TooDeep (length i) → Stops text d (p ∷ qs) i x
deep text d p qs rs k i j x b f e q =
    let n : length (terminals text j) + 1 ≡ length i = omega (arith, ap length e, terminals_length text i) in
    subst (Stops text d (p ∷ qs) i) (sym q)
    (λ s l. ap (fate 64 (p ∷ qs ++ s)) e ∙ (go_far 64 (p ∷ qs ++ s) (rs ++ s) k (terminals text j) (f s) (b s l) ∙ ap TooFar n))

pub token : (text : List ℕ) (d : ℕ) (t : RuleToken) (qs : List Part) (k : Terminal) (i j : List Lexeme) → Bound d qs → accepts t k ≡ true →
    terminals text i ≡ k ∷ terminals text j → Moves text d (TokenPart t ∷ qs) qs i j
token text d t qs k i j b h e = record { fates = λ s l. ap (fate 64 (TokenPart t ∷ qs ++ s)) e ∙ take_token t 64 (qs ++ s) k (terminals text j) h (b s l) }

some_is : (c e : Class) → Some c ≡ Some e → c ≡ e
some_is c e p = cc

-- a lexeme of the token's class is the token
class_takes : (t : RuleToken) (c : Class) (text : List ℕ) (at : Span) → class_of t ≡ Some c → accepts t (terminal text c at) ≡ true
class_takes (a_word NotWord) c text at e = absurd cc
class_takes (either v w) c text at e = absurd cc
class_takes (a_sign Not) c text at e = absurd cc
class_takes a_number c text at e = absurd cc
class_takes (an_operator o) c text at e = absurd cc
class_takes t c text at e = subst (λ x. accepts t (terminal text x at) ≡ true) (some_is _ c e) refl

-- an awaited lexeme
pub expected : (text : List ℕ) (d : ℕ) (t : RuleToken) (qs : List Part) (c : Class) (i j : List Lexeme) → Bound d qs → class_of t ≡ Some c → First c i j →
    Moves text d (TokenPart t ∷ qs) qs i j
expected text d t qs c i j b h f = token text d t qs (terminal text c f.0) i j b (class_takes t c text f.0 h) (f.1 text)

-- a part of one rule, of which nothing may be there
abbrev pub IsTail : Part → RuleToken → List Part → Type 0
IsTail p t ps = rules_of p ≡ (true, (t, ps) ∷ [])

-- a lexeme with which a tail goes on
pub goes : (text : List ℕ) (d : ℕ) (p : Part) (t : RuleToken) (ps qs : List Part) (c : Class) (i j : List Lexeme) → Bound d (ps ++ qs) → IsTail p t ps → class_of t ≡ Some c → First c i j →
    Moves text d (p ∷ qs) (ps ++ qs) i j
goes text d p t ps qs c i j b e h f = one text d p qs (ps ++ qs) (terminal text c f.0) i j b
    (λ s. ap (λ x. opened_by (qs ++ s) (cond x.0 (step (qs ++ s) (terminal text c f.0)) None) (enters x.1 (terminal text c f.0))) e
    ∙ (ap (λ y. opened_by (qs ++ s) (step (qs ++ s) (terminal text c f.0)) (cond y (Some ps) None)) (class_takes t c text f.0 h) ∙ ap Some (sym (append_assoc ps qs s)))) (f.1 text)

-- a tail that ends
pub ends : (text : List ℕ) (d : ℕ) (p : Part) (t : RuleToken) (ps qs : List Part) (c : Class) (i : List Lexeme) → IsTail p t ps → class_of t ≡ Some c → IsAbsent c i → Moves text d (p ∷ qs) qs i i
ends text d p t ps qs c i e h a = record { fates = λ s l. skip_tail p t ps 64 (qs ++ s) (terminals text i) e (a t h text) }

-- a member of a list, and the lexeme that leads to the next
pub next_member : (text : List ℕ) (d : ℕ) (ps : List Part) (u : Part) (t : RuleToken) (p : Part) (qs : List Part) (c : Class) (i o a j : List Lexeme) → Bound d (p ∷ u ∷ qs) → Depth d (u ∷ qs) d →
    IsTail u t (p ∷ u ∷ []) → class_of t ≡ Some c → Moves text d ps (p ∷ u ∷ qs) i o → Reads text d (p ∷ []) o a → First c a j → Moves text d ps (p ∷ u ∷ qs) i j
next_member text d ps u t p qs c i o a j b l g k m r f =
    then m
    (then (call text d d (p ∷ []) (u ∷ qs) o a l r) (goes text d u t (p ∷ u ∷ []) qs c a j b g k f))

-- the last one
pub last_member : (text : List ℕ) (d : ℕ) (ps : List Part) (u : Part) (t : RuleToken) (p : Part) (qs : List Part) (c : Class) (i o a : List Lexeme) → Depth d (u ∷ qs) d →
    IsTail u t (p ∷ u ∷ []) → class_of t ≡ Some c → Moves text d ps (p ∷ u ∷ qs) i o → Reads text d (p ∷ []) o a → IsAbsent c a → Moves text d ps qs i a
last_member text d ps u t p qs c i o a l g k m r f =
    then m
    (then (call text d d (p ∷ []) (u ∷ qs) o a l r) (ends text d u t (p ∷ u ∷ []) qs c a g k f))

-- what was read of members with k between, so far: one more, and all of them span what was read
pub record AreMembers {X : Type 0} (text : List ℕ) (k : Terminal) (P : X → List Lexeme → List Lexeme → Type 0) (ps those : List Part) (us : List X) (i o : List Lexeme) : Type 0 where
  pub spans : (x : X) (r : List Lexeme) → P x o r → SomeBetween (Takes text k) P (us ++ x ∷ []) i r
  pub shorter : length o ≤ length i
  pub proper : AreProper text o
  pub reads : Moves text 0 ps those i o

pub members_begin : {X : Type 0} (text : List ℕ) (k : Terminal) (P : X → List Lexeme → List Lexeme → Type 0) (ps those : List Part) (us : List X) (i : List Lexeme) → us ≡ [] → AreProper text i →
    Moves text 0 ps those i i → AreMembers text k P ps those us i i
members_begin text k P ps those us i e p m =
    record { spans = λ x r q. subst (λ vs. SomeBetween (Takes text k) P (vs ++ x ∷ []) i r) (sym e) (r, q, refl); shorter = omega arith; proper = p; reads = m }

module _ {X : Type 0} (text : List ℕ) (k : Terminal) (P : X → List Lexeme → List Lexeme → Type 0) (t : RuleToken) (c : Class) (p u : Part) (ps qs : List Part) (us vs : List X) (x : X) (i o a : List Lexeme)
    (g : IsTail u t (p ∷ u ∷ [])) (kind : class_of t ≡ Some c) (m : AreMembers text k P ps (p ∷ u ∷ qs) us i o) (h : PartRead text (p ∷ []) (P x) o a) (e : vs ≡ us ++ x ∷ []) where
  spanned : SomeBetween (Takes text k) P vs i a
  spanned = subst (λ ws. SomeBetween (Takes text k) P ws i a) (sym e) (m.spans x a h.spans)

  pub members_more : (j : List Lexeme) → Bound 0 (p ∷ u ∷ qs) → Depth 0 (u ∷ qs) 0 → First c a j → Takes text k a j → length a ≡ length j + 1 → AreProper text j → AreMembers text k P ps (p ∷ u ∷ qs) vs i j
  members_more j b l f takes less proper = record {
    spans = λ y r q. some_more (Takes text k) P vs y i a j r spanned takes q;
    shorter = omega (arith, less, h.shorter, m.shorter);
    proper = proper;
    reads = next_member text 0 ps u t p qs c i o a j b l g kind m.reads h.reads f;
  }

  pub members_end : Depth 0 (u ∷ qs) 0 → IsAbsent c a → SomeBetween (Takes text k) P vs i a × (length a ≤ length i) × Moves text 0 ps qs i a
  members_end l f = (spanned, omega (arith, h.shorter, m.shorter), last_member text 0 ps u t p qs c i o a l g kind m.reads h.reads f)

-- a name as a part
pub name_read : (text : List ℕ) (n : Name) (i j : List Lexeme) → NameSpans text n i j → length i ≡ length j + 1 → AreProper text j → terminals text i ≡ name (name_of n) ∷ terminals text j →
    PartRead text (TokenPart a_name ∷ []) (NameSpans text n) i j
name_read text n i j spans l p words =
    record { spans = spans; shorter = omega (arith, l); proper = p; reads = token text 0 a_name [] (name (name_of n)) i j (λ s l. omega (arith, l)) refl words }

pub level_ends : (text : List ℕ) (d : ℕ) (qs : List Part) (i : List Lexeme) → Moves text d (LevelPart ∷ qs) qs i i
level_ends text d qs i = record { fates = λ s l. skip_level 64 (qs ++ s) (terminals text i) }

-- a part that must be there, and isn't
pub refused : (text : List ℕ) (d : ℕ) (p : Part) (qs : List Part) (i : List Lexeme) (x : Stop) → (rules_of p).0 ≡ false → starts (rules_of p).1 (terminals text i) ≡ false →
    x ≡ Refused false (length i) → Stops text d (p ∷ qs) i x
refused text d p qs i x n h e =
    subst (Stops text d (p ∷ qs) i) (sym e)
    (λ s l. part p 64 (qs ++ s) (terminals text i) ∙ (ap (λ b. runs 64 b (rules_of p).1 (qs ++ s) (terminals text i)) n ∙ (refuses (rules_of p).1 64 (qs ++ s) (terminals text i) h
    ∙ ap (Refuses false) (terminals_length text i))))

pub absent : (text : List ℕ) (d : ℕ) (t : RuleToken) (qs : List Part) (i : List Lexeme) (x : Stop) → leads t (terminals text i) ≡ false → x ≡ Refused false (length i) →
    Stops text d (TokenPart t ∷ qs) i x
absent text d t qs i x h e = refused text d (TokenPart t) qs i x refl (starts_one t [] (terminals text i) false h) e

-- an awaited lexeme that isn't there
pub unexpected : (text : List ℕ) (d : ℕ) (t : RuleToken) (qs : List Part) (c : Class) (i : List Lexeme) (x : Stop) → class_of t ≡ Some c →
    IsAbsent c i × (x ≡ Refused false (length i)) → Stops text d (TokenPart t ∷ qs) i x
unexpected text d t qs c i x h (a, e) = absent text d t qs i x (a t h text) e

pub no_name : (text : List ℕ) (d : ℕ) (qs : List Part) (i : List Lexeme) (x : Stop) →
    (x ≡ NoMemory) ⊎ ((leads a_name (terminals text i) ≡ false) × (x ≡ Refused false (length i))) → Stops text d (TokenPart a_name ∷ qs) i x
no_name text d qs i x h =
    ⊎_elim (λ e. subst (Stops text d (TokenPart a_name ∷ qs) i) (sym e) (λ s l. tt)) (λ (a, e). absent text d a_name qs i x a e) h

pub no_memory : (text : List ℕ) (d : ℕ) (qs : List Part) (i : List Lexeme) (x : Stop) → x ≡ NoMemory → Stops text d qs i x
no_memory text d qs i x e = subst (Stops text d qs i) (sym e) (λ s l. tt)

-- an expression of the next tighter level
pub opens_whole : (text : List ℕ) (d : ℕ) (qs : List Part) (i : List Lexeme) → IsAbsent (Word If) i → Moves text d (ExpressionPart whole ∷ qs) (ExpressionPart ors ∷ qs) i i
opens_whole text d qs i a = record { fates = λ s l. open_whole 64 (qs ++ s) (terminals text i) (a (a_word If) refl text) }

pub opens_denial : (text : List ℕ) (d : ℕ) (qs : List Part) (i : List Lexeme) → leads (a_word NotWord) (terminals text i) ≡ false →
    Moves text d (ExpressionPart denials ∷ qs) (ExpressionPart relations ∷ qs) i i
opens_denial text d qs i a = record { fates = λ s l. open_denial 64 (qs ++ s) (terminals text i) a }

pub opens_chain : (text : List ℕ) (d : ℕ) (g : Rung) (qs : List Part) (i : List Lexeme) → IsChain g → Moves text d (ExpressionPart g ∷ qs) (ExpressionPart (tighter g) ∷ OperatorsPart g ∷ qs) i i
opens_chain text d g qs i h = record { fates = λ s l. open_chain g 64 (qs ++ s) (terminals text i) h }

pub comparison : (text : List ℕ) (d : ℕ) (o : Operator) (qs : List Part) (i j : List Lexeme) → Bound d qs → rank o ≡ 4 → terminals text i ≡ operator_terminal o ∷ terminals text j →
    Moves text d (OperatorsPart relations ∷ qs) (ExpressionPart sums ∷ qs) i j
comparison text d o qs i j b h e = record { fates = λ s l. ap (fate 64 (OperatorsPart relations ∷ qs ++ s)) e ∙ take_comparison 64 (qs ++ s) o (terminals text j) h (b s l) }

pub level_chain : (v : Level) → IsChain (rung_of v)
level_chain Or = tt
level_chain _ = tt

-- what is open behind an operand that follows an operator
abbrev pub after_operator : Level → List Part
after_operator Relation = []
after_operator v = OperatorsPart (rung_of v) ∷ []

pub after_levels : (v : Level) (d : ℕ) → Depth d (after_operator v) d
after_levels Relation d s l = l
after_levels Or d s l = l
after_levels _ d s l = l

pub after_alone : (v : Level) → is_alone v ≡ true → after_operator v ≡ []
after_alone Relation e = refl
after_alone Or e = absurd (true≢false (sym e))
after_alone _ e = absurd (true≢false (sym e))

pub after_more : (v : Level) → is_alone v ≡ false → after_operator v ≡ OperatorsPart (rung_of v) ∷ []
after_more Relation e = absurd (true≢false e)
after_more Or e = refl
after_more _ e = refl

-- an operator of the level
pub operator_next : (text : List ℕ) (d : ℕ) (v : Level) (o : Operator) (i j : List Lexeme) → d ≤ 64 → rank o ≡ at (rung_of v) →
    terminals text i ≡ operator_terminal o ∷ terminals text j →
    Moves text d (OperatorsPart (rung_of v) ∷ []) (ExpressionPart (tighter (rung_of v)) ∷ after_operator v) i j
operator_next text d Relation o i j b h e = comparison text d o [] i j (λ s l. omega (arith, l, b)) h e
operator_next text d Or o i j b h e = record { fates = λ s l. ap (fate 64 (OperatorsPart ors ∷ s)) e ∙ take_operator ors 64 s o (terminals text j) tt h (omega (arith, l, b)) }
operator_next text d v o i j b h e = record { fates = λ s l. ap (fate 64 (OperatorsPart (rung_of v) ∷ s)) e ∙ take_operator (rung_of v) 64 s o (terminals text j) tt h (omega (arith, l, b)) }

-- what a call answers for a (tighter ∷ []) level, where no more than it stands here
pub opened : (text : List ℕ) (d : ℕ) (g f : Rung) (i : List Lexeme) → at g ≤ at f → Moves text d (ExpressionPart g ∷ []) (ExpressionPart f ∷ []) i i →
    {X : Type 0} (r : Result X Stop) (e : X → Expression) (rest : X → List Lexeme) →
    MatchResult r (λ x. ExpressionRead text d f (e x) i (rest x)) (Stops text d (ExpressionPart f ∷ []) i) →
    MatchResult r (λ x. ExpressionRead text d g (e x) i (rest x)) (Stops text d (ExpressionPart g ∷ []) i)
opened text d g f i b m (Ok x) e rest h =
    record {
      spans = h.spans;
      formed = (omega (arith, b, h.formed.0), h.formed.1);
      nesting = h.nesting;
      shorter = h.shorter;
      proper = h.proper;
      reads = then m h.reads;
    }
opened text d g f i b m (Err x) e rest h = then_stops x m h

-- what is known of a result, where it may be for want of memory alone that there is none
pub unless_memory : (text : List ℕ) (d : ℕ) (qs : List Part) (i : List Lexeme) → {X : Type 0} (r : Result X Stop) (P Q : X → Type 0) → ((x : X) → P x → Q x) →
    MatchResult r P (λ e. e ≡ NoMemory) → MatchResult r Q (Stops text d qs i)
unless_memory text d qs i (Ok x) P Q f h = f x h
unless_memory text d qs i (Err e) P Q f h = no_memory text d qs i e h

-- an expression that is made of its form
pub made : (text : List ℕ) (d : ℕ) (g : Rung) (f : Form) (i j : List Lexeme) → ((at : Span) → Covers at i j → ExpressionRead text d g (record { span = at; form = f }) i j) →
    {X : Type 0} (r : Result X Stop) (e : X → Expression) (rest : X → List Lexeme) →
    MatchResult r (λ x. ((e x).form ≡ f) × Covers (e x).span i j × (rest x ≡ j)) (λ x. x ≡ NoMemory) →
    MatchResult r (λ x. ExpressionRead text d g (e x) i (rest x)) (Stops text d (ExpressionPart g ∷ []) i)
made text d g f i j k r e rest h =
    unless_memory text d (ExpressionPart g ∷ []) i r _ _
    (λ x m. subst (ExpressionRead text d g (e x) i) (sym m.2) (subst (λ y. ExpressionRead text d g (record { span = (e x).span; form = y }) i j) (sym m.0) (k (e x).span m.1))) h

-- an operand of one terminal
pub made_one : (text : List ℕ) (d : ℕ) (f : Form) (k : Terminal) (i j : List Lexeme) {X : Type 0} (r : Result X Stop) (e : X → Expression) (rest : X → List Lexeme) →
    MatchResult r (λ x. ((e x).form ≡ f) × Covers (e x).span i j × (rest x ≡ j)) (λ x. x ≡ NoMemory) → d ≤ 64 → FormSpans text f i j → FitsLevel 7 (form_tree f) → expression_nesting (form_tree f) ≡ 0 →
    length i ≡ length j + 1 → AreProper text j → ((s : List Part) → step (ExpressionPart factors ∷ s) k ≡ Some s) → terminals text i ≡ k ∷ terminals text j →
    MatchResult r (λ x. ExpressionRead text d factors (e x) i (rest x)) (Stops text d (ExpressionPart factors ∷ []) i)
made_one text d f k i j r e rest h b spans fits flat l p takes words =
    made text d factors f i j (λ at c. record {
      spans = (c, spans);
      formed = fits;
      nesting = omega (arith, b, flat);
      shorter = omega (arith, l);
      proper = p;
      reads = one text d (ExpressionPart factors) [] [] k i j (λ s m. omega (arith, m, b)) takes words;
    }) r e rest h

-- an argument of one terminal
pub one_argument : (text : List ℕ) (S : List Lexeme → List Lexeme → Type 0) (k : Terminal) (i j : List Lexeme) → S i j → length i ≡ length j + 1 → AreProper text j →
    ((s : List Part) → step (ArgumentPart ∷ s) k ≡ Some s) → terminals text i ≡ k ∷ terminals text j → PartRead text (ArgumentPart ∷ []) S i j
one_argument text S k i j spans l p takes words =
    record { spans = spans; shorter = omega (arith, l); proper = p; reads = one text 0 ArgumentPart [] [] k i j (λ s m. omega (arith, m)) takes words }

-- a statement that is made of what it does
pub stated : (text : List ℕ) (d : ℕ) (p : Part) (a : Action) (i j : List Lexeme) → ((at : Span) → Covers at i j → StatementRead text d p (record { span = Some at; action = a }) i j) →
    {X : Type 0} (r : Result X Stop) (s : X → Statement) (rest : X → List Lexeme) → MatchResult r (λ x. IsStated (s x) a i j × (rest x ≡ j)) (λ x. x ≡ NoMemory) →
    MatchResult r (λ x. StatementRead text d p (s x) i (rest x)) (Stops text d (p ∷ []) i)
stated text d p a i j k r s rest h =
    unless_memory text d (p ∷ []) i r _ _ (λ x (m, e). subst (StatementRead text d p (s x) i) (sym e) (subst (λ y. StatementRead text d p y i j) (sym m.1) (k m.0 m.2))) h

pub opened_simple : (text : List ℕ) (d : ℕ) (i : List Lexeme) → Moves text d (StatementPart ∷ []) (SimplePart ∷ []) i i →
    {X : Type 0} (r : Result X Stop) (s : X → Statement) (rest : X → List Lexeme) →
    MatchResult r (λ x. StatementRead text d SimplePart (s x) i (rest x)) (Stops text d (SimplePart ∷ []) i) → MatchResult r (λ x. StatementRead text d StatementPart (s x) i (rest x)) (Stops text d (StatementPart ∷ []) i)
opened_simple text d i m (Ok x) s rest h =
    record {
      spans = h.spans;
      formed = (h.formed.0, λ e. absurd cc);
      nesting = h.nesting;
      shorter = h.shorter;
      proper = h.proper;
      reads = then m h.reads;
    }
opened_simple text d i m (Err x) s rest h = then_stops x m h

-- where a name stands first, memory alone is wanted
pub only_memory : (text : List ℕ) (d : ℕ) (qs : List Part) (i j : List Lexeme) (x : Stop) → First NameClass i j →
    (x ≡ NoMemory) ⊎ ((leads a_name (terminals text i) ≡ false) × (x ≡ Refused false (length i))) → Stops text d qs i x
only_memory text d qs i j x f h =
    ⊎_elim (λ e. no_memory text d qs i x e) (λ (a, e). absurd (true≢false (sym (ap (leads a_name) (f.1 text)) ∙ a))) h

-- where a name stands first, memory alone is wanted
pub memory_alone : (text : List ℕ) (d : ℕ) (qs : List Part) (i : List Lexeme) (x : Stop) → leads a_name (terminals text i) ≡ true →
    (x ≡ NoMemory) ⊎ ((leads a_name (terminals text i) ≡ false) × (x ≡ Refused false (length i))) → Stops text d qs i x
memory_alone text d qs i x f h = ⊎_elim (λ e. no_memory text d qs i x e) (λ (a, e). absurd (true≢false (sym f ∙ a))) h

pub opens_simple : (text : List ℕ) (d : ℕ) (qs : List Part) (i : List Lexeme) → starts other_rules (terminals text i) ≡ false → Moves text d (StatementPart ∷ qs) (SimplePart ∷ qs) i i
opens_simple text d qs i h = record {
  fates = λ s l. part StatementPart 64 (qs ++ s) (terminals text i)
      ∙ (passes other_rules simple_rules 64 true (qs ++ s) (terminals text i) h ∙ sym (part SimplePart 64 (qs ++ s) (terminals text i)));
}

-- nothing of a part is there
pub nothing : (text : List ℕ) (d : ℕ) (p : Part) (qs : List Part) (i : List Lexeme) → (rules_of p).0 ≡ true → starts (rules_of p).1 (terminals text i) ≡ false → Moves text d (p ∷ qs) qs i i
nothing text d p qs i n h = record { fates = λ s l. part p 64 (qs ++ s) (terminals text i) ∙ (ap (λ b. runs 64 b (rules_of p).1 (qs ++ s) (terminals text i)) n ∙ skips (rules_of p).1 64 (qs ++ s) (terminals text i) h) }

-- a kind, where one stands first
pub kind_moves : (text : List ℕ) (d : ℕ) (p : Part) (qs rs : List Part) (k : Kind) (i j : List Lexeme) → Bound d rs → ((s : List Part) → step (p ∷ qs ++ s) (word Integer) ≡ Some (rs ++ s)) →
    ((s : List Part) → step (p ∷ qs ++ s) (word Logical) ≡ Some (rs ++ s)) → terminals text i ≡ kind_terminal k ∷ terminals text j → Moves text d (p ∷ qs) rs i j
kind_moves text d p qs rs k i j b f g e = record { fates = λ s l. ap (fate 64 (p ∷ qs ++ s)) e ∙ take_kind k 64 (p ∷ qs ++ s) (rs ++ s) (terminals text j) (f s) (g s) (b s l) }

-- a list of parts begins
pub opens_some : (text : List ℕ) (p q : Part) (after qs : List Part) (i : List Lexeme) → (rules_of p).1 ≡ followed after (rules_of q).1 → (rules_of q).0 ≡ false →
    starts (rules_of q).1 (terminals text i) ≡ true → Moves text 0 (p ∷ qs) (q ∷ after ++ qs) i i
opens_some text p q after qs i e n h = record {
  fates = λ s l. part p 64 (qs ++ s) (terminals text i)
      ∙ (ap (λ rs. runs 64 (rules_of p).0 rs (qs ++ s) (terminals text i)) e
      ∙ (follows_some (rules_of q).1 after 64 (rules_of p).0 (qs ++ s) (terminals text i) h
      ∙ (ap (λ b. runs 64 b (rules_of q).1 (after ++ (qs ++ s)) (terminals text i)) (sym n)
      ∙ (sym (part q 64 (after ++ (qs ++ s)) (terminals text i)) ∙ ap (λ u. fate 64 (q ∷ u) (terminals text i)) (sym (append_assoc after qs s))))));
}

pub opens_process : (text : List ℕ) (qs : List Part) (i : List Lexeme) → leads a_kind (terminals text i) ≡ false → Moves text 0 (DeclarationPart ∷ qs) (ProcessPart ∷ qs) i i
opens_process text qs i h = record {
  fates = λ s l. part DeclarationPart 64 (qs ++ s) (terminals text i)
      ∙ (passes_one a_kind _ process_rules 64 (qs ++ s) (terminals text i) h ∙ sym (part ProcessPart 64 (qs ++ s) (terminals text i)));
}

pub opens_arguments : (text : List ℕ) (qs : List Part) (i : List Lexeme) → IsAbsent (SignClass Close) i →
    Moves text 0 (ArgumentsPart ∷ qs) (ArgumentPart ∷ ArgumentsTail ∷ TokenPart (a_sign Close) ∷ qs) i i
opens_arguments text qs i h = record {
  fates = λ s l. part ArgumentsPart 64 (qs ++ s) (terminals text i)
      ∙ (passes_one (a_sign Close) [] (followed (ArgumentsTail ∷ TokenPart (a_sign Close) ∷ []) argument_rules) 64 (qs ++ s) (terminals text i) (h (a_sign Close) refl text)
      ∙ (follows argument_rules (ArgumentsTail ∷ TokenPart (a_sign Close) ∷ []) 64 (qs ++ s) (terminals text i)
      ∙ sym (part ArgumentPart 64 (ArgumentsTail ∷ TokenPart (a_sign Close) ∷ qs ++ s) (terminals text i))));
}

pub opens_declarations : (text : List ℕ) (qs : List Part) (i : List Lexeme) → starts declaration_rules (terminals text i) ≡ true →
    Moves text 0 (DeclarationsPart ∷ qs) (DeclarationPart ∷ TokenPart (a_sign Semicolon) ∷ DeclarationsPart ∷ qs) i i
opens_declarations text qs i h = opens_some text DeclarationsPart DeclarationPart (TokenPart (a_sign Semicolon) ∷ DeclarationsPart ∷ []) qs i refl refl h

-- a part of one rule that refuses what stands first
pub no_part : (text : List ℕ) (p : Part) (t : RuleToken) (ps qs : List Part) (i : List Lexeme) (x : Stop) → rules_of p ≡ (false, (t, ps) ∷ []) →
    (leads t (terminals text i) ≡ false) × (x ≡ Refused false (length i)) → Stops text 0 (p ∷ qs) i x
no_part text p t ps qs i x r (a, e) =
    refused text 0 p qs i x (ap (λ y. y.0) r) (ap (λ y. starts y.1 (terminals text i)) r ∙ starts_one t ps (terminals text i) false a) e

pub no_instance : (text : List ℕ) (qs : List Part) (i : List Lexeme) (x : Stop) → (x ≡ NoMemory) ⊎ ((leads a_name (terminals text i) ≡ false) × (x ≡ Refused false (length i))) →
    Stops text 0 (InstancePart ∷ qs) i x
no_instance text qs i x h =
    ⊎_elim (λ e. no_memory text 0 (InstancePart ∷ qs) i x e) (λ a. no_part text InstancePart a_name _ qs i x refl a) h

-- the whole of a program that isn't one
pub halts : (text : List ℕ) (i : List Lexeme) (x : Stop) → Stops text 0 (ProgramPart ∷ []) i x → Halts (terminals text i) x
halts text i x f = f [] refl

-- after a whole program nothing may stand
pub whole_end : (text : List ℕ) (i : List Lexeme) → i ≢ [] → fate 64 [] (terminals text i) ≡ Refuses true (length i)
whole_end text [] h = absurd (h refl)
whole_end text (x ∷ xs) h = ap (Refuses true) (omega (arith, terminals_length text xs))
