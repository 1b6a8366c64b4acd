-- The network of the sample text.
use Rattle.kahn_report.proofs.Common.{◌≡◌, ℕ, List, [], ◌∷◌, codes, pos, length, refl, sym, ap, ◌∙◌, subst, arith, inl, inr, true, Program, network_of, program_tree, terminals, IsProgram, Terminal, word, sign, name, numeral, truth, variable, wait, denial, bracket, conditional, empty, assign, send, print, block, if_else, repeat, StatementTrees, no_statement, statement, DeclarationTree, InstanceTree, ProgramTree, ArgumentTree, Spells, SpellsDeclaration, Argues, Instantiates, SomeNames, SomeBetween, StandsFirst, group, spelling, one_tree, same_lexemes, program_spelled}
use Rattle.kahn_streams.specs.declared.tree.Kind.TheVariants as kind
use Rattle.kahn_streams.specs.declared.tree.Role.TheVariants as role
use Rattle.kahn_streams.specs.declared.tree.Direction.TheVariants as direction
use Rattle.kahn_streams.specs.declared.tree.Taking.TheVariants as taking
use Rattle.kahn_syntax.specs.declared.lexeme.Keyword.TheVariants as keyword
use Rattle.kahn_syntax.specs.declared.lexeme.Sign.TheVariants as mark
use Rattle.kahn_syntax.specs.Grammar as whole
use Rattle.kahn_streams.specs.Sample.{sample_network}
use Rattle.kahn_report.specs.SampleText.{sample_words, f_words, g_words, h_words, main_words, IsSampleText}
use Rattle.kahn_report.proofs.Same_programs.{network_in, same_network}

abbrev last_turn : StatementTrees
last_turn = statement (assign (codes "B") (denial (variable (codes "B")))) (statement empty no_statement)

abbrev begun : StatementTrees → StatementTrees
begun turn = statement (assign (codes "B") (truth true)) (statement (repeat (block turn)) (statement empty no_statement))

abbrev f_tree : DeclarationTree
f_tree =
    whole.process (codes "f")
    ((taking.Channel direction.In kind.Integer, codes "U") ∷ (taking.Channel direction.In kind.Integer, codes "V")
    ∷ (taking.Channel direction.Out kind.Integer, codes "W") ∷ [])
    ((kind.Integer, codes "I") ∷ (kind.Logical, codes "B") ∷ [])
    (begun (statement (assign (codes "I") (conditional (variable (codes "B")) (wait (codes "U")) (wait (codes "V"))))
    (statement (print (bracket (variable (codes "I")))) (statement (send (variable (codes "I")) (codes "W")) last_turn))))

abbrev g_tree : DeclarationTree
g_tree =
    whole.process (codes "g")
    ((taking.Channel direction.In kind.Integer, codes "U") ∷ (taking.Channel direction.Out kind.Integer, codes "V")
    ∷ (taking.Channel direction.Out kind.Integer, codes "W") ∷ [])
    ((kind.Integer, codes "I") ∷ (kind.Logical, codes "B") ∷ [])
    (begun (statement (assign (codes "I") (wait (codes "U")))
    (statement (if_else (variable (codes "B")) (send (variable (codes "I")) (codes "V")) (send (variable (codes "I")) (codes "W"))) last_turn)))

abbrev h_tree : DeclarationTree
h_tree =
    whole.process (codes "h")
    ((taking.Channel direction.In kind.Integer, codes "U") ∷ (taking.Channel direction.Out kind.Integer, codes "V")
    ∷ (taking.Value kind.Integer, codes "INIT") ∷ [])
    ((kind.Integer, codes "I") ∷ [])
    (statement (send (variable (codes "INIT")) (codes "V"))
    (statement (repeat (block (statement (assign (codes "I") (wait (codes "U"))) (statement (send (variable (codes "I")) (codes "V")) (statement empty no_statement)))))
    (statement empty no_statement)))

abbrev lines_tree : DeclarationTree
lines_tree = whole.channels kind.Integer role.Inner (codes "X" ∷ codes "Y" ∷ codes "Z" ∷ codes "T1" ∷ codes "T2" ∷ [])

abbrev sample_tree : ProgramTree
sample_tree =
    whole.program (lines_tree ∷ f_tree ∷ g_tree ∷ h_tree ∷ [])
    (whole.instance (codes "f") (whole.channel (codes "Y") ∷ whole.channel (codes "Z") ∷ whole.channel (codes "X") ∷ [])
    ∷ whole.instance (codes "g") (whole.channel (codes "X") ∷ whole.channel (codes "T1") ∷ whole.channel (codes "T2") ∷ [])
    ∷ whole.instance (codes "h") (whole.channel (codes "T1") ∷ whole.channel (codes "Y") ∷ whole.number_argument (pos 0) ∷ [])
    ∷ whole.instance (codes "h") (whole.channel (codes "T2") ∷ whole.channel (codes "Z") ∷ whole.number_argument (pos 1) ∷ []) ∷ [])

abbrev instances_in : ProgramTree → List InstanceTree
instances_in (whole.program ds is) = is

-- its network is the one of which the law speaks
sample_is : network_in sample_tree ≡ sample_network
sample_is = refl

-- ---- the tree spells the words

f_spelled : (r : List Terminal) → SpellsDeclaration f_tree (f_words r) (sign mark.Semicolon ∷ r)
f_spelled r = (
  _,
  _,
  _,
  _,
  _,
  refl,
  refl,
  (
    _,
    _,
    refl,
    (
      group (taking.Channel direction.In kind.Integer) (codes "U" ∷ codes "V" ∷ []) ∷ group (taking.Channel direction.Out kind.Integer) (codes "W" ∷ []) ∷ [],
      refl,
      (_, (_, (_, refl, (_, refl, refl)), (_, refl, (_, _, refl, refl, refl))), (_, _, refl, (_, (_, refl, (_, refl, refl)), (_, refl, refl)), refl)),
    ),
    (_, refl, (_, refl, (_, refl, refl))),
  ),
  (group kind.Integer (codes "I" ∷ []) ∷ group kind.Logical (codes "B" ∷ []) ∷ [], refl, (_, _, (_, refl, (_, refl, refl)), refl, (_, _, (_, refl, (_, refl, refl)), refl, refl))),
  (refl, tt, (tt, ((tt, ((tt, tt, tt), (tt, (tt, ((omega arith, tt), (tt, tt)))))), (tt, tt)))),
  refl,
)

g_spelled : (r : List Terminal) → SpellsDeclaration g_tree (g_words r) (sign mark.Semicolon ∷ r)
g_spelled r = (
  _,
  _,
  _,
  _,
  _,
  refl,
  refl,
  (
    _,
    _,
    refl,
    (
      group (taking.Channel direction.In kind.Integer) (codes "U" ∷ []) ∷ group (taking.Channel direction.Out kind.Integer) (codes "V" ∷ codes "W" ∷ []) ∷ [],
      refl,
      (_, (_, (_, refl, (_, refl, refl)), (_, refl, refl)), (_, _, refl, (_, (_, refl, (_, refl, refl)), (_, refl, (_, _, refl, refl, refl))), refl)),
    ),
    (_, refl, (_, refl, (_, refl, refl))),
  ),
  (group kind.Integer (codes "I" ∷ []) ∷ group kind.Logical (codes "B" ∷ []) ∷ [], refl, (_, _, (_, refl, (_, refl, refl)), refl, (_, _, (_, refl, (_, refl, refl)), refl, refl))),
  (refl, tt, (tt, ((tt, (tt, ((tt, tt, tt, tt), ((omega arith, tt), (tt, tt))))), (tt, tt)))),
  refl,
)

h_spelled : (r : List Terminal) → SpellsDeclaration h_tree (h_words r) (sign mark.Semicolon ∷ r)
h_spelled r = (
  _,
  _,
  _,
  _,
  _,
  refl,
  refl,
  (
    _,
    _,
    refl,
    (
      group (taking.Channel direction.In kind.Integer) (codes "U" ∷ []) ∷ group (taking.Channel direction.Out kind.Integer) (codes "V" ∷ []) ∷ group (taking.Value kind.Integer) (codes "INIT" ∷ []) ∷ [],
      refl,
      (
        _,
        (_, (_, refl, (_, refl, refl)), (_, refl, refl)),
        (_, _, refl, (_, (_, refl, (_, refl, refl)), (_, refl, refl)), (_, _, refl, (_, (_, refl, refl), (_, refl, refl)), refl)),
      ),
    ),
    (_, refl, (_, refl, (_, refl, refl))),
  ),
  (group kind.Integer (codes "I" ∷ []) ∷ [], refl, (_, _, (_, refl, (_, refl, refl)), refl, refl)),
  (refl, tt, (tt, ((tt, (tt, (tt, (tt, tt)))), (tt, tt)))),
  refl,
)

-- an instance with three arguments
three : (n : List ℕ) (a b c : ArgumentTree) (r : List Terminal) (x y z : Terminal) → Argues a (x ∷ sign mark.Comma ∷ y ∷ sign mark.Comma ∷ z ∷ sign mark.Close ∷ r) (sign mark.Comma ∷ y ∷ sign mark.Comma ∷ z ∷ sign mark.Close ∷ r) →
    Argues b (y ∷ sign mark.Comma ∷ z ∷ sign mark.Close ∷ r) (sign mark.Comma ∷ z ∷ sign mark.Close ∷ r) → Argues c (z ∷ sign mark.Close ∷ r) (sign mark.Close ∷ r) →
    Instantiates (whole.instance n (a ∷ b ∷ c ∷ [])) (name n ∷ sign mark.Open ∷ x ∷ sign mark.Comma ∷ y ∷ sign mark.Comma ∷ z ∷ sign mark.Close ∷ r) r
three n a b c r x y z first second third = (_, _, _, refl, refl, (_, first, (_, _, refl, second, (_, _, refl, third, refl))), refl)

-- the instances
main_spelled : (r : List Terminal) → SomeBetween (StandsFirst (word keyword.Par)) Instantiates (instances_in sample_tree) (main_words r) r
main_spelled r =
    let last = name (codes "h") ∷ sign mark.Open ∷ name (codes "T2") ∷ sign mark.Comma ∷ name (codes "Z") ∷ sign mark.Comma ∷ numeral (pos 1) ∷ sign mark.Close ∷ r in
    let third = name (codes "h") ∷ sign mark.Open ∷ name (codes "T1") ∷ sign mark.Comma ∷ name (codes "Y") ∷ sign mark.Comma ∷ numeral (pos 0) ∷ sign mark.Close ∷ word keyword.Par ∷ last in
    let second = name (codes "g") ∷ sign mark.Open ∷ name (codes "X") ∷ sign mark.Comma ∷ name (codes "T1") ∷ sign mark.Comma ∷ name (codes "T2") ∷ sign mark.Close ∷ word keyword.Par ∷ third in (
      word keyword.Par ∷ second,
      three (codes "f") (whole.channel (codes "Y")) (whole.channel (codes "Z")) (whole.channel (codes "X")) (word keyword.Par ∷ second) (name (codes "Y")) (name (codes "Z")) (name (codes "X")) refl refl refl,
      (
        second,
        word keyword.Par ∷ third,
        refl,
        three (codes "g") (whole.channel (codes "X")) (whole.channel (codes "T1")) (whole.channel (codes "T2")) (word keyword.Par ∷ third) (name (codes "X")) (name (codes "T1")) (name (codes "T2")) refl refl refl,
        (
          third,
          word keyword.Par ∷ last,
          refl,
          three (codes "h") (whole.channel (codes "T1")) (whole.channel (codes "Y")) (whole.number_argument (pos 0)) (word keyword.Par ∷ last) (name (codes "T1")) (name (codes "Y")) (numeral (pos 0)) refl refl (inl refl),
          (last, r, refl, three (codes "h") (whole.channel (codes "T2")) (whole.channel (codes "Z")) (whole.number_argument (pos 1)) r (name (codes "T2")) (name (codes "Z")) (numeral (pos 1)) refl refl (inl refl), refl),
        ),
      ),
    )

sample_spelled : Spells sample_tree sample_words
sample_spelled =
    let e = sign mark.Semicolon ∷ [] in
    let d = word keyword.End ∷ e in
    let b = main_words d in
    let h = h_words b in
    let g = g_words h in
    let f = f_words g in
    let names : SomeNames spelling (codes "X" ∷ codes "Y" ∷ codes "Z" ∷ codes "T1" ∷ codes "T2" ∷ [])
    (name (codes "X") ∷ sign mark.Comma ∷ name (codes "Y") ∷ sign mark.Comma ∷ name (codes "Z") ∷ sign mark.Comma ∷ name (codes "T1") ∷ sign mark.Comma ∷ name (codes "T2") ∷ sign mark.Semicolon ∷ f)
    (sign mark.Semicolon ∷ f) = (_, refl, (_, _, refl, refl, (_, _, refl, refl, (_, _, refl, refl, (_, _, refl, refl, refl))))) in
    (_, b, d, d, e, refl, (_, f, (_, _, _, refl, refl, refl, names), refl, (_, g, f_spelled g, refl, (_, h, g_spelled h, refl, (_, b, h_spelled b, refl, refl)))), main_spelled d, inr refl, refl, inl refl)

-- every program of the sample text has its network
pub sample_text : (text : List ℕ) (t : Program) → IsSampleText text → IsProgram text t → network_of t ≡ sample_network
sample_text text t s h =
    let same : s.0 ≡ h.0 = same_lexemes text 0 (length text) s.0 h.0 s.1.1 h.1.1 in
    let words : terminals text h.0 ≡ sample_words = ap (terminals text) (sym same) ∙ s.2 in
    let tree : program_tree t ≡ sample_tree = one_tree (program_tree t) sample_tree sample_words (subst (Spells (program_tree t)) words (program_spelled text t h.0 h.2)) sample_spelled in
    same_network t ∙ ap network_in tree ∙ sample_is
