use Rattle.kahn_syntax.proofs.Parsing.{GroupPart, GroupsPart, GroupsTail, Semicolon, SignClass, SomeParametersSpan, a_kind, a_sign, arith, call_stops, stopped, false, group, last_member, leads, members_of, next_member, one_lexeme, parameter_with, parameters_first, parameters_next, refl, rules, sign, some_are_parameters, subst, sym, terminals, then_stops, true, [], ◌++◌, ◌∷◌, ◌≡◌, opens_some, starts_one, nothing}
use Rattle.kahn_syntax.proofs.parser.declaration.read_parameters.Goals as goal

pub returns-in_err-group : goal.returns-in_err-group
returns-in_err-group c = stopped _ _ c.from_residual.result c.from_residual.ensures.1 (then_stops _ c.groups.invariant.reads
    (call_stops c.args.text.now 0 0 (GroupPart ∷ []) (GroupsTail ∷ []) c.groups.rest.now _ (λ s l. omega (arith, l)) c.in_err-group.ensures))

pub groups-init : goal.groups-init
groups-init c =
    let a : leads a_kind (terminals c.args.text.now c.args.input.now) ≡ true = search rules in
    let e = c.new-parameters.ensures.items in
    record {
      spans = λ g r p. subst (λ ps. SomeParametersSpan c.args.text.now (ps ++ members_of parameter_with g) c.args.input.now r) (sym e) (parameters_first c.args.text.now _ g c.args.input.now r refl p);
      shorter = omega arith;
      proper = c.requires.proper;
      reads = opens_some c.args.text.now GroupsPart GroupPart (GroupsTail ∷ []) [] c.args.input.now refl refl (starts_one a_kind _ (terminals c.args.text.now c.args.input.now) true a);
    }

pub groups-preserved : goal.groups-preserved
groups-preserved c =
    let T = c.args.text.now in let i = c.args.input.now in
    let a = c.in_ok-group.after.now in
    let o = c.groups.rest.now in
    let g = c.in_ok-group.group in
    let s = subst (λ ps. SomeParametersSpan T ps i a) (sym c.in_ok-add_parameters.ensures.items) (c.groups.invariant.spans (group g.0 g.1.items) a c.in_ok-group.ensures.spans) in
    let j = c.in-Some.further.now in
    record {
      spans = λ h r p. parameters_next T _ _ h i a j r refl s (one_lexeme T (sign Semicolon) a j c.in-Some.ensures.passed (c.in-Some.ensures.first.1 T)) p;
      shorter = omega (arith, c.in-Some.ensures.shorter, c.in_ok-group.ensures.shorter, c.groups.invariant.shorter);
      proper = c.in-Some.ensures.proper T c.in_ok-group.ensures.proper;
      reads = next_member T 0 (GroupsPart ∷ []) GroupsTail (a_sign Semicolon) GroupPart [] (SignClass Semicolon) i o a j (λ s l. omega (arith, l)) (λ s l. l) refl refl c.groups.invariant.reads c.in_ok-group.ensures.reads c.in-Some.ensures.first;
    }

pub returns-then-is_none : goal.returns-then-is_none
returns-then-is_none c =
    record {
      spans = ([], c.new-parameters.ensures.items, refl);
      shorter = omega arith;
      proper = c.requires.proper;
      reads = let a : leads a_kind (terminals c.args.text.now c.args.input.now) ≡ false = search rules in nothing c.args.text.now 0 GroupsPart [] c.args.input.now refl (starts_one a_kind _ (terminals c.args.text.now c.args.input.now) false a);
    }

pub returns-in_default : goal.returns-in_default
returns-in_default c =
    let T = c.args.text.now in let i = c.args.input.now in
    let a = c.in_ok-group.after.now in
    let o = c.groups.rest.now in
    let g = c.in_ok-group.group in
    let s = subst (λ ps. SomeParametersSpan T ps i a) (sym c.in_ok-add_parameters.ensures.items) (c.groups.invariant.spans (group g.0 g.1.items) a c.in_ok-group.ensures.spans) in
    record {
      spans = some_are_parameters T _ i a s;
      shorter = omega (arith, c.in_ok-group.ensures.shorter, c.groups.invariant.shorter);
      proper = c.in_ok-group.ensures.proper;
      reads = last_member T 0 (GroupsPart ∷ []) GroupsTail (a_sign Semicolon) GroupPart [] (SignClass Semicolon) i o a (λ s l. l) refl refl c.groups.invariant.reads c.in_ok-group.ensures.reads c.in_default.ensures.absent;
    }
