use Rattle.kahn_syntax.proofs.Parsing.{members_more, members_end, name_read, sign, Comma, NameSpans, a_sign, SignClass, TokenPart, a_name, refl, arith, one_lexeme, stopped, then_stops, no_name, NamesTail, [], ◌∷◌}
use Rattle.kahn_syntax.proofs.parser.cursor.read_names.Goals as goal

pub returns-in_err-name : goal.returns-in_err-name
returns-in_err-name c = stopped _ _ c.from_residual.result c.from_residual.ensures.1
    (then_stops _ c.names.invariant.reads
    (no_name c.args.text.now 0 (NamesTail ∷ []) c.names.rest.now _ c.in_err-name.ensures.stop))

pub names-preserved : goal.names-preserved
names-preserved c =
    let T = c.args.text.now in let n = c.in_ok-name.ensures in let a = c.in_ok-name.after.now in let j = c.in-Some.further.now in
    members_more T (sign Comma) (NameSpans T) (a_sign Comma) (SignClass Comma) (TokenPart a_name) NamesTail _ [] _ _ c.in_ok-name.name c.args.input.now c.names.rest.now a refl refl c.names.invariant
    (name_read T c.in_ok-name.name c.names.rest.now a n.spans n.shorter n.proper n.words) c.in_ok-push.ensures.items j (λ s l. omega (arith, l)) (λ s l. l) c.in-Some.ensures.first
    (one_lexeme T (sign Comma) a j c.in-Some.ensures.passed (c.in-Some.ensures.first.1 T)) c.in-Some.ensures.shorter (c.in-Some.ensures.proper T n.proper)

pub returns-in_default : goal.returns-in_default
returns-in_default c =
    let T = c.args.text.now in let n = c.in_ok-name.ensures in let a = c.in_ok-name.after.now in
    let d = members_end T (sign Comma) (NameSpans T) (a_sign Comma) (SignClass Comma) (TokenPart a_name) NamesTail (TokenPart a_name ∷ NamesTail ∷ []) [] _ _ c.in_ok-name.name c.args.input.now c.names.rest.now a refl refl c.names.invariant
    (name_read T c.in_ok-name.name c.names.rest.now a n.spans n.shorter n.proper n.words) c.in_ok-push.ensures.items (λ s l. l) c.in_default.ensures.absent in
    record { spans = d.0; shorter = d.1; proper = n.proper; reads = d.2 }
