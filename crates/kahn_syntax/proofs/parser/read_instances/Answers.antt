use Rattle.kahn_syntax.proofs.Parsing.{stopped, then_stops, call_stops, members_begin, members_more, members_end, InstancePart, InstanceSpans, InstancesTail, Par, Word, a_word, word, one_lexeme, arith, refl, [], ◌∷◌}
use Rattle.kahn_syntax.proofs.parser.read_instances.Goals as goal

pub returns-in_err-instance : goal.returns-in_err-instance
returns-in_err-instance c = stopped _ _ c.from_residual.result c.from_residual.ensures.1 (then_stops _ c.instances.invariant.reads
    (call_stops c.args.text.now 0 0 (InstancePart ∷ []) (InstancesTail ∷ []) c.instances.rest.now _ (λ s l. omega (arith, l)) c.in_err-instance.ensures))

pub instances-init : goal.instances-init
instances-init c = members_begin c.args.text.now (word Par) (InstanceSpans c.args.text.now) (InstancePart ∷ InstancesTail ∷ []) (InstancePart ∷ InstancesTail ∷ []) _ c.args.input.now c.new-instances.ensures.items c.requires.proper (record { fates = λ s l. refl })

pub instances-preserved : goal.instances-preserved
instances-preserved c =
    let T = c.args.text.now in let a = c.in_ok-instance.after.now in let j = c.in-Some.further.now in
    members_more T (word Par) (InstanceSpans T) (a_word Par) (Word Par) InstancePart InstancesTail _ [] _ _ c.in_ok-instance.instance c.args.input.now c.instances.rest.now a refl refl c.instances.invariant c.in_ok-instance.ensures
    c.in_ok-push.ensures.items j (λ s l. omega (arith, l)) (λ s l. l) c.in-Some.ensures.first
    (one_lexeme T (word Par) a j c.in-Some.ensures.passed (c.in-Some.ensures.first.1 T)) c.in-Some.ensures.shorter (c.in-Some.ensures.proper T c.in_ok-instance.ensures.proper)

pub returns-in_default : goal.returns-in_default
returns-in_default c =
    let T = c.args.text.now in
    let d = members_end T (word Par) (InstanceSpans T) (a_word Par) (Word Par) InstancePart InstancesTail (InstancePart ∷ InstancesTail ∷ []) [] _ _ c.in_ok-instance.instance c.args.input.now c.instances.rest.now c.in_ok-instance.after.now
    refl refl c.instances.invariant c.in_ok-instance.ensures c.in_ok-push.ensures.items (λ s l. l) c.in_default.ensures.absent in
    record { spans = d.0; shorter = d.1; proper = c.in_ok-instance.ensures.proper; reads = d.2 }
