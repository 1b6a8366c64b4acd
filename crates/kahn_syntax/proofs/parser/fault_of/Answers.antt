use Rattle.kahn_syntax.proofs.Parsing.{Halts, Refused, ap, deep_left, deep_memory, halts_memory, is_more, is_nothing, is_other, is_too_deep, refl, refused_left, refused_memory, subst, terminals, ◌∙◌}
use Rattle.kahn_syntax.proofs.parser.fault_of.Goals as goal

pub span_at-requires-clause-some : goal.span_at-requires-clause-some
span_at-requires-clause-some c = (deep_left c.args.text.now c.args.lexemes.now _ (subst (Halts (terminals c.args.text.now c.args.lexemes.now)) c.in-TooDeep.is c.requires.halts)).1

pub span_at-requires-clause-in_range : goal.span_at-requires-clause-in_range
span_at-requires-clause-in_range c = (deep_left c.args.text.now c.args.lexemes.now _ (subst (Halts (terminals c.args.text.now c.args.lexemes.now)) c.in-TooDeep.is c.requires.halts)).0

pub span_at-requires-then-whole-clause-in_range : goal.span_at-requires-then-whole-clause-in_range
span_at-requires-then-whole-clause-in_range c = refused_left c.args.text.now c.args.lexemes.now _ _ (subst (Halts (terminals c.args.text.now c.args.lexemes.now)) c.in-Refused.is c.requires.halts)

pub span_at-requires-else-whole-clause-in_range : goal.span_at-requires-else-whole-clause-in_range
span_at-requires-else-whole-clause-in_range c = refused_left c.args.text.now c.args.lexemes.now _ _ (subst (Halts (terminals c.args.text.now c.args.lexemes.now)) c.in-Refused.is c.requires.halts)

pub returns-in-TooDeep-clause-found : goal.returns-in-TooDeep-clause-found
returns-in-TooDeep-clause-found c = λ t p l.
    absurd (deep_memory _ (halts_memory (terminals c.args.text.now c.args.lexemes.now) _ t (subst (Halts (terminals c.args.text.now c.args.lexemes.now)) c.in-TooDeep.is c.requires.halts) p l))

pub returns-in-TooDeep-clause-fault : goal.returns-in-TooDeep-clause-fault
returns-in-TooDeep-clause-fault c =
    is_too_deep c.args.text.now c.args.lexemes.now _ _ c.span_at.ensures (subst (Halts (terminals c.args.text.now c.args.lexemes.now)) c.in-TooDeep.is c.requires.halts)

pub returns-then-left-eq0-clause-found : goal.returns-then-left-eq0-clause-found
returns-then-left-eq0-clause-found c = λ t p l.
    absurd (refused_memory _ _ (halts_memory (terminals c.args.text.now c.args.lexemes.now) _ t (subst (Halts (terminals c.args.text.now c.args.lexemes.now)) c.in-Refused.is c.requires.halts) p l))

pub returns-then-left-eq0-clause-fault : goal.returns-then-left-eq0-clause-fault
returns-then-left-eq0-clause-fault c =
    let h = is_more (terminals c.args.text.now c.args.lexemes.now) c.in-Refused.whole
    (subst (Halts (terminals c.args.text.now c.args.lexemes.now)) (c.in-Refused.is ∙ ap (Refused c.in-Refused.whole) c.if-left-eq0.true) c.requires.halts) in
    (refl, refl, h.0, h.1)

pub returns-then-whole-clause-found : goal.returns-then-whole-clause-found
returns-then-whole-clause-found c = λ t p l.
    absurd (refused_memory _ _ (halts_memory (terminals c.args.text.now c.args.lexemes.now) _ t (subst (Halts (terminals c.args.text.now c.args.lexemes.now)) c.in-Refused.is c.requires.halts) p l))

pub returns-then-whole-clause-fault : goal.returns-then-whole-clause-fault
returns-then-whole-clause-fault c =
    is_nothing c.args.text.now c.args.lexemes.now _ c.in-Refused.left c.span_at-then-whole.ensures
    (subst (Halts (terminals c.args.text.now c.args.lexemes.now)) (c.in-Refused.is ∙ ap (λ w. Refused w c.in-Refused.left) c.if-whole.true) c.requires.halts)

pub returns-else-whole-clause-found : goal.returns-else-whole-clause-found
returns-else-whole-clause-found c = λ t p l.
    absurd (refused_memory _ _ (halts_memory (terminals c.args.text.now c.args.lexemes.now) _ t (subst (Halts (terminals c.args.text.now c.args.lexemes.now)) c.in-Refused.is c.requires.halts) p l))

pub returns-else-whole-clause-fault : goal.returns-else-whole-clause-fault
returns-else-whole-clause-fault c =
    is_other c.args.text.now c.args.lexemes.now _ c.in-Refused.left c.span_at-else-whole.ensures
    (subst (Halts (terminals c.args.text.now c.args.lexemes.now)) (c.in-Refused.is ∙ ap (λ w. Refused w c.in-Refused.left) c.if-whole.false) c.requires.halts)
