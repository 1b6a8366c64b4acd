use Rattle.kahn_streams.proofs.Common.{rules, ap, subst, sym, ◌∙◌, ◌≡◌, Some, Holds, slice_get}
use Rattle.kahn_streams.specs.Inputs.{Names}
use Rattle.kahn_streams.proofs.Token_lists.{found_at, token_same}
use Rattle.std.proofs.lemmas.Option.{same_Some}
use Rattle.kahn_streams.proofs.tokens.Tokens.token.Goals as goal

pub unreachable-requires : goal.unreachable-requires
unreachable-requires g c =
    let t = c.requires.0 in
    let there = found_at c.args.self.now.items c.args.place t c.requires.1 in
    absurd (c.in_default.not-Some t.value (c.get.ensures ∙ ap (λ l. slice_get l c.args.place) c.values.ensures ∙ there.1))

pub token_in-requires : goal.token_in-requires
token_in-requires g c κs within =
    let t = c.requires.0 in
    let there = found_at c.args.self.now.items c.args.place t c.requires.1 in
    let same = same_Some t.value c.in-Some.value (sym (c.get.ensures ∙ ap (λ l. slice_get l c.args.place) c.values.ensures ∙ there.1) ∙ c.in-Some.is) ∙ sym c.of.ensures in
    (search rules, subst (λ (n : Names). Holds n.network n.input c.args.line c.args.place c.of.result) (sym there.0) (rw (← c.requires.2, ← c.requires.3, ← same) t.stands))

pub returns : goal.returns
returns g c =
    let t = c.requires.0 in
    let there = found_at c.args.self.now.items c.args.place t c.requires.1 in
    let same = same_Some t.value c.in-Some.value (sym (c.get.ensures ∙ ap (λ l. slice_get l c.args.place) c.values.ensures ∙ there.1) ∙ c.in-Some.is) ∙ sym c.of.ensures in
    let made = c.token_in.ensures in
    c.requires.1 ∙ ap Some (token_same t c.token_in.result (c.requires.2 ∙ sym made.here.0) (c.requires.3 ∙ sym made.here.1) (same ∙ sym made.here.2)
    (sym (made.names.0 ∙ ap (λ (n : Names). n.network) there.0)) (sym (made.names.1 ∙ ap (λ (n : Names). n.input) there.0)))
