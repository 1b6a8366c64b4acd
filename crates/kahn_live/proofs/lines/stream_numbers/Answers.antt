use Rattle.kahn_live.proofs.Common.{[], ◌≡◌, ◌∙◌, ◌<◌, ◌++◌, ◌∷◌, inr, length, List, ℕ, refl, rules, subst, sym, HaveStreams, first_word}
use Rattle.kahn_live.proofs.Rowing.{streams_more}
use Rattle.kahn_live.proofs.lines.stream_numbers.Goals as goal

pub names-init : goal.names-init
names-init c = subst (λ (ns : List ℕ). HaveStreams c.args.session.now.flow.run c.args.names.now ns c.args.names.now) (sym c.new-numbers.ensures.items) refl

pub names-preserved : goal.names-preserved
names-preserved c =
    let h = c.args.session.now.flow.run in
    let rest = c.names.rest.now in
    let some : 0 < length (first_word rest) = search rules in
    let pushed : c.push.new.self.items ≡ c.names.numbers.items ++ (c.in-Some.number ∷ []) = search rules in
    let here = rw c.first_word-word.ensures at (sym c.stream_of.ensures ∙ c.in-Some.is) in
    subst (λ (r : List ℕ). HaveStreams h c.args.names.now c.push.new.self.items r) (sym c.behind_word-rest.ensures)
    (streams_more h c.args.names.now c.names.numbers.items c.push.new.self.items rest c.in-Some.number c.names.invariant some here pushed)

pub returns-in_default : goal.returns-in_default
returns-in_default c =
    let none = rw c.first_word-word.ensures at (sym c.stream_of.ensures ∙ c.in_default.is) in
    let some : 0 < length (first_word c.names.rest.now) = search rules in
    inr (refl, inr (c.names.numbers.items, c.names.rest.now, c.names.invariant, some, none))
