use Rattle.kahn_session.proofs.Common.{rules, ◌≡◌, ◌∙◌, ◌+◌, ◌++◌, ◌∷◌, ◌==◌, [], Bool, List, true, false, ap, drop, if◌then◌else◌, list_any, subst, sym, Value, next_of}
use Rattle.kahn_session.proofs.Waiting.{none_waits, one_waits}
use Rattle.kahn_session.proofs.pace.waiting_of.Goals as goal

pub returns-then-not-contains : goal.returns-then-not-contains
returns-then-not-contains c =
    let out : list_any (λ x. x == c.args.number) c.args.columns.now ≡ false = search rules in
    c.new-left.ensures.items ∙ sym (ap (λ (b : Bool). if b then drop c.args.count (next_of c.args.run.now c.args.number) else []) out)

pub returns-in_default : goal.returns-in_default
returns-in_default c =
    let values = next_of c.args.run.now c.args.number in
    let within : list_any (λ x. x == c.args.number) c.args.columns.now ≡ true = search rules in
    none_waits values c.loop-place.place c.loop-place.left.items (drop c.args.count values) c.loop-place.invariant (sym c.next_at.ensures ∙ c.in_default.is)
    ∙ sym (ap (λ (b : Bool). if b then drop c.args.count values else []) within)

pub loop-place-preserved : goal.loop-place-preserved
loop-place-preserved c =
    let values = next_of c.args.run.now c.args.number in
    let pushed : c.push.new.self.items ≡ c.loop-place.left.items ++ (c.in-Some.value ∷ []) = search rules in
    subst (λ (l : List Value). l ++ drop (c.loop-place.place + 1) values ≡ drop c.args.count values) (sym pushed)
    (one_waits values c.loop-place.place c.loop-place.left.items (drop c.args.count values) c.in-Some.value c.loop-place.invariant (sym c.next_at.ensures ∙ c.in-Some.is))
