use Rattle.kahn_live.proofs.Common.{◌≡◌, ◌∙◌, Bool, false, refl, rules, subst, sym, true, IsEndWanted, telling_of}
use Rattle.kahn_live.proofs.telling.Teller.tell_end.Goals as goal

pub returns-then-not-is_end_wanted : goal.returns-then-not-is_end_wanted
returns-then-not-is_end_wanted g c =
    let unwanted : c.is_end_wanted.result ≡ false = search rules in
    let known = subst (λ (b : Bool). IsEndWanted c.args.session.now.flow.run c.args.amiss c.args.self.now.refused c.in-Some.verdict b) unwanted c.is_end_wanted.ensures in
    (sym c.verdict.ensures ∙ c.in-Some.is, (false, known, refl))

pub returns : goal.returns
returns g c =
    let wanted : c.is_end_wanted.result ≡ true = search rules in
    let known = subst (λ (b : Bool). IsEndWanted c.args.session.now.flow.run c.args.amiss c.args.self.now.refused c.in-Some.verdict b) wanted c.is_end_wanted.ensures in
    let mid = telling_of g.E.Write.contents c.tell_more.new.self in
    let last = telling_of g.E.Write.contents c.put_causes.new.self in
    (sym c.verdict.ensures ∙ c.in-Some.is, (true, known, (mid, last, c.tell_more.ensures, c.put_causes.ensures, c.put_end.ensures)))
