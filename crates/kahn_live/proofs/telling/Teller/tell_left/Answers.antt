use Rattle.kahn_live.proofs.Common.{◌≡◌, ◌∙◌, Bool, true, rules, subst, IsLeftTold, telling_of}
use Rattle.kahn_live.proofs.telling.Teller.tell_left.Goals as goal

pub returns : goal.returns
returns g c =
    let left : true ≡ c.has_left.result = search rules in
    let mid = telling_of g.E.Write.contents c.tell_more.new.self in
    let new = telling_of g.E.Write.contents c.say.new.self in
    subst (λ (b : Bool). IsLeftTold b (telling_of g.E.Write.contents c.args.self.now) new) (left ∙ c.has_left.ensures) (mid, c.tell_more.ensures, c.say.ensures)
