use Rattle.kahn_live.proofs.Common.{◌∙◌, Bool, List, None, Option, Some, ap, if◌then◌else◌, option_copied, refl, subst, sym, ℕ, IsAloneTold, point_of}
use Rattle.kahn_live.proofs.Rowing.{bare_by}
use Rattle.kahn_live.proofs.taking.LiveStage.tell_alone.Goals as goal

pub returns-in_default : goal.returns-in_default
returns-in_default g c = rw c.in_default.is refl

pub returns-then-is_several : goal.returns-then-is_several
returns-then-is_several g c =
    let point = point_of g.W.Write.contents g.E.Write.contents c.args.self.now in
    let none = bare_by _ c.in-Some.input.now c.is_several.result (ap option_copied c.in-Some.is) c.is_several.ensures
    ∙ ap (λ (b : Bool). if b then None else Some c.in-Some.input.now) c.if-is_several.true in
    subst (λ (i : Option (List ℕ)). IsAloneTold i point point) (sym none) refl

pub returns-in_default-other_input : goal.returns-in_default-other_input
returns-in_default-other_input g c =
    let point = point_of g.W.Write.contents g.E.Write.contents c.args.self.now in
    let one = bare_by _ c.in-Some.input.now c.is_several.result (ap option_copied c.in-Some.is) c.is_several.ensures
    ∙ ap (λ (b : Bool). if b then None else Some c.in-Some.input.now) c.if-is_several.false in
    subst (λ (i : Option (List ℕ)). IsAloneTold i point point) (sym one) (refl, refl, (None, rw c.in_default-other_input.is at c.other_input.ensures, refl))

pub returns : goal.returns
returns g c =
    let old = point_of g.W.Write.contents g.E.Write.contents c.args.self.now in
    let new = point_of g.W.Write.contents g.E.Write.contents (record c.args.self.now { teller = c.say.new.self }) in
    let one = bare_by _ c.in-Some.input.now c.is_several.result (ap option_copied c.in-Some.is) c.is_several.ensures
    ∙ ap (λ (b : Bool). if b then None else Some c.in-Some.input.now) c.if-is_several.false in
    subst (λ (i : Option (List ℕ)). IsAloneTold i old new) (sym one) (refl, refl, (Some c.in-Some-other_input.other.now, rw c.in-Some-other_input.is at c.other_input.ensures, c.say.ensures))
