use Rattle.kahn_live.proofs.Common.{◌∙◌, Bool, subst, sym, option_copied, IsComplaint, LiveTelling, telling_of}
use Rattle.kahn_live.specs.Course.{IsNextTold}
use Rattle.kahn_live.proofs.telling.tell_refused.Goals as goal

pub returns-then-is_again : goal.returns-then-is_again
returns-then-is_again g c =
    let hint = option_copied c.hint_of-input.result in
    let old = telling_of g.E.Write.contents c.args.teller.now in
    let new = telling_of g.E.Write.contents c.count.new.self in (
      hint,
      rw c.wants_hint-wanted.ensures at c.hint_of-input.ensures,
      subst (λ (b : Bool). IsComplaint c.args.session.now c.args.number c.args.line.now c.args.fault hint b old new) (sym c.if-is_again.true ∙ c.is_again.ensures) c.count.ensures,
    )

pub returns : goal.returns
returns g c =
    let hint = option_copied c.hint_of-input.result in
    let old = telling_of g.E.Write.contents c.args.teller.now in
    let new = telling_of g.E.Write.contents c.tell.new.self in
    let pointed = rw c.network-network.ensures at c.refused_part-part.ensures in (
      hint,
      rw c.wants_hint-wanted.ensures at c.hint_of-input.ensures,
      subst (λ (b : Bool). IsComplaint c.args.session.now c.args.number c.args.line.now c.args.fault hint b old new) (sym c.if-is_again.false ∙ c.is_again.ensures)
          (c.refused_part-part.result, pointed, subst (λ (k : LiveTelling). IsNextTold c.args.number c.args.fault c.refused_part-part.result hint k new) c.words_of-words.ensures c.tell.ensures),
    )
