use Rattle.kahn_live.proofs.Common.{option_copied, ◌∙◌, List, Ok, Option, None, Bool, refl, sym, ℕ, subst, point_of, IsReadBy, IsReadIn, is_idle}
use Rattle.kahn_live.proofs.Feeding.{not_idle}
use Rattle.kahn_live.proofs.taking.LiveStage.take_read.Goals as goal

pub returns-then-is_idle-clause-met : goal.returns-then-is_idle-clause-met
returns-then-is_idle-clause-met g c =
    let input = option_copied c.args.input in
    let n = c.args.number in
    let old = point_of g.W.Write.contents g.E.Write.contents c.args.self.now in
    let v = old.session.flow.run.verdict in
    let is = c.if-is_idle.true in
    subst (λ (l : List ℕ). IsReadBy (is_idle n l v) input n l old old (Ok None)) c.without_mark-line.ensures
    (subst (λ (b : Bool). IsReadBy b input n c.without_mark-line.result.now old old (Ok None)) (sym is ∙ c.is_idle.ensures) (refl, refl))

pub returns-in-Some-clause-met : goal.returns-in-Some-clause-met
returns-in-Some-clause-met g c =
    let input = option_copied c.args.input in
    let n = c.args.number in
    let old = point_of g.W.Write.contents g.E.Write.contents c.args.self.now in
    let new = point_of g.W.Write.contents g.E.Write.contents c.take_row.new.self in
    let r = c.take_row.result in
    let line = c.without_mark-line.result.now in
    let not = c.if-is_idle.false in
    let met = subst (λ (names : Option (List ℕ)). IsReadIn names input n line old new r) c.in-Some.ensures c.take_row.ensures.met in
    not_idle c.is_idle.result input n line _ old new r not c.is_idle.ensures c.without_mark-line.ensures met

pub returns-in-None-clause-met : goal.returns-in-None-clause-met
returns-in-None-clause-met g c =
    let input = option_copied c.args.input in
    let n = c.args.number in
    let old = point_of g.W.Write.contents g.E.Write.contents c.args.self.now in
    let new = point_of g.W.Write.contents g.E.Write.contents c.take_alone.new.self in
    let r = c.take_alone.result in
    let line = c.without_mark-line.result.now in
    let not = c.if-is_idle.false in
    let met = subst (λ (names : Option (List ℕ)). IsReadIn names input n line old new r) c.in-None.ensures c.take_alone.ensures.met in
    not_idle c.is_idle.result input n line _ old new r not c.is_idle.ensures c.without_mark-line.ensures met
