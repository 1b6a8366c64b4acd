use Rattle.kahn_session.proofs.Common.{[], ◌∷◌, ◌++◌, ◌∙◌, List, ℕ, ap, append_assoc, codes, concat, length, rules, subst, sym, Writes}
use Rattle.kahn_texts.specs.Shown.{shown_part}
use Rattle.kahn_session.specs.Refusals.{before_part, behind_part}
use Rattle.kahn_session.proofs.refusal.put.Goals as goal

pub returns : goal.returns
returns g c =
    let before = g.W.Write.contents c.args.out.now in
    let after = g.W.Write.contents c.write_line.new.writer in
    let path = c.args.path.now in
    let from = c.args.from.now in
    let number = c.args.number.now in
    let part = c.args.part.now in
    let behind = c.args.first.now ∷ c.args.next.now ∷ c.args.last.now ∷ codes "\n" ∷ [] in
    let rest = concat (codes ": " ∷ c.args.words.now ∷ before_part part ∷ shown_part part ∷ behind_part part (length (shown_part part)) ∷ behind) in
    let text : Writes before after c.write_line.result (path ++ (from ++ (number ++ rest))) = search rules in
    subst (Writes before after c.write_line.result) (ap (λ (l : List ℕ). path ++ l) (sym (append_assoc from number rest))) text
