use Rattle.kahn_live.proofs.Common.{[], ◌≡◌, ◌∙◌, ◌<◌, ◌++◌, ◌∷◌, length, List, ℕ, ap, map, refl, rules, subst, sym, IsRowFront, behind_word, bytes_in, first_word, is_wordless, row_line}
use Rattle.kahn_live.proofs.Rowing.{front_more, last_in}
use Rattle.kahn_live.proofs.lines.row_cells.Goals as goal

pub names-init : goal.names-init
names-init c =
    let none = ap (map bytes_in) c.new-cells.ensures.items in
    let s = c.args.session.now in
    let names = c.args.names.now in
    let row = c.args.row.now in
    let front = subst (λ (cs : List (List ℕ)). IsRowFront s names row cs names row) (sym none) ((refl, refl), tt) in
    (search rules, front)

pub names-preserved : goal.names-preserved
names-preserved c =
    let s = c.args.session.now in
    let done = map bytes_in c.names.cells.items in
    let rest = c.names.rest.now in
    let left = c.names.words.now in
    let cell = bytes_in c.in-Ok.cell in
    let new = map bytes_in c.push.new.self.items in
    let some : 0 < length (first_word rest) = search rules in
    let fits : is_wordless left ≡ is_wordless c.args.row.now = search rules in
    let pushed : c.push.new.self.items ≡ c.names.cells.items ++ (c.in-Ok.cell ∷ []) = search rules in
    let grown : new ≡ done ++ (cell ∷ []) = ap (map bytes_in) pushed ∙ last_in c.names.cells.items c.in-Ok.cell in
    let is : cell ≡ row_line (first_word rest) (first_word left) = search rules in
    let front = front_more s c.args.names.now c.args.row.now done new rest left cell c.names.invariant.1 some fits is c.in-Ok.ensures.1 grown in (
      c.names.invariant.0,
      subst (λ (r : List ℕ). IsRowFront s c.args.names.now c.args.row.now new r c.behind_word-words.result.now) (sym c.behind_word-rest.ensures)
          (subst (λ (w : List ℕ). IsRowFront s c.args.names.now c.args.row.now new (behind_word rest) w) (sym c.behind_word-words.ensures) front),
    )
