use Rattle.kahn_live.proofs.Common.{[], arith, ◌≡◌, ◌∙◌, ◌+◌, ◌∷◌, inl, inr, ℕ, List, Ok, ap, drop, map, refl, subst, sym, common_steps, err_from_is_err_and, AreFedIn, AreFedUpTo, HasSent, IsRefusalTold, IsWriteFault, Live, Point, point_of, bytes_in}
use Rattle.kahn_live.proofs.Meeting.{torn}
use Rattle.kahn_live.proofs.taking.LiveStage.feed_cells.Goals as goal

pub returns-in_err-tell_behind-clause-fed : goal.returns-in_err-tell_behind-clause-fed
returns-in_err-tell_behind-clause-fed g c =
    let i = c.loop-cell.cell-index in
    let cells = c.args.cells.now in
    let left = map bytes_in (drop (i + 1) cells) in
    let split : drop i cells ≡ c.cell-item.result ∷ drop (i + 1) cells = grind (arith, common_steps) in
    let first : map bytes_in (drop i cells) ≡ c.deref.result.now ∷ left = ap (map bytes_in) split ∙ ap (λ (b : List ℕ). b ∷ left) (sym c.deref.ensures.value) in
    let p = err_from_is_err_and c.from_residual.result c.from_residual.ensures.1 in
    let (whole, out, quiet, all, up) = c.loop-cell.invariant in
    let old = point_of g.W.Write.contents g.E.Write.contents c.args.self.now in
    let mid = point_of g.W.Write.contents g.E.Write.contents c.loop-cell.self in
    let fed : Point = record mid { session = c.feed.new.self } in
    let new = point_of g.W.Write.contents g.E.Write.contents c.tell_behind.new.self in
    let fault = c.in_err-tell_behind.field-0.0 in
    let told : IsWriteFault fault × HasSent fed new = c.in_err-tell_behind.ensures.told in
    rw (p.1, p.2)
    (torn c.args.number (map bytes_in cells) (map bytes_in (drop i cells)) left c.deref.result.now c.in-Err.fault old mid fed new fault up first c.in-Err.ensures.0 out quiet c.in-Err.ensures.1
    told.1.1 (inr (told.0, told.1.0)))

pub returns-in-Err-clause-fed : goal.returns-in-Err-clause-fed
returns-in-Err-clause-fed g c =
    let i = c.loop-cell.cell-index in
    let cells = c.args.cells.now in
    let left = map bytes_in (drop (i + 1) cells) in
    let split : drop i cells ≡ c.cell-item.result ∷ drop (i + 1) cells = grind (arith, common_steps) in
    let first : map bytes_in (drop i cells) ≡ c.deref.result.now ∷ left = ap (map bytes_in) split ∙ ap (λ (b : List ℕ). b ∷ left) (sym c.deref.ensures.value) in
    let (whole, out, quiet, all, up) = c.loop-cell.invariant in
    let old = point_of g.W.Write.contents g.E.Write.contents c.args.self.now in
    let mid = point_of g.W.Write.contents g.E.Write.contents c.loop-cell.self in
    let fed : Point = record mid { session = c.feed.new.self } in
    let new = point_of g.W.Write.contents g.E.Write.contents c.tell_behind.new.self in
    let same = c.deref-in-Err.ensures.value ∙ sym c.deref.ensures.value in
    let told = subst (λ (l : List ℕ). IsRefusalTold c.args.number l c.in-Err.fault fed new (Ok c.in_ok-tell_behind.field-0)) same c.in_ok-tell_behind.ensures.told in
    torn c.args.number (map bytes_in cells) (map bytes_in (drop i cells)) left c.deref.result.now c.in-Err.fault old mid fed new c.wants_memory.result up first c.in-Err.ensures.0 out quiet
    c.in-Err.ensures.1 told.1 (inl (told.0, c.wants_memory.ensures))

pub loop-cell-preserved : goal.loop-cell-preserved
loop-cell-preserved g c =
    let i = c.loop-cell.cell-index in
    let cells = c.args.cells.now in
    let left = map bytes_in (drop (i + 1) cells) in
    let split : drop i cells ≡ c.cell-item.result ∷ drop (i + 1) cells = grind (arith, common_steps) in
    let first : map bytes_in (drop i cells) ≡ c.deref.result.now ∷ left = ap (map bytes_in) split ∙ ap (λ (b : List ℕ). b ∷ left) (sym c.deref.ensures.value) in
    let (whole, out, quiet, all, up) = c.loop-cell.invariant in
    let old = c.loop-cell.self.session in
    let new = c.feed.new.self in (
      ap (λ (s : Live). s.broken) c.in_default.ensures.rest ∙ whole,
      out,
      quiet,
      λ s are. all s (subst (λ (l : List (List ℕ)). AreFedIn l old s) (sym first) (new, c.in_default.ensures, are)),
      λ cell f s are. up cell f s (subst (λ (l : List (List ℕ)). AreFedUpTo l cell f old s) (sym first) (inr (new, c.in_default.ensures, are))),
    )
