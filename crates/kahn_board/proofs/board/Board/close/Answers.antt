use Rattle.kahn_board.proofs.Common.{arith, ne_eqb, eqb, ◌≡◌, ℕ, Bool, cond, [], ◌∷◌, map, length, sym, ap, ◌∙◌, Some, map-append, IsSome, subst, refl, some, some-injective, get_elem?, slots_filled, slots_items, belongs, wired, dealt}
use Rattle.std.proofs.lemmas.List.{length-append}
use Rattle.kahn_board.proofs.{Reseats.all_home, Closes.one_more, Closes.all_read, Closes.still_filled, Closes.emptied, Ends.closes}
use mathlib.Core.Bool.{not}
use Rattle.kahn_board.proofs.board.Board.close.Goals as goal

pub unwrap-requires : goal.unwrap-requires
unwrap-requires g c = let b = c.args.self in let told = g.T.Reports.told in let v = c.loop-i.invariant in let f = c.close_with-closed.ensures.values.2 in let k = b.table.shared.key in let i = c.loop-i.i in
    let home = all_home told (belongs g.T.Reports.after k) (wired k) (dealt told k) f.0 f.1.0 _ _ f.1.1 c.requires.1 c.requires.2.0 i (omega (arith, c.loop-i-test.true, b.counts.0)) in
    subst (λ o. IsSome o) (sym (some-injective c.take.result (Some home.0) (sym c.take.ensures.value ∙ (ap (λ l. get_elem? l i) v.3 ∙ f.4 i (Some home.0) home.1)))) refl

pub push_reserved-requires : goal.push_reserved-requires
push_reserved-requires g c = let v = c.loop-i.invariant in omega (arith, v.5, v.6, c.args.self.roomy.1, c.loop-i-test.true)

pub loop-i-preserved : goal.loop-i-preserved
loop-i-preserved g c = let v = c.loop-i.invariant in let e = c.take.ensures in let i = c.loop-i.i in let old = slots_filled c.loop-i.closed.slots in let new = slots_filled c.take.new.self.slots in let cell = c.unwrap.result in (
  (λ k near past. still_filled old new i k e.others.1 (λ is. past (omega arith)) (v.0 k (omega (arith, e.others.2)) (λ h. past (omega arith)))),
  (λ k below. emptied old new i k e.others.1 (λ ne. v.1 k (omega arith))),
  e.others.2 ∙ v.2,
  e.others.0 ∙ v.3,
  one_more _ _ (map Some c.loop-i.cells.items) _ i (Some cell) v.3 v.4 (e.value ∙ ap some c.unwrap.ensures) (ap (map Some) c.push_reserved.ensures.items ∙ map-append Some c.loop-i.cells.items (cell ∷ [])),
  c.push_reserved.ensures.capacity ∙ v.5,
  omega (arith, v.6, ap length c.push_reserved.ensures.items, length-append c.loop-i.cells.items (cell ∷ [])),
)

pub returns : goal.returns
returns g c = let b = c.args.self in let told = g.T.Reports.told in let v = c.loop-i.invariant in let f = c.close_with-closed.ensures.values.2 in let k = b.table.shared.key in let own = belongs g.T.Reports.after k in let w = wired k in let d = dealt told k in
    let xs = slots_items c.close_with-closed.result.slots in let n = b.instances in
    let long : length xs ≡ n = omega (arith, f.3, f.1.0.ruled.deep, b.counts.0) in
    let is = all_read xs (map Some c.loop-i.cells.items) c.loop-i.i n long c.loop-i.auto.i-end c.loop-i-test.false v.4 in
    closes told own w d f.0 f.1.0 _ _ f.1.1 c.requires.1 c.requires.2 _ xs _ f.2 f.3 f.4 is _ _ c.word-halted.result c.budget_word-budget_word.ensures c.halted_word-halted_word.ensures c.word-budget.ensures c.word-halted.ensures (λ ne. ap not (ne_eqb c.word-halted.result 0 ne))
    (λ yes z. let f : Bool → ℕ = λ b. cond b 1 0 in let e : f (not (eqb c.word-halted.result 0)) ≡ 0 = ap (λ (n : ℕ). f (not (eqb n 0))) z in absurd (omega (arith, e, ap f yes)))
