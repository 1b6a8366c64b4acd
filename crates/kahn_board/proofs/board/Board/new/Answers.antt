use Rattle.kahn_board.proofs.Common.{◌≡◌, ℕ, ◌+◌, ◌*◌, get_or, Option, Some, List, length, arith, sym, ap, ◌∙◌, subst, length-map, opening, Program, wires, Whole, opening_view, published, wired, events_told, AreFirstWords}
use Rattle.kahn_board.proofs.Opens.{given, opens, map_some_once}
use Rattle.kahn_board.proofs.board.Board.new.Goals as goal

pub new-requires : goal.new-requires
new-requires g c = let told = g.T.Reports.told in let after = g.T.Reports.after in let a = c.args in let w = wires a.network.now in let b = c.in-Ok.ensures in let words = c.in-Ok.words.items in
    let begin = opens told after w a.bound words a.published.now a.cells.items c.requires (subst (λ (k : ℕ). AreFirstWords k a.bound a.published.now words) b.wiring.counts.0 b.words) in
    subst (λ (k : Program × List ℕ × List ℕ × List _ × List (Option _)). Whole told (given after k.3) (wires k.0) record { bound = a.bound; events = events_told told k.3; published = published (wires k.0) k.1 } (opening k.2 k.4 (opening_view (wires k.0))))
    (λ i. (sym c.of.ensures i, ap (λ v. v.items) (sym c.of-2.ensures) i, sym c.as_slice.ensures.value i, ap (λ v. v.items) (sym c.of-3.ensures) i, sym c.into_slots-cells.ensures.2 i)) begin

pub invariant_of-board : goal.invariant_of-board
invariant_of-board g c = let told = g.T.Reports.told in let t = c.in-Ok-new.ensures.ok in let b = c.in-Ok.ensures in
    let key : wired c.in-Ok-new.table.shared.key ≡ wires c.args.network.now = ap wires (ap (λ k. k.network.value) t.5 ∙ c.of.ensures) in record {
      sized = (omega (arith, t.0, ap length c.as_slice.ensures.value, b.words.long, c.requires.numbers_are, b.wiring.counts.1), t.1 ∙ (ap length c.into_slots-cells.ensures.2 ∙ (length-map c.args.cells.items Some ∙ (c.requires.cells_are ∙ sym b.wiring.counts.0))));
      counts = (ap (λ w. w.instances) key ∙ sym b.wiring.counts.0, ap (λ w. w.channels) key ∙ sym b.wiring.counts.1);
      limits = b.wiring.limits;
      roomy = (c.into_slots-cells.ensures.0, omega (arith, c.into_slots-cells.ensures.1, c.args.cells.ok.0, c.args.cells.ok.1, c.requires.cells_are, b.wiring.counts.0));
      read = (b.wiring.readers.0, λ q near. b.wiring.readers.1 q near ∙ sym (ap (λ w. w.reader q) key));
    }

pub returns-in-Err-clause-refused : goal.returns-in-Err-clause-refused
returns-in-Err-clause-refused g c = map_some_once _ _ (sym c.out_of_slots.ensures ∙ (c.in-Err.ensures.err ∙ c.into_slots-cells.ensures.2))

pub returns-in-Ok-new-clause-published : goal.returns-in-Ok-new-clause-published
returns-in-Ok-new-clause-published g c = let t = c.in-Ok-new.ensures.ok in let b = c.in-Ok.ensures in λ q near.
    let now : published (wired c.in-Ok-new.table.shared.key) c.in-Ok-new.table.shared.key.words.value.items q ≡ published (wires c.args.network.now) c.in-Ok.words.items q = ap (λ k. published (wires k.network.value) k.words.value.items q) t.5 ∙ (λ i. published (wires (c.of.ensures i)) (c.of-2.ensures i).items q) in
    now ∙ (let two = b.words.twice q near in omega (arith, two, ap (λ (n : ℕ). get_or c.in-Ok.words.items (8 * (n + q)) 0) b.wiring.counts.0))
