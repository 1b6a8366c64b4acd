use Rattle.kahn_board.proofs.Common.{rules, None, Option, Some, Board, ℕ, ◌<◌, ◌≡◌, get_or, get_or_default, sym, ap, refl, arith, ◌%◌, ◌∙◌, belongs, wired, after_waking, TableId, steps_of, dite, ℕ_discrete}
use Rattle.kahn_board.proofs.{Closes.is_full, Owed.publishes_at, Returns.woke, Sole.reader_in, Sole.writer_in, Placed.placed, Seats.room_for, Seats.facts_took, Seats.facts_waking}
use Rattle.kahn_board.proofs.seat.Seat.publish.Goals as goal

-- the reader that is kept of a channel
kept : {T : Type 0} (b : Board T) (c : ℕ) (d : Option ℕ) → c < b.channels → d ≡ get_or b.readers.items c d → (wired b.table.shared.key).reader c ≡ d
kept b c d lt e = sym (e ∙ (get_or_default b.readers.items c d None (omega (arith, lt, b.read.0)) ∙ b.read.1 c lt))

pub swap-found-requires : goal.swap-found-requires
swap-found-requires g c = let b = c.args.board.now in let k = b.table.shared.key in let few = c.requires.few in let writer = c.requires.writer in (
  search rules,
  omega (arith, c.channel_word-word.ensures, few.0, b.sized.0, b.counts.0, b.counts.1),
  publishes_at _ _ _ _ _ _ _ c.args.channel _ _ writer.0 c.args.count _ (placed b c.args.self.now c.requires.board) c.channel_word-word.ensures (omega (arith, c.channel_word-word.ensures)) (omega (arith, few.0, b.counts.1)) writer.1
      (writer_in k.network.value _ _ writer.1) writer.2 (reader_in k.network.value c.args.channel) refl,
  (λ r _ t. dite (ℕ_discrete (r % 2) 0) (λ even. ap steps_of (t.0 even)) (λ odd. ap steps_of (t.1 (omega (arith, odd))).6.3)),
)

pub unreachable-requires : goal.unreachable-requires
unreachable-requires g c = let b = c.args.board.now in let k = b.table.shared.key in
    let odd : c.swap-found.result % 2 ≡ 1 = (let ne = c.if-found-eq0.false in omega arith) in let f = c.swap-found.ensures.2.1 odd in
    is_full _ _ (sym (kept b c.args.channel c.index.result.now c.requires.few.0 c.index.ensures) ∙ (ap (wired k).reader (omega (arith, c.channel_word-word.ensures)) ∙ f.3)) c.in_default.is

pub push_front_reserved-requires : goal.push_front_reserved-requires
push_front_reserved-requires g c = let b = c.args.board.now in let k = b.table.shared.key in let me = c.args.self.now in
    let odd : c.swap-found.result % 2 ≡ 1 = (let ne = c.if-found-eq0.false in omega arith) in let t = c.swap-found.ensures.2.1 odd in let inside = reader_in k.network.value _ _ t.3 in
    omega (arith, me.held.ok.0, room_for me.seat.me me.seat.table_id _ _ t.0 me.facts t.6.4 (omega (arith, inside, b.counts.0, b.sized.1, ap (λ (z : TableId). z.slots) c.requires.board)))

pub invariant_of-self-2 : goal.invariant_of-self-2
invariant_of-self-2 g c = let b = c.args.board.now in let k = b.table.shared.key in let own = belongs g.T.Reports.after k in let w = wired k in let f = c.swap-found.ensures in let told = g.T.Reports.told in let me = c.args.self.now in
    let odd : c.swap-found.result % 2 ≡ 1 = (let ne = c.if-found-eq0.false in omega arith) in
    let reads : w.reader c.args.channel ≡ Some c.in-Some.reader = kept b c.args.channel c.index.result.now c.requires.few.0 c.index.ensures ∙ c.in-Some.is in
    let t = woke told own w _ me.seat.me c.swap-found.new.seat.me _ c.args.channel c.swap-found.result c.in-Some.reader c.args.count (omega (arith, c.channel_word-word.ensures)) f.2 odd refl reads in
    let inside = reader_in k.network.value c.args.channel c.in-Some.reader reads in record {
      facts = facts_took told own w (after_waking me.seat.me.0 c.args.channel c.args.count c.in-Some.reader t.0, me.seat.me.1) c.swap-found.new.seat.me me.seat.table_id _ me.held.items _ _ _ _ t.1
          (facts_waking me.seat.me me.seat.table_id me.held.items _ c.args.channel c.args.count c.in-Some.reader t.0 me.facts) f.0 t.4 c.push_front_reserved.ensures.items c.push_front_reserved.ensures.capacity
          (omega (arith, inside, b.counts.0, b.sized.1, ap (λ (z : TableId). z.slots) c.requires.board));
    }

pub returns : goal.returns
returns g c = let b = c.args.board.now in let k = b.table.shared.key in let own = belongs g.T.Reports.after k in let w = wired k in let f = c.swap-found.ensures in let told = g.T.Reports.told in
    let odd : c.swap-found.result % 2 ≡ 1 = (let ne = c.if-found-eq0.false in omega arith) in
    let reads : w.reader c.args.channel ≡ Some c.in-Some.reader = kept b c.args.channel c.index.result.now c.requires.few.0 c.index.ensures ∙ c.in-Some.is in
    let t = woke told own w _ c.args.self.now.seat.me c.swap-found.new.seat.me _ c.args.channel c.swap-found.result c.in-Some.reader c.args.count (omega (arith, c.channel_word-word.ensures)) f.2 odd refl reads in
    ((f.0, f.1), (c.swap-found.result, (odd, reads, t)))
