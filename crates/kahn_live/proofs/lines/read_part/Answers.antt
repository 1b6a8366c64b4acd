use Rattle.kahn_live.proofs.Common.{[], ◌≡◌, ◌≢◌, ◌∙◌, ◌+◌, ◌<◌, ◌≤◌, ap, append-nil, arith, length, rules, subst, sym, take, take_all, All-nil, Consumes-kept, Consumes-nil, FillKeeps, Consumes, most_kept}
use Rattle.std.proofs.BufReadLemmas.{Consumes_shown}
use Rattle.kahn_live.proofs.Cutting.{no_feed, ok_where, through_feed}
use Rattle.kahn_live.proofs.lines.read_part.Goals as goal

pub returns-then-eq : goal.returns-then-eq
returns-then-eq g c =
    let old = c.args.line.now.items in
    let fits : length old ≤ most_kept = search rules in
    ([], All-nil (λ b. b ≢ 10), Consumes-kept _ _ _ [] (Consumes-nil _) c.fill_buf.follows.holds-at-none.0, sym (ap (take most_kept) (append-nil old) ∙ take_all most_kept old fits))

pub returns-then-end-length : goal.returns-then-end-length
returns-then-end-length g c =
    let shown = c.in-Ok.shown.now in
    let end = c.length_before-end in
    let whole : end.result ≡ length shown = search rules in
    let all : length shown ≤ length shown = omega arith in
    let rested = c.fill_buf.follows.lender-at-none in
    let filled = subst (FillKeeps _ (g.B.Read.remaining rested) (g.B.BufRead.consumable_len rested)) c.in-Ok.is c.fill_buf.follows.holds-at-none in
    let moved = Consumes_shown _ _ _ _ shown (length shown) all c.in-Ok.ensures.front c.in-Ok.ensures.end filled.0 filled.1 c.consume.ensures.bytes in
    let read = ap (λ n. take n shown) (sym whole) ∙ sym (append-nil (take end.result shown)) in
    (take end.result shown, no_feed shown end.result end.ensures.stop, subst (Consumes _ _) read moved.0, ok_where c.keep.result _ c.keep.ensures (search rules))

pub returns : goal.returns
returns g c =
    let shown = c.in-Ok.shown.now in
    let end = c.length_before-end in
    let below : end.result < length shown = omega (arith, end.ensures.within, c.if-end-length.false) in
    let within : end.result + 1 ≤ length shown = omega (arith, below) in
    let rested = c.fill_buf.follows.lender-at-none in
    let filled = subst (FillKeeps _ (g.B.Read.remaining rested) (g.B.BufRead.consumable_len rested)) c.in-Ok.is c.fill_buf.follows.holds-at-none in
    let moved = Consumes_shown _ _ _ _ shown (end.result + 1) within c.in-Ok.ensures.front c.in-Ok.ensures.end filled.0 filled.1 c.consume-2.ensures.bytes in
    let read = through_feed shown end.result end.ensures.stop below in
    (take end.result shown, no_feed shown end.result end.ensures.stop, subst (Consumes _ _) read moved.0, ok_where c.keep.result _ c.keep.ensures (search rules))
