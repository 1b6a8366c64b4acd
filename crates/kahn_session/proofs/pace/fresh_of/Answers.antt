use Rattle.kahn_session.proofs.Common.{rules, ◌≡◌, ◌∙◌, ◌<◌, ◌≤◌, List, Some, length, map, drop, ap, sym, subst, slice_get, slice_index_or, slice_get-get_or, Line, Channel, flow_lines, so_far}
use Rattle.kahn_session.proofs.Fresh.{news_at, news_past, values_new}
use Rattle.kahn_session.proofs.pace.fresh_of.Goals as goal

pub fresh-requires : goal.fresh-requires
fresh-requires c =
    let lines = c.lines-lines.result.now in
    let n = c.args.number in
    let below : n < length lines = search rules in
    (n, subst (λ (l : List Line). slice_get l n ≡ Some (slice_index_or lines n (Channel 0))) c.lines-lines.ensures (slice_get-get_or lines n (Channel 0) below))

pub returns-then-number-lines : goal.returns-then-number-lines
returns-then-number-lines c =
    let past : length c.lines-lines.result.now ≤ c.args.number = search rules in
    let f = c.args.run.now.flow in
    c.none.ensures ∙ sym (news_past f.run (flow_lines f.run) (map length f.out) c.args.number (subst (λ (l : List Line). length l ≤ c.args.number) c.lines-lines.ensures past))

pub returns : goal.returns
returns c =
    let f = c.args.run.now.flow in
    let n = c.args.number in
    let within : n < length c.lines-lines.result.now = search rules in
    let below = subst (λ (l : List Line). n < length l) c.lines-lines.ensures within in
    let line = slice_index_or c.lines-lines.result.now n (Channel 0) in
    let at = subst (λ (l : List Line). slice_get l n ≡ Some line) c.lines-lines.ensures (slice_get-get_or c.lines-lines.result.now n (Channel 0) within) in
    c.values.ensures ∙ values_new f n line c.fresh.result.now.items at c.fresh.ensures
    ∙ ap (λ (l : List Line). drop (slice_index_or (map length f.out) n 0) (so_far f.run (slice_index_or l n (Channel 0)))) c.lines-lines.ensures
    ∙ sym (news_at f.run (flow_lines f.run) (map length f.out) n (Channel 0) below)
