use Rattle.kahn_live.proofs.Common.{◌≡◌, ◌-◌, ◌≤◌, length, min, rules, take, most_kept}
use Rattle.kahn_live.proofs.Cutting.{kept_front, kept_where}
use Rattle.kahn_live.proofs.lines.keep.Goals as goal

pub returns : goal.returns
returns c =
    let old = c.args.line.now.items in
    let bytes = c.args.bytes.now in
    let fits : length old ≤ most_kept = search rules in
    let many : c.min.result ≡ min (most_kept - length old) (length bytes) = search rules in
    kept_where c.extend_from_slice.result old (take c.min.result bytes) _ _ c.extend_from_slice.ensures.items (kept_front most_kept old bytes c.min.result many fits)
