use Rattle.kahn_texts.proofs.Common.{rules, ◌+◌, ◌≤◌, ◌-◌, length, ◌++◌, take, arith, length-append, length-take, Consumes-trans}
use Rattle.kahn_texts.proofs.read.read_counted.Goals as goal

pub returns-then-is_err-clause-text : goal.returns-then-is_err-clause-text
returns-then-is_err-clause-text g c =
    let n = c.in-Ok.count in
    let before = c.loop-chunk.bytes.items in
    let buf = c.read.new.buf in
    let fits : n ≤ c.args.limit + 1 - length before = search rules in
    let held : length before ≤ c.args.limit + 1 = search rules in (
      before ++ take n buf,
      Consumes-trans _ _ _ before (take n buf) c.loop-chunk.invariant.came c.in-Ok.ensures.bytes.0,
      omega (arith, fits, held, length-append before (take n buf), length-take n buf),
    )
