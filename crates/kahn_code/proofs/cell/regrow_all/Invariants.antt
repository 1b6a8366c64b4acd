use Rattle.kahn_code.proofs.Common.{◌≡◌, ◌++◌, drop, map, take, regrown_tap}
use Rattle.kahn_code.proofs.cell.regrow_all.Given as goal

abbrev pub ghost-regrow : goal.ghost-regrow
ghost-regrow g a = g.input

abbrev pub invariant-loop-number : goal.invariant-loop-number
invariant-loop-number g l = l.taps.items ≡ map (regrown_tap g.input) (take l.number l.fn.taps.items) ++ drop l.number l.fn.taps.items
