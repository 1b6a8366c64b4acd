use Rattle.kahn_streams.proofs.Common.{◌≡◌, take}
use Rattle.kahn_streams.proofs.tokens.Tokens.copied.Given as goal

abbrev pub ghost-series_of : goal.ghost-series_of
ghost-series_of g a = a._x.now.value

abbrev pub invariant-loop-packed : goal.invariant-loop-packed
invariant-loop-packed g l = l.rest.items ≡ take l.packed-index l.packed-items
