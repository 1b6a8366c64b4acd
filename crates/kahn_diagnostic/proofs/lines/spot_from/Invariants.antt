-- The spot is one of the text, and not past the byte that is sought.
use Rattle.std.proofs.Common.{◌-◌, ◌≤◌}
use Rattle.kahn_diagnostic.specs.inner.Spots.{IsSpotOf}
use Rattle.kahn_diagnostic.proofs.lines.spot_from.Given as goal

abbrev pub invariant-bytes : goal.invariant-bytes
invariant-bytes l = IsSpotOf l.text l.spot × (l.spot.at ≤ l.from)

abbrev pub decreases-bytes : goal.decreases-bytes
decreases-bytes l = l.from - l.spot.at
