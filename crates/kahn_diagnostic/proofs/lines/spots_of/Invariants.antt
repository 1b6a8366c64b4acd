-- The spots so far are of the text, and so is the next.
use Rattle.std.proofs.Common.{◌-◌, All, length}
use Rattle.kahn_diagnostic.specs.inner.Spots.{IsSpotOf}
use Rattle.kahn_diagnostic.proofs.lines.spots_of.Given as goal

abbrev pub invariant-bytes : goal.invariant-bytes
invariant-bytes l = All (IsSpotOf l.text) l.spots.items × IsSpotOf l.text l.spot

abbrev pub decreases-bytes : goal.decreases-bytes
decreases-bytes l = length l.text - l.spot.at
