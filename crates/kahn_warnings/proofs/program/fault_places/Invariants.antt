-- Those of the places so far.
use Rattle.kahn_warnings.proofs.Common.{flat_map, site_places, take, ◌≡◌}
use Rattle.kahn_warnings.proofs.program.fault_places.Given as goal

abbrev pub invariant-loop-site : goal.invariant-loop-site
invariant-loop-site l = l.places.items ≡ flat_map (site_places l.failure) (take l.site-index l.site-items)
