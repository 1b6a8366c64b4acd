-- The warnings of the places so far.
use Rattle.kahn_warnings.proofs.Common.{flat_map, site_warnings, take, ◌++◌, ◌≡◌}
use Rattle.kahn_warnings.proofs.program.add_declaration.Given as goal

abbrev pub invariant-loop-site : goal.invariant-loop-site
invariant-loop-site l = l.warnings.items ≡ l.initial.warnings.items ++ flat_map site_warnings (take l.site-index l.site-items)
