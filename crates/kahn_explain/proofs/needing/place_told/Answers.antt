use Rattle.kahn_explain.proofs.Common.{AreNeedsFound}
use Rattle.kahn_explain.proofs.Firsts.{same_search}
use Rattle.kahn_explain.proofs.needing.place_told.Goals as goal

pub returns : goal.returns
returns c =
    let e = c.in_ok-seeker.ensures.seeking in
    let f = c.in_ok-found.found in
    (f, same_search (λ N I l. AreNeedsFound N I l c.args.place f) e.0 e.1 e.2 c.in_ok-found.ensures.found, c.found_end.ensures)
