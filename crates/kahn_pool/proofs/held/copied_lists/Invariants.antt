use Rattle.kahn_pool.proofs.Common.{◌≡◌, ◌≤◌, length, take, cells_of, AreKeptOf}
use Rattle.std.specs.Vec.{vec_capacity}
use Rattle.kahn_pool.proofs.held.copied_lists.Given as goal

abbrev pub invariant-loop-instance : goal.invariant-loop-instance
invariant-loop-instance l =
    AreKeptOf (cells_of (take l.instance l.idles)) l.lists.items × (length l.lists.items ≡ l.instance) × (length l.idles ≤ vec_capacity l.lists)
