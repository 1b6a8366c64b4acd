-- What was asked of a declaration holds of the process that it declares.
use Rattle.kahn_graph.proofs.Common.{Declaration, List, Process, Some, [], declaration_prints, map, process_at, process_prints, slice_get, suc, zero, ℕ, ◌∷◌, ◌≡◌}
use Rattle.kahn_streams.specs.declared.tree.Declaration.TheVariants as D

pub printed_at : (ds : List Declaration) (k : ℕ) (p : Process) → process_at ds k ≡ Some p → slice_get (map declaration_prints ds) k ≡ Some (process_prints p)
printed_at [] zero p h = cc
printed_at [] (suc k) p h = cc
printed_at (D.Channels kind role names ∷ ds) zero p h = cc
printed_at (D.Process q ∷ ds) zero p h = cc
printed_at (d ∷ ds) (suc k) p h = printed_at ds k p h
