-- What the cells of jobs keep.
use Rattle.kahn_pool.proofs.Common.{List, ap, ◌∙◌, length-map, Program, network_of, Lists, Kept, CellView, AreIdle, cells_of, Work, mapped_at, AreLists, AreKeptOf, count, idle}
use Rattle.kahn_sequential.proofs.Kept.{lists_of_cells}

pub idle_lists : {A : Type 0} (t : Program) (lists : Lists) (ws : List Work) → AreIdle t lists ws → (kept : List (Kept A)) → AreKeptOf (cells_of ws) kept →
    AreLists (network_of t) kept
idle_lists t lists ws idle kept h =
    lists_of_cells t (cells_of ws) (length-map ws (λ (w : Work). w.cell) ∙ idle.count)
    (λ p c e.
    let w = mapped_at (λ (w : Work). w.cell) ws p c e in
    let o = idle.each p w.0 w.1 in
    (ap (λ (d : CellView). d.network) w.2 ∙ o.network, ap (λ (d : CellView). d.instance) w.2 ∙ o.instance))
    kept h
