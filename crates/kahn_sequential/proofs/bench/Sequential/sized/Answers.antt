use Rattle.kahn_sequential.proofs.Common.{◌≡◌, List, Some, ap, slice_get, subst, sym, AreCounts, Table, Tapped, CellView, mapped_at, told_in}
use Rattle.kahn_sequential.proofs.bench.Sequential.sized.Goals as goal

pub returns : goal.returns
returns c p d e =
    let x = mapped_at told_in c.self.inside.taps.items p d (subst (λ (cs : List CellView). slice_get cs p ≡ Some d) (sym (ap (λ (b : Table). b.cells) c.self.view_is)) e) in
    subst AreCounts (sym x.2) (c.all_sized.ensures p x.0 (subst (λ (l : List Tapped). slice_get l p ≡ Some x.0) (sym c.deref.ensures.value) x.1))
