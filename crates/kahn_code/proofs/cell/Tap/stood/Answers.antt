use Rattle.kahn_code.proofs.Common.{◌≡◌, sym, ap, ◌∙◌, subst, IsWellWired, network_of, inputs_of, StoodBy, Tapped, core_of, core_view, told_view}
use Rattle.kahn_code.proofs.{Readers.driven, Stand.stood_by}
use Rattle.kahn_code.proofs.cell.Tap.stood.Goals as goal

pub returns : goal.returns
returns g c =
    let i = c.self.inside in
    let t = i.network.value in
    let s = c.self.invariant.stands in
    let same : t ≡ c.args.network.now = ap (λ (v : Tapped). v.told.network) c.self.view_is ∙ c.requires in
    let wired = subst IsWellWired (sym same) c.program-program.ensures.wired in
    subst (λ (v : Tapped). StoodBy (network_of c.args.network.now) (inputs_of v.told.input) v.told.watch v.told.instance (told_view v.told)) c.self.view_is
    (subst (λ t. StoodBy (network_of t) (inputs_of i.input.value) i.progress.watch i.progress.instance (core_view (core_of i.progress))) same
    (stood_by (network_of t) (inputs_of i.input.value) i.progress.watch i.progress.instance (driven t wired) (core_of i.progress) s.0 s.1))
