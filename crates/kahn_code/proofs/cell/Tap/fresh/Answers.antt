use Rattle.kahn_code.proofs.Common.{arith, ◌≡◌, ◌<◌, ◌++◌, length, sym, subst, tokens}
use Rattle.kahn_code.proofs.Behind.{fresh_of, within_behind}
use Rattle.kahn_code.proofs.cell.Tap.fresh.Goals as goal

pub index-requires : goal.index-requires
index-requires g c =
    let own = c.self.inside.progress in
    let lt = within_behind (λ v. v.items) own.gone.value.kept own.kept.items c.args.parameter (subst (λ v. c.args.parameter < length v.told.kept) (sym c.self.view_is) c.requires) in
    omega (arith, lt, own.kept.ok.0)

pub returns : goal.returns
returns g c =
    let own = c.self.inside.progress in
    let gone = own.gone.value.kept in
    let lt = subst (λ v. c.args.parameter < length v.told.kept) (sym c.self.view_is) c.requires in
    subst (λ v. tokens v.told.kept c.args.parameter ≡ tokens v.gone.kept c.args.parameter ++ c.index.result.now.items) c.self.view_is
    (fresh_of (λ v. v.items) gone own.kept.items c.args.parameter c.index.result.now lt c.index.ensures)
