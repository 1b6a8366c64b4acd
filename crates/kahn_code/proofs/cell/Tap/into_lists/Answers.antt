use Rattle.kahn_code.proofs.Common.{◌≡◌, length, sym, ◌∙◌, subst, map, length-map, network_of, instance_at}
use Rattle.kahn_code.proofs.Behind.{behind_length}
use Rattle.kahn_code.proofs.cell.Tap.into_lists.Goals as goal

pub returns-clause-parameters : goal.returns-clause-parameters
returns-clause-parameters g c =
    let own = c.self.inside.progress in
    let long = behind_length own.gone.value.kept (map (λ v. v.items) own.kept.items) ∙ length-map own.kept.items (λ v. v.items) in
    subst (λ v. length own.kept.items ≡ length (instance_at (network_of v.told.network) v.told.instance).actuals) c.self.view_is (sym long ∙ c.self.invariant.stands.1.kept_size)
