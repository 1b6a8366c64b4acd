use Rattle.kahn_streams.proofs.Common.{rules, ◌≡◌, ◌∙◌, sym, subst, Process, IsMadeOf}
use Rattle.kahn_streams.specs.declared.tree.Declaration.TheVariants as D
use Rattle.kahn_streams.proofs.{Kept_network.declared_number, Kept_network.instance_kept}
use Rattle.kahn_streams.proofs.network.Network.instance.Goals as goal

process_is : {a b : Process} → D.Process a ≡ D.Process b → a ≡ b
process_is i = cc

pub returns-clause-declared : goal.returns-clause-declared
returns-clause-declared c =
    let p = c.args.instance in
    let q = c.in-Process.process in
    let here = (declared_number _ _ _ _ c.self.invariant c.self.view_is p c.index-declaration.result.now c.requires (search rules)).1 c.index.result.now (search rules) in
    let same : here.process ≡ q = process_is (sym here.is ∙ c.in-Process.is) in
    let made = here.made c.index-in-Process.result.now (search rules) in
    let now = subst (λ z. IsMadeOf z p q c.index-in-Process.result.now.arguments.items) c.self.view_is (subst (λ z. IsMadeOf c.self.inside.program p z c.index-in-Process.result.now.arguments.items) same made) in
    let handed = now.3 in
    (now.0, now.1, now.2, search (rules, handed))

pub returns-clause-made : goal.returns-clause-made
returns-clause-made c =
    let made = returns-clause-declared c in
    instance_kept c.args.self.now c.args.instance c.in-Process.process _ made
