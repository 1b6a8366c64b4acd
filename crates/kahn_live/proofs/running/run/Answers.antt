use Rattle.kahn_live.proofs.Common.{◌∙◌, inr, refl, Config}
use Rattle.kahn_live.proofs.running.run.Goals as goal

pub returns-in-Ok-checked : goal.returns-in-Ok-checked
returns-in-Ok-checked g c =
    let old = c.args.options.config in
    let config : Config = record { workers = old.workers; quantum = old.quantum; bound = old.bound; watch = c.in-Ok.watch } in
    inr (inr (c.in-Ok-checked.network, config, c.in-Ok-checked.ensures, (c.in-Ok.ensures ∙ c.name_watched.ensures, refl), c.run_network.ensures))
