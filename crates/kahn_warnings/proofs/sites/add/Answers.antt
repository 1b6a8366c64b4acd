use Rattle.kahn_warnings.proofs.Common.{ap, contains, string_bytes, ◌∙◌}
use Rattle.kahn_warnings.proofs.Getting.{kept_one}
use Rattle.kahn_warnings.proofs.sites.add.Goals as goal

pub returns : goal.returns
returns c x = ap (λ l. contains l x) c.in-Ok.ensures ∙ kept_one c.args.names.now (string_bytes c.args.name.now.text) x
