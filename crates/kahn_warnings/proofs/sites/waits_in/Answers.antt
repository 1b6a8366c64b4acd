use Rattle.kahn_warnings.proofs.Common.{ap, contains, varies_by, ◌∙◌}
use Rattle.kahn_warnings.proofs.Lists.{form_waits}
use Rattle.kahn_warnings.proofs.sites.waits_in.Goals as goal

pub returns : goal.returns
returns c names =
    c.varies.ensures ∙ ap (λ ks. varies_by (contains ks) c.args.expression.now.form) c.new-none.ensures ∙ form_waits names c.args.expression.now.form
