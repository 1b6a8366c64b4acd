use Rattle.kahn_warnings.proofs.Common.{ap, assigned_by, contains, fun_ext, varies_by, ◌||◌, ◌∙◌}
use Rattle.kahn_warnings.proofs.sites.varies_by.Goals as goal

pub returns : goal.returns
returns c =
    let test = assigned_by c.args.statement.now.action in
    c.varies.ensures ∙ ap (λ these. varies_by these c.args.expression.now.form)
    (fun_ext (λ x. c.in_ok-add_both.ensures.assigned x ∙ ap (λ ks. contains ks x || test x) c.new-names.ensures))
