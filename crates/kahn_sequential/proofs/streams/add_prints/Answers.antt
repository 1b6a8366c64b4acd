use Rattle.kahn_sequential.proofs.Common.{rules, ◌∙◌, add-one, ap, cond, [], ◌++◌, ◌∷◌, network_of, Print}
use Rattle.kahn_sequential.proofs.Printing.{print_more}
use Rattle.kahn_sequential.proofs.streams.add_prints.Goals as goal

pub loop-instance-preserved : goal.loop-instance-preserved
loop-instance-preserved c =
    let n = c.loop-instance.instance in
    let before = c.loop-instance.lines.items in
    let added = c.in_ok-add_line.ensures ∙ ap (λ b. before ++ cond b (Print n ∷ []) []) c.instance_prints-prints.ensures in
    rw (add-one n) (print_more (network_of c.args.network.now) n before _ _ (search rules) c.loop-instance.invariant added)
