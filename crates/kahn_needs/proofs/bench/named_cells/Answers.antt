use Rattle.kahn_needs.proofs.Common.{◌∙◌, length, instance_at, network_of}
use Rattle.kahn_needs.proofs.Benched.{fresh_more, fresh_one}
use Rattle.kahn_needs.proofs.bench.named_cells.Goals as goal

pub loop-instance-preserved : goal.loop-instance-preserved
loop-instance-preserved g c =
    let made = c.in_ok-new.ensures in
    let n = c.loop-instance.instance in
    fresh_more c.args.network.now g.input c.args.watch c.loop-instance.cells.items c.push.new.self.items n c.in_ok-new.field-0 c.loop-instance.invariant
    (fresh_one c.args.network.now g.input c.args.watch n (length (instance_at (network_of c.args.code.now.network.value) n).actuals) c.in_ok-new.field-0
    (made.names.0 ∙ c.requires, made.names.1, made.names.2, made.names.3) made.none made.parameters)
    c.in_ok-push.ensures.items
